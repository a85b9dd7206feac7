-- What a buffer holds after a read.
use Rattle.std.specs.Prelude.{◌≡◌, ◌↔◌, ℕ, List, [], ◌++◌, length}

-- so many bytes came behind those that were held
pub record Fills (n : ℕ) (Tells : Type 0) (held held' left left' : List ℕ) : Type 0 where
  pub bytes : List ℕ
  pub behind : held' ≡ held ++ bytes
  pub count : length bytes ≡ n
  pub delivered : Tells → left ≡ bytes ++ left'
  pub at_end : Tells → (n ≡ 0) ↔ (left ≡ [])
