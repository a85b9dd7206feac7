-- What a read takes from the bytes that are left.
use Rattle.std.specs.Prelude.{◌≡◌, ◌↔◌, ℕ, List, [], ◌++◌, take, Result, MatchResult}

-- so many bytes, none exactly at the end; a read that fails takes nothing
abbrev pub ReadGives : {E : Type 0} → List ℕ → List ℕ → Result ℕ E → List ℕ → Type 0
ReadGives left left' result into = MatchResult result (λ n. (left ≡ take n into ++ left') × ((n ≡ 0) ↔ (left ≡ []))) (λ _. left' ≡ left)
