-- Numbers that are bytes.
use Rattle.std.specs.Prelude.{ℕ, ◌<◌, List}
use Rattle.std.specs.List.{All}

abbrev pub AreBytes : List ℕ → Type 0
AreBytes numbers = All (λ n. n < 256) numbers
