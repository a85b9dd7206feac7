-- What a cut of the power leaves of the range that was being written.
use Rattle.std.specs.Prelude.{ℕ, ◌-◌, List, [], ◌∷◌, ◌++◌, length, take, drop, replicate}
use Rattle.trace_model.specs.Images.{Range, replaced}

-- the first bytes of a range, and a byte in the place of each other
abbrev pub torn : ℕ → ℕ → List ℕ → List ℕ
torn keep fill bytes = take keep bytes ++ replicate (length bytes - keep) fill

-- a memory whose range that was stored last is torn, of these ranges, the last one first; the same where there is none
abbrev pub last_torn : ℕ → ℕ → List Range → List ℕ → List ℕ
last_torn keep fill [] memory = memory
last_torn keep fill (r ∷ rs) memory = replaced memory r.at (torn keep fill (take (length r.bytes) (drop r.at memory)))

-- where the range lies that was stored last, and how many bytes it has; none where there is no such range
abbrev pub last_at : List Range → ℕ
last_at [] = 0
last_at (r ∷ rs) = r.at

abbrev pub last_len : List Range → ℕ
last_len [] = 0
last_len (r ∷ rs) = length r.bytes
