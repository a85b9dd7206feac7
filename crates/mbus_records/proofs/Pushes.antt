-- Bytes that are appended one after the other.
use Rattle.std.proofs.Common.{◌≡◌, ℕ, List, [], ◌∷◌, ◌++◌, append_assoc}

pub three_parts : (x0 x1 x2 x3 a b c : List ℕ) → x1 ≡ x0 ++ a → x2 ≡ x1 ++ b → x3 ≡ x2 ++ c → x3 ≡ x0 ++ (a ++ b ++ c)
three_parts x0 x1 x2 x3 a b c pa pb pc = rw (pc, pb, pa) (simp append_assoc)

-- an information field, a unit and a value
pub with_unit : (x0 x1 x2 x3 a c : List ℕ) (unit : ℕ) → x1 ≡ x0 ++ a → x2 ≡ x1 ++ unit ∷ [] → x3 ≡ x2 ++ c → x3 ≡ x0 ++ (a ++ unit ∷ c)
with_unit x0 x1 x2 x3 a c unit pa pb pc = rw (pc, pb, pa) (simp append_assoc)

pub five_parts : (x0 x1 x2 x3 x4 x5 a b c d e : List ℕ)
    → x1 ≡ x0 ++ a → x2 ≡ x1 ++ b → x3 ≡ x2 ++ c → x4 ≡ x3 ++ d → x5 ≡ x4 ++ e
    → x5 ≡ x0 ++ (a ++ b ++ c ++ d ++ e)
five_parts x0 x1 x2 x3 x4 x5 a b c d e pa pb pc pd pe = rw (pe, pd, pc, pb, pa) (simp append_assoc)
