-- A text that is cut short, against one that was there before.
use Rattle.std.proofs.Common.{◌≡◌, ℕ, ◌≤◌, true, ◌&&◌, nat_eq, List, [], ◌∷◌, ◌++◌, length, take, drop, refl, ap, arith, eq-eqb}
use Rattle.std.specs.Cmp.Lexicographic.{pointwise}

same_as_itself : (text : List ℕ) → pointwise nat_eq text text ≡ true
same_as_itself [] = refl
same_as_itself (b ∷ bs) = rw (eq-eqb b b refl) (same_as_itself bs)

-- it goes on as that one where it begins like it
pub begins : (text before : List ℕ) → length text ≤ length before → pointwise nat_eq (text ++ drop (length text) before) before ≡ pointwise nat_eq text (take (length text) before)
begins [] before short = same_as_itself before
begins (b ∷ bs) [] short = absurd (omega arith)
begins (b ∷ bs) (c ∷ cs) short = ap (λ rest. nat_eq b c && rest) (begins bs cs (omega arith))
