-- Lists of days and entries that are joined.
use Rattle.std.proofs.Common.{◌≡◌, ℕ, ◌-◌, ◌+◌, ◌<◌, ◌≤◌, ◌⊎◌, nat_le, List, [], ◌∷◌, ◌++◌, length, drop, refl, sym, ap, ◌∙◌, arith, true, ◌&&◌, inl, inr, length-append}
use Rattle.std.specs.List.{list_all}
use Rattle.std.proofs.lemmas.Bool.{cases_lt, and_parts, and_from, leb-true}
use Rattle.std.proofs.lemmas.List.{drop-append-le, drop-drop, length-drop}
use Rattle.calendar_model.specs.Entries.{last_or, latest, never_falls}

module _ {Item : Type 0} where
  pub last_or-joined : (before : Item) (xs ys : List Item) → last_or before (xs ++ ys) ≡ last_or (last_or before xs) ys
  last_or-joined before [] ys = refl
  last_or-joined before (x ∷ xs) ys = last_or-joined x xs ys

  pub latest-joined : (keep : ℕ) (xs ys : List Item) → latest keep (latest keep xs ++ ys) ≡ latest keep (xs ++ ys)
  latest-joined keep xs ys = by_length (cases_lt keep (length xs))
    where
      few : length xs ≤ keep → latest keep xs ≡ xs
      few h = let none : length xs - keep ≡ 0 = omega arith in ap (λ n. drop n xs) none

      by_length : (keep < length xs) ⊎ (length xs ≤ keep) → latest keep (latest keep xs ++ ys) ≡ latest keep (xs ++ ys)
      by_length (inr short) = ap (λ zs. latest keep (zs ++ ys)) (few short)
      by_length (inl long) =
          let d = length xs - keep in
          let left : length (drop d xs ++ ys) - keep ≡ length ys = omega (arith, length-append (drop d xs) ys, length-drop d xs) in
          let right : length (xs ++ ys) - keep ≡ d + length ys = omega (arith, length-append xs ys) in
          ap (λ n. drop n (drop d xs ++ ys)) left
          ∙ ap (drop (length ys)) (sym (drop-append-le d xs ys (omega arith)))
          ∙ drop-drop (length ys) d (xs ++ ys)
          ∙ ap (λ n. drop n (xs ++ ys)) (sym right)

-- what is at least y is at least x, for x up to y
all_lower : (x y : ℕ) (zs : List ℕ) → x ≤ y → list_all (nat_le y) zs ≡ true → list_all (nat_le x) zs ≡ true
all_lower x y [] le h = refl
all_lower x y (z ∷ zs) le h = let rest = all_lower x y zs le (grind arith) in grind arith

-- days that go on from the last of earlier days
pub never_falls-joined : (day : ℕ) (xs ys : List ℕ) → never_falls (day ∷ xs) ≡ true → never_falls (last_or day xs ∷ ys) ≡ true → never_falls (day ∷ (xs ++ ys)) ≡ true
never_falls-joined day [] ys first rest = rest
never_falls-joined day (x ∷ xs) ys first rest =
    let here = and_parts (nat_le day x && list_all (nat_le day) xs) (never_falls (x ∷ xs)) first in
    let low = and_parts (nat_le day x) (list_all (nat_le day) xs) here.0 in
    let later : never_falls (x ∷ (xs ++ ys)) ≡ true = never_falls-joined x xs ys here.1 rest in
    let above = and_parts (list_all (nat_le x) (xs ++ ys)) (never_falls (xs ++ ys)) later in
    and_from _ _ (and_from _ _ low.0 (all_lower day x (xs ++ ys) (leb-true day x low.0) above.0)) later
