-- The names of keys are short.
use Rattle.std.proofs.Common.{◌≡◌, ℕ, ◌≤◌, zero, suc, true, List, [], ◌∷◌, length, refl, arith}
use Rattle.std.specs.Prelude.{slice_index_or, nat_le}
use Rattle.std.specs.List.{list_all}
use Rattle.std.proofs.lemmas.Bool.{leb-true, and_parts}
use Rattle.accept_model.specs.Keys.{keys, key_names, name_of}

short_in : (names : List (List ℕ)) (n : ℕ) → list_all (λ name. nat_le (length name) 20) names ≡ true → length (slice_index_or names n []) ≤ 20
short_in [] n all = omega arith
short_in (x ∷ xs) zero all = leb-true _ _ (and_parts (nat_le (length x) 20) (list_all (λ name. nat_le (length name) 20) xs) all).0
short_in (x ∷ xs) (suc n) all = short_in xs n (and_parts (nat_le (length x) 20) (list_all (λ name. nat_le (length name) 20) xs) all).1

names_short : list_all (λ name. nat_le (length name) 20) key_names ≡ true
unfolding keys key_names
names_short = refl

pub name_short : (key : ℕ) → length (name_of key) ≤ 20
name_short key = short_in key_names key names_short
