-- The offset of a field that breaks its rule lies within its slot.
use Rattle.std.proofs.Common.{◌≡◌, ℕ, ◌<◌, Bool, true, false, List, [], ◌∷◌, arith, Option, None, Some, Err, refl, ap, subst, cond}
use Rattle.std.specs.Prelude.{nat_lt}
use Rattle.std.specs.List.{list_all}
use Rattle.std.proofs.lemmas.Bool.{and_parts}
use Rattle.std.proofs.lemmas.Bool.Decides.{nat_tests}
use Rattle.memory_model.specs.Fields.{Field, first_broken, unless_broken}
use Rattle.memory_model.specs.Slot.{record_in, record_fields, month_fields, record_of}

step : (keeps : Bool) (at' at : ℕ) (rest : Option ℕ) → nat_lt at' 1280 ≡ true → (rest ≡ Some at → at < 1280) → cond keeps rest (Some at') ≡ Some at → at < 1280
step true at' at rest here later is = later is
step false at' at rest here later is = let same : at' ≡ at = cc in subst (λ (n : ℕ). n < 1280) same (grind (arith, nat_tests))

first_low : (fs : List Field) (bytes : List ℕ) (at : ℕ) → list_all (λ f. nat_lt f.at 1280) fs ≡ true → first_broken fs bytes ≡ Some at → at < 1280
first_low [] bytes at all is = absurd cc
first_low (f ∷ fs) bytes at all is =
    let parts = and_parts (nat_lt f.at 1280) (list_all (λ g. nat_lt g.at 1280) fs) all in
    step (f.keeps bytes) f.at at (first_broken fs bytes) parts.0 (first_low fs bytes at parts.1) is

broken : {Value : Type 0} (found : Option ℕ) (held : Value) (at : ℕ) → unless_broken found held ≡ Err at → found ≡ Some at
broken None held at is = absurd cc
broken (Some n) held at is = let same : n ≡ at = cc in ap (λ (k : ℕ). Some k) same

fields_low : list_all (λ f. nat_lt f.at 1280) record_fields ≡ true
unfolding record_fields month_fields
fields_low = refl

pub within_slot : (bytes : List ℕ) (at : ℕ) → record_in bytes ≡ Err at → at < 1280
unfolding record_in
within_slot bytes at is = first_low record_fields bytes at fields_low (broken (first_broken record_fields bytes) (record_of bytes) at is)
