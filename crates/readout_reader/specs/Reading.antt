-- What calls that read bytes answer.
use Rattle.std.specs.Prelude.{◌≡◌, ℕ, ◌-◌, List, None, Some, Result, Ok, Err}
use Rattle.reading_model.specs.Rules.{Rule, first_broken}
use Rattle.readout_reader.specs.declared.bad_place.BadPlace.{BadPlace}
use Rattle.readout_reader.specs.declared.broken.Broken.{Broken}

-- what a call answered, seen by view, is what the definition says, and so is the place of the first broken rule
abbrev pub Reads : {X Y : Type 0} → (X → Y) → Result X BadPlace → Result Y ℕ → Type 0
Reads view (Ok x) said = said ≡ Ok (view x)
Reads view (Err e) said = said ≡ Err e.at

-- the same, where a place is told by the bytes that are left there
abbrev pub ReadsLeft : {X Y : Type 0} → (X → Y) → Result X Broken → Result Y ℕ → Type 0
ReadsLeft view (Ok x) said = said ≡ Ok (view x)
ReadsLeft view (Err e) said = said ≡ Err e.left

-- a call that looks at some rules alone
abbrev pub Passes : {X : Type 0} → List Rule → Result X BadPlace → Type 0
Passes rules (Ok x) = first_broken rules ≡ None
Passes rules (Err e) = first_broken rules ≡ Some e.at

-- a call that reads the bytes up to a place, where a place is told by the bytes that are left there
abbrev pub ReadsAt : {X Y : Type 0} → (X → Y) → Result X BadPlace → (end : ℕ) → Result Y ℕ → Type 0
ReadsAt view (Ok x) end said = said ≡ Ok (view x)
ReadsAt view (Err e) end said = (left : ℕ) × (said ≡ Err left) × (e.at ≡ end - left)
