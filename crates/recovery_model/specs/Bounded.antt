-- How near the energy of the record that a memory holds is to the exact energy of the events that the record stands for.
use Rattle.std.specs.Prelude.{◌⊎◌, ℕ, ◌+◌, ◌*◌, ◌≤◌, pos, ◌-ℤ◌, List, [], ◌∷◌, ◌++◌}
use Rattle.std.proofs.Common.{inl, inr}
use Rattle.metering_model.specs.Events.{Kept}
use Rattle.metering_model.specs.Records.{MeterRecord, StandsFor}
use Rattle.integral_model.specs.Integral.{IsChoice, IsNear, Temps, counted_litres, exact_integral}
use Rattle.config_model.specs.Configuration.{Configuration}
use Rattle.trace_model.specs.Trace.{Trace}
use Rattle.pairing_model.specs.Settings.{settings_for}
use Rattle.recovery_model.specs.Right.{IsRight, StandsForNext}

-- The energy that the record has more than the opening record o differs from the exact integral over the events, if these
-- were the temperatures, by at most the bound that it has more than o, and by at most 600 mJ a counted litre.
pub record IsWithinBound (c : Configuration) (o held : MeterRecord) (events : List Kept) (choice : ℕ → Temps) : Type 0 where
  pub near : IsNear (held.register.energy_mj -ℤ o.register.energy_mj) (pos held.register.bound_mj -ℤ pos o.register.bound_mj) (exact_integral (settings_for c) o choice events)
  pub finer : IsNear (held.register.energy_mj -ℤ o.register.energy_mj) (pos (600 * counted_litres (settings_for c) o events)) (exact_integral (settings_for c) o choice events)

-- the events that the record stands for: those kept, or these and the one that is under way
abbrev pub events_of : {c : Configuration} {o : MeterRecord} {lines : List (List ℕ)} {kept : List Kept} {n : ℕ} {held : MeterRecord}
    → StandsFor (settings_for c) o kept held ⊎ StandsForNext c o lines kept n held → List Kept
events_of {kept = kept} (inl stands) = kept
events_of {kept = kept} (inr next) = kept ++ record { event = next.event; energy_mj = next.energy_mj; bound_mj = next.bound_mj } ∷ []

-- the events that the record stands for which the memory holds at a moment at which it is right
abbrev pub held_events : {c : Configuration} {o : MeterRecord} {lines : List (List ℕ)} {moment : Trace} {image : List ℕ} → IsRight c o lines moment image → List Kept
held_events right = events_of right.stands

-- At a moment at which the memory is right, the record that it holds stands for these events. Its energy is within its
-- bound, whatever the temperatures in their cells. And it has at most 2,000 mJ a counted litre more bound than the opening record.
pub record HoldsBounded (c : Configuration) (o : MeterRecord) (lines : List (List ℕ)) (moment : Trace) (image : List ℕ) (right : IsRight c o lines moment image) : Type 0 where
  pub stands : StandsFor (settings_for c) o (held_events right) right.held
  pub bounded : (choice : ℕ → Temps) → IsChoice (settings_for c) o choice (held_events right) → IsWithinBound c o right.held (held_events right) choice
  pub cap : right.held.register.bound_mj ≤ o.register.bound_mj + 2000 * counted_litres (settings_for c) o (held_events right)
