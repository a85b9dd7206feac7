-- The output of `gen`.
use Rattle.std.specs.Prelude.{◌≡◌, ℕ, zero, suc, List, [], ◌∷◌, ◌++◌, length, map, codes}
use Rattle.std.specs.Fmt.{decimal}
use Rattle.metering_model.specs.Events.{Event, Kept}
use Rattle.metering_model.specs.Records.{MeterRecord, StandsFor, record_after}
use Rattle.integral_model.specs.Integral.{AllFitClosely}
use Rattle.integral_model.specs.Near.{AreNear}
use Rattle.generator_model.specs.Generated.{event_at}
use Rattle.answer_model.specs.Texts.{shown}
use Rattle.run_engine.specs.Dry.{dry_opening, dry_settings}

-- the first n events that a number generates, in order
unfoldable pub first_events : (seed n : ℕ) → List Event
first_events seed zero = []
first_events seed (suc n) = first_events seed n ++ event_at seed (suc n) ∷ []

-- each of the first n generated events was kept, in order, with an energy and a bound that fit it closely
pub record KeepsEvents (seed n : ℕ) (kept : List Kept) : Type 0 where
  pub events : map (λ k. k.event) kept ≡ first_events seed n
  pub count : length kept ≡ n
  pub fits : AllFitClosely dry_settings dry_opening kept

-- the record stands for such events
pub record StandsForEvents (seed n : ℕ) (r : MeterRecord) : Type 0 where
  pub kept : List Kept
  pub keeps : KeepsEvents seed n kept
  pub stands : StandsFor dry_settings dry_opening kept r

-- `gen COUNT K VOL E B` of the record after these events. Their energy is near their exact integral.
pub record IsGenText (seed count : ℕ) (text : List ℕ) : Type 0 where
  pub kept : List Kept
  pub keeps : KeepsEvents seed count kept
  pub near : AreNear dry_settings dry_opening kept
  pub is : text ≡ codes "gen " ++ decimal count ++ codes " " ++ shown dry_settings (record_after dry_settings dry_opening kept) ++ codes "\n"
