-- What a commit leaves, by its answer.
use Rattle.std.proofs.Common.{◌≡◌, ℕ, List, Result, Ok, Err, refl, sym, subst, arith}
use Rattle.std.specs.Prelude.{IfOk, IsErrOf, OnOk}
use Rattle.metering_model.specs.Records.{MeterRecord}
use Rattle.config_model.specs.Configuration.{Configuration}
use Rattle.trace_model.specs.Trace.{Trace}
use Rattle.trace_model.specs.Images.{NothingPending}
use Rattle.trace_model.specs.Moments.{Leaves}
use Rattle.trace_model.proofs.Moments.{Grew-base}
use Rattle.memory_model.specs.Stored as model
use Rattle.memory_model.specs.Stored.{Holds}
use Rattle.meter_board.specs.Causes.{CausedBy, RefusalCause}
use Rattle.meter_board.specs.declared.fault_counts.FaultCounts.{FaultCounts}
use Rattle.meter_board.specs.declared.refusal.Refusal.{Refusal}
use Rattle.meter_board.specs.declared.refusal.Refusal.TheVariants.{Failed, Cut}
use Rattle.register_store.specs.declared.side.Side.{Side}
use Rattle.register_store.specs.Commits.{HoldsEither, StandsFor, StandsOn, other}
use Rattle.register_store.specs.Recovered.{side_view}
use Rattle.register_store.specs.Works.{KeepsTo, StoresSettled, WorksBy}
use Rattle.run_engine.specs.Steps.{CountsCuts, GoesOn, HoldGives}
use Rattle.run_engine.proofs.FewLost.{no_cut, one_cut}

module _ (t u : Trace) (reads' : List ℕ) where
  -- the cuts are counted
  counts : (before now : FaultCounts) (result : Result Side Refusal) → WorksBy 2 result t u → CausedBy RefusalCause before now result → CountsCuts t u before.cuts now.cuts
  counts before now (Ok side) works cause = no_cut t u before.cuts now.cuts (omega (arith, works.forced_cuts)) cause.later.cuts
  counts before now (Err Failed) works cause = no_cut t u before.cuts now.cuts (omega (arith, works.forced_cuts)) cause.later.cuts
  counts before now (Err Cut) works cause = one_cut t u before.cuts now.cuts works.forced_cuts cause.failed

  module _ (c : Configuration) (side : model.Side) (old new : MeterRecord) where
    pub held_gives : (result : Result Side Refusal) → KeepsTo (HoldsEither c side old new) result t u reads' → StoresSettled 2 result t u → OnOk result (StandsFor (Holds c new (other side)) reads')
        → OnOk result (Leaves (StandsFor (Holds c new (other side))) u) → IfOk result (λ turned. side_view turned ≡ other side) → HoldGives c side old new t result u reads'
    held_gives (Ok turned) keeps stores ok leaves on = (record { commits = record { moments = keeps.moments; works = stores.works }; settled = stores.settled; holds = leaves }, ok, on)
    held_gives (Err Failed) keeps stores ok leaves on = record { moments = keeps.moments; works = stores.works }
    held_gives (Err Cut) keeps stores ok leaves on = (record { moments = keeps.moments; works = stores.works }, keeps.at_cut refl)

    pub held_goes_on : (before now : FaultCounts) (result : Result Side Refusal) → KeepsTo (HoldsEither c side old new) result t u reads' → StoresSettled 2 result t u → CausedBy RefusalCause before now result → GoesOn result t u before now
    held_goes_on before now result keeps stores cause = record { base = Grew-base keeps.moments; counted = counts before now result stores.works cause; settled = λ none. stores.settled }

    pub held_stands : (result : Result Side Refusal) → OnOk result (StandsFor (Holds c new (other side)) reads') → IfOk result (λ turned. side_view turned ≡ other side) → IfOk result (λ turned. StandsOn (side_view turned) reads')
    held_stands (Ok turned) ok on = subst (λ s. StandsOn s reads') (sym on) (record { config = c; held = new; is = ok })
    held_stands (Err e) ok on = tt

    pub held_cut : (result : Result Side Refusal) → KeepsTo (HoldsEither c side old new) result t u reads' → IsErrOf result Cut → NothingPending u
    held_cut result keeps is = let ends = keeps.at_cut is in subst NothingPending (sym ends.last) refl
