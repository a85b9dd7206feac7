-- What the board does for one event, and after a power failure.
use Rattle.std.specs.Prelude.{◌≡◌, ℕ, ◌+◌, ◌-◌, ◌^◌, ◌≤◌, min, List, [], None, Result, Ok, Err, OnOk}
use Rattle.metering_model.specs.Records.{MeterRecord}
use Rattle.trace_model.specs.Trace.{Trace, Put, Arm, ◌▷◌, base_of}
use Rattle.trace_model.specs.Images.{NothingPending}
use Rattle.trace_model.specs.Moments.{Grew, Leaves}
use Rattle.config_model.specs.Configuration.{Configuration}
use Rattle.memory_model.specs.Stored as model
use Rattle.memory_model.specs.Stored.{Holds, stored}
use Rattle.register_store.specs.declared.side.Side.{Side}
use Rattle.register_store.specs.Commits.{EndsCut, HoldsEither, StandsFor, other}
use Rattle.register_store.specs.Recovered.{RecoverGives, side_view}
use Rattle.register_store.specs.Works.{Works, count_of, is_forced_cut}
use Rattle.answer_model.specs.Texts.{armed_text, power_text}
use Rattle.billing_memory.specs.Records.{record_view}
use Rattle.meter_config.specs.Views.{config_view, settings_of}
use Rattle.meter_board.specs.Puts.{PutsFront}
use Rattle.meter_board.specs.declared.refusal.Refusal.{Refusal}
use Rattle.meter_board.specs.declared.refusal.Refusal.TheVariants.{Failed, Cut}
use Rattle.optical_readout.specs.Heard.{Heard}
use Rattle.mbus_records.specs.State.{IsAfter}
use Rattle.meter_board.specs.declared.fault_counts.FaultCounts.{FaultCounts}
use Rattle.run_engine.specs.declared.stop.OrderFault.{OrderFault}
use Rattle.run_engine.specs.declared.stop.OrderFault.TheVariants as orders
use Rattle.run_engine.specs.declared.stop.Halt.{Halt}
use Rattle.run_engine.specs.declared.stop.Halt.TheVariants as halts
use Rattle.run_engine.specs.declared.station.Station.{Station}

-- the memory alone worked, with so many cuts, and each image holds the old record on its side or the new one on the other
pub record Commits (c : Configuration) (side : model.Side) (old new : MeterRecord) (cuts : ℕ) (t u : Trace) : Type 0 where
  pub moments : Grew (Leaves (HoldsEither c side old new)) t u
  pub works : Works 2 cuts t u

-- and now each image holds the new record
pub record Committed (c : Configuration) (side : model.Side) (old new : MeterRecord) (t u : Trace) : Type 0 where
  pub commits : Commits c side old new 0 t u
  pub settled : NothingPending u
  pub holds : Leaves (StandsFor (Holds c new (other side))) u

-- The new record takes the old one's place. Where the memory fails or the power is cut, it stopped before that.
abbrev pub HoldGives : Configuration → model.Side → (old new : MeterRecord) → Trace → Result Side Refusal → Trace → List ℕ → Type 0
HoldGives c side old new t (Ok turned) t' reads' = Committed c side old new t t' × StandsFor (Holds c new (other side)) reads' × (side_view turned ≡ other side)
HoldGives c side old new t (Err Failed) t' reads' = Commits c side old new 0 t t'
HoldGives c side old new t (Err Cut) t' reads' = Commits c side old new 1 t t' × EndsCut (HoldsEither c side old new) t' reads'

-- a station started anew from what the memory stands for
pub record IsRestarted (memory : model.Stored) (station : Station) : Type 0 where
  pub holds : memory ≡ Holds (config_view station.meter.config) (record_view station.meter.record) (side_view station.side)
  pub head : (c : Configuration) → Heard c None station.optical
  pub bus : (c : Configuration) → IsAfter c [] station.slave

-- the line that tells its record
abbrev pub restart_text : Station → List ℕ
restart_text station = power_text (settings_of station.meter.config) (record_view station.meter.record)

-- The station is started anew, and its record told. Where the memory can't be read, nothing happened.
abbrev pub RestartGives : {T : Type 0} → (reads : List ℕ) → Trace → Station → Trace → Result T Halt → Type 0
RestartGives reads t station t' (Ok u) = IsRestarted (stored reads) station × (t' ≡ t ▷ Put (restart_text station))
RestartGives reads t station t' (Err halts.Write) = IsRestarted (stored reads) station × PutsFront t (restart_text station) t'
RestartGives reads t station t' (Err (halts.Unread fault)) = (t' ≡ t) × RecoverGives (Err fault) reads

-- the cut is ordered, and an `armed` line tells it
abbrev pub OrderGives : {T : Type 0} → (n keep fill : ℕ) → Trace → Result T OrderFault → Trace → Type 0
OrderGives n keep fill t (Ok u) t' = t' ≡ t ▷ Arm n keep fill ▷ Put armed_text
OrderGives n keep fill t (Err orders.Write) t' = PutsFront (t ▷ Arm n keep fill) armed_text t'
OrderGives n keep fill t (Err orders.Memory) t' = t' ≡ t

-- the count of cuts that the board tells rises by one at least for each power failure within a call of the memory, up to
-- the end of its type
abbrev pub CountsCuts : (old new : Trace) → (before now : ℕ) → Type 0
CountsCuts old new before now = (first : ℕ) → min (first + count_of is_forced_cut old) (2 ^ 64 - 1) ≤ before → min (first + count_of is_forced_cut new) (2 ^ 64 - 1) ≤ now

-- how the board goes on for an answer: from the same memory, with each cut counted; and where it is answered, nothing new
-- is pending
pub record GoesOn {T E : Type 0} (result : Result T E) (old new : Trace) (before now : FaultCounts) : Type 0 where
  pub base : base_of new ≡ base_of old
  pub counted : CountsCuts old new before.cuts now.cuts
  pub settled : NothingPending old → OnOk result (NothingPending new)
