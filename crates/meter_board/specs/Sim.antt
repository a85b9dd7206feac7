-- What a contract sees of a board in memory.
use Rattle.std.specs.Prelude.{◌≡◌, ℕ, ◌+◌, ◌-◌, ◌/◌, ◌^◌, List, Any, length, take, min, Result, Ok, Err}
use Rattle.trace_model.specs.Images.{memory_size}
use Rattle.trace_model.specs.Trace.{Entry, Store, Sync, Missed, Put, Arm, Cut, Trace, ◌▷◌}
use Rattle.meter_board.specs.declared.arm.Armed.{Armed}
use Rattle.meter_board.specs.declared.call_counts.CallCounts.{CallCounts}
use Rattle.meter_board.specs.declared.fault_counts.FaultCounts.{FaultCounts}
use Rattle.meter_board.specs.declared.refusal.Refusal.{Refusal}
use Rattle.meter_board.specs.declared.refusal.Refusal.TheVariants as refusals
use Rattle.meter_board.specs.declared.sim_board.Call.{Call}
use Rattle.meter_board.specs.declared.sim_board.CallKind.{CallKind}
use Rattle.meter_board.specs.declared.sim_board.CallKind.TheVariants as kind
use Rattle.meter_board.specs.declared.sim_board.SimBoard.{SimBoard}
use Rattle.meter_board.specs.declared.sim_board.Output.{Output}
use Rattle.meter_board.specs.Causes.{one_more}
use Rattle.meter_board.specs.Histories.{HistoryHasRoom, HistoryHasRoomForTwo, history_trace}

abbrev pub sim_trace : SimBoard → Trace
sim_trace b = history_trace b.history

-- what the memory reads now
abbrev pub sim_reads : SimBoard → List ℕ
sim_reads b = b.memory.items

-- how many calls on the memory and how many puts failed, and how many were cut
abbrev pub sim_faults : SimBoard → FaultCounts
sim_faults b = b.faults

-- how many calls there were of each kind
abbrev pub sim_calls : SimBoard → CallCounts
sim_calls b = b.calls

-- how many of them were on the memory, up to the end of the count's type
abbrev pub sim_memory_calls : SimBoard → ℕ
sim_memory_calls b = min ((sim_calls b).loads + (sim_calls b).stores + (sim_calls b).syncs + (sim_calls b).arms + (sim_calls b).powers) (2 ^ 64 - 1)

-- the cut that waits for its call
abbrev pub sim_armed : SimBoard → Armed
sim_armed b = b.armed

-- the calls that fail
abbrev pub sim_failing : SimBoard → List Call
sim_failing b = b.failing.items

-- the room for entries, and for their bytes, of which some may be spent
abbrev pub sim_entry_room : SimBoard → ℕ
sim_entry_room b = b.history.entry_room

abbrev pub sim_byte_room : SimBoard → ℕ
sim_byte_room b = b.history.byte_room

-- how many bytes an entry has
abbrev pub entry_size : Entry → ℕ
entry_size (Store at bytes) = length bytes
entry_size Sync = 0
entry_size Missed = 0
entry_size (Put bytes) = length bytes
entry_size (Arm n keep fill) = 0
entry_size (Cut forced image) = length image

abbrev pub HasRoom : SimBoard → Entry → Type 0
HasRoom b e = HistoryHasRoom b.history (entry_size e)

-- the call of this kind and number is one that fails
abbrev pub IsFailing : SimBoard → CallKind → ℕ → Type 0
IsFailing b k number = Any (λ (call : Call). (call.kind ≡ k) × (call.number ≡ number)) (sim_failing b)

-- the next call of each kind is one that fails
abbrev pub FailsLoad : SimBoard → Type 0
FailsLoad b = IsFailing b kind.Load (one_more (sim_calls b).loads)

abbrev pub FailsStore : SimBoard → Type 0
FailsStore b = IsFailing b kind.Store (one_more (sim_calls b).stores)

abbrev pub FailsSync : SimBoard → Type 0
FailsSync b = IsFailing b kind.Sync (one_more (sim_calls b).syncs)

abbrev pub FailsPut : SimBoard → Type 0
FailsPut b = IsFailing b kind.Put (one_more (sim_calls b).puts)

abbrev pub FailsPower : SimBoard → Type 0
FailsPower b = IsFailing b kind.Power (one_more (sim_calls b).powers)

-- the next call of `store` or `sync` is cut, where it does not fail
abbrev pub IsDue : SimBoard → Type 0
IsDue b = (sim_armed b).calls ≡ 1

-- what waits after one more call of `store` or `sync`, one that failed or was cut too
abbrev pub counted : Armed → Armed
counted a = record a { calls = a.calls - 1 }

-- the counts after a call on the memory that failed, after a put that failed, and after a call on the memory that was cut
abbrev pub memory_fault : FaultCounts → FaultCounts
memory_fault counts = record counts { memory = one_more counts.memory }

abbrev pub output_fault : FaultCounts → FaultCounts
output_fault counts = record counts { output = one_more counts.output }

abbrev pub one_cut : FaultCounts → FaultCounts
one_cut counts = record counts { cuts = one_more counts.cuts }

-- and after a call that writes, by what it answered
abbrev pub after_refusal : {T : Type 0} → Result T Refusal → FaultCounts → FaultCounts
after_refusal (Ok x) counts = counts
after_refusal (Err refusals.Failed) counts = memory_fault counts
after_refusal (Err refusals.Cut) counts = one_cut counts

-- a call that adds this entry succeeds: the entry fits, and the call is not one that fails
pub record Adds (b : SimBoard) (e : Entry) (fails : Type 0) : Type 0 where
  pub room : HasRoom b e
  pub whole : fails → ⊥

-- the power is cut, which adds one entry: an image fits, and the call is not one that fails
pub record AddsCut (b : SimBoard) (fails : Type 0) : Type 0 where
  pub room : HistoryHasRoom b.history memory_size
  pub whole : fails → ⊥

-- the power is cut within a store of these bytes: both entries fit, and the call is not one that fails
pub record AddsCutStore (b : SimBoard) (bytes : List ℕ) (fails : Type 0) : Type 0 where
  pub room : HistoryHasRoomForTwo b.history (length bytes + memory_size)
  pub whole : fails → ⊥

-- the trace after a call that failed: where the call is one that fails it added this entry, where there was room for it
pub record FailsAsTold (old : SimBoard) (e : Entry) (fails : Type 0) (new : Trace) : Type 0 where
  pub told : fails → HasRoom old e → new ≡ sim_trace old ▷ e
  pub spent : (HasRoom old e → ⊥) → new ≡ sim_trace old
  pub full : (fails → ⊥) → new ≡ sim_trace old

-- the first half of some bytes, rounded down
abbrev pub half_of : List ℕ → List ℕ
half_of bytes = take (length bytes / 2) bytes

-- what no call changes
pub record RoomsAsBefore (old new : SimBoard) : Type 0 where
  pub failing : sim_failing new ≡ sim_failing old
  pub entry_room : sim_entry_room new ≡ sim_entry_room old
  pub byte_room : sim_byte_room new ≡ sim_byte_room old

-- all but the calls that fail, and the cut that waits
pub record BoardAsBefore (old new : SimBoard) : Type 0 where
  pub trace : sim_trace new ≡ sim_trace old
  pub reads : sim_reads new ≡ sim_reads old
  pub faults : sim_faults new ≡ sim_faults old
  pub calls : sim_calls new ≡ sim_calls old
  pub entry_room : sim_entry_room new ≡ sim_entry_room old
  pub byte_room : sim_byte_room new ≡ sim_byte_room old

-- the bytes that an iterator over a board's output has yet to give
abbrev pub output_left : Output → List ℕ
output_left o = o.rest.now
