-- What a call that stores added to the trace.
use Rattle.std.specs.Prelude.{◌≡◌, ℕ, ◌+◌, ◌≤◌, Bool, true, false, List, Result, Ok, Err, OnOk, IsErrOf, if◌then◌else◌}
use Rattle.trace_model.specs.Trace.{Entry, Store, Sync, Missed, Put, Arm, Cut, Trace, Start, ◌▷◌}
use Rattle.trace_model.specs.Images.{NothingPending}
use Rattle.trace_model.specs.Moments.{Grew, Leaves}
use Rattle.meter_board.specs.declared.refusal.Refusal.{Refusal}
use Rattle.meter_board.specs.declared.refusal.Refusal.TheVariants as refusals
use Rattle.register_store.specs.declared.format_fault.FormatFault.{FormatFault}
use Rattle.register_store.specs.declared.format_fault.FormatFault.TheVariants as faults
use Rattle.register_store.specs.Commits.{EndsCut}

-- how many entries are of a kind
abbrev pub count_of : (Entry → Bool) → Trace → ℕ
count_of kind (Start base) = 0
count_of kind (t ▷ e) = count_of kind t + (if kind e then 1 else 0)

abbrev pub is_store : Entry → Bool
is_store (Store at bytes) = true
is_store Sync = false
is_store Missed = false
is_store (Put bytes) = false
is_store (Arm n keep fill) = false
is_store (Cut forced image) = false

-- also one that was missed
abbrev pub is_sync : Entry → Bool
is_sync (Store at bytes) = false
is_sync Sync = true
is_sync Missed = true
is_sync (Put bytes) = false
is_sync (Arm n keep fill) = false
is_sync (Cut forced image) = false

abbrev pub is_forced_cut : Entry → Bool
is_forced_cut (Store at bytes) = false
is_forced_cut Sync = false
is_forced_cut Missed = false
is_forced_cut (Put bytes) = false
is_forced_cut (Arm n keep fill) = false
is_forced_cut (Cut forced image) = forced

abbrev pub is_other : Entry → Bool
is_other (Store at bytes) = false
is_other Sync = false
is_other Missed = false
is_other (Put bytes) = true
is_other (Arm n keep fill) = true
is_other (Cut true image) = false
is_other (Cut false image) = true

-- at most n stores and n syncs, so many cuts by the memory's calls, and nothing else
pub record Works (n cuts : ℕ) (old new : Trace) : Type 0 where
  pub stores : count_of is_store new ≤ count_of is_store old + n
  pub syncs : count_of is_sync new ≤ count_of is_sync old + n
  pub forced_cuts : count_of is_forced_cut new ≡ count_of is_forced_cut old + cuts
  pub others : count_of is_other new ≡ count_of is_other old

-- by what was answered: a cut where it is Cut alone
abbrev pub WorksBy : {T : Type 0} → ℕ → Result T Refusal → Trace → Trace → Type 0
WorksBy n (Ok x) old new = Works n 0 old new
WorksBy n (Err refusals.Failed) old new = Works n 0 old new
WorksBy n (Err refusals.Cut) old new = Works n 1 old new

-- of a format, which does nothing at all where the memory is formatted
abbrev pub FormatWorks : {T : Type 0} → Result T FormatFault → Trace → Trace → Type 0
FormatWorks (Ok x) old new = Works 2 0 old new
FormatWorks (Err faults.Formatted) old new = new ≡ old
FormatWorks (Err faults.Memory) old new = Works 2 0 old new
FormatWorks (Err faults.Cut) old new = Works 2 1 old new

-- at most n stores, each of which is settled before the call ends well
pub record StoresSettled {T : Type 0} (n : ℕ) (result : Result T Refusal) (old new : Trace) : Type 0 where
  pub works : WorksBy n result old new
  pub settled : OnOk result (NothingPending new)

-- each image on the way has Q, and where the power failed what it left and what is read now
pub record KeepsTo {T : Type 0} (Q : List ℕ → Type 0) (result : Result T Refusal) (old new : Trace) (reads : List ℕ) : Type 0 where
  pub moments : Grew (Leaves Q) old new
  pub at_cut : IsErrOf result refusals.Cut → EndsCut Q new reads
