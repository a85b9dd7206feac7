-- What the calls that write do to the trace, and to what the memory reads.
use Rattle.std.specs.Prelude.{◌≡◌, ◌⊎◌, ℕ, List, true, false, length, Result, Ok, Err}
use Rattle.trace_model.specs.Trace.{Store, Sync, Missed, Arm, Cut, Trace, ◌▷◌}
use Rattle.trace_model.specs.Images.{IsImage, SameOutside, replaced}
use Rattle.meter_board.specs.declared.refusal.Refusal.{Refusal}
use Rattle.meter_board.specs.declared.refusal.Refusal.TheVariants as refusals

-- Ok: the range is replaced. Failed: nothing happened, or any bytes stand in the range. Cut: the power failed within the
-- store, and left an image that is possible then.
abbrev pub StoreGives : {T : Type 0} → ℕ → List ℕ → Trace → List ℕ → Result T Refusal → Trace → List ℕ → Type 0
StoreGives at bytes t reads (Ok x) t' reads' = (t' ≡ t ▷ Store at bytes) × (reads' ≡ replaced reads at bytes)
StoreGives at bytes t reads (Err refusals.Failed) t' reads' = ((t' ≡ t) × (reads' ≡ reads)) ⊎ ((t' ≡ t ▷ Store at bytes) × SameOutside at (length bytes) reads reads')
StoreGives at bytes t reads (Err refusals.Cut) t' reads' = (t' ≡ t ▷ Store at bytes ▷ Cut true reads') × IsImage (t ▷ Store at bytes) reads'

-- Ok: all is settled. Failed: the sync was missed, or nothing happened. Cut: the power failed, and left an image that is
-- possible then. But for a cut the memory reads as before.
abbrev pub SyncGives : {T : Type 0} → Trace → List ℕ → Result T Refusal → Trace → List ℕ → Type 0
SyncGives t reads (Ok x) t' reads' = (t' ≡ t ▷ Sync) × (reads' ≡ reads)
SyncGives t reads (Err refusals.Failed) t' reads' = ((t' ≡ t) ⊎ (t' ≡ t ▷ Missed)) × (reads' ≡ reads)
SyncGives t reads (Err refusals.Cut) t' reads' = (t' ≡ t ▷ Cut true reads') × IsImage t reads'

-- Ok: a cut is ordered. Failed: nothing happened.
abbrev pub ArmGives : {T E : Type 0} → ℕ → ℕ → ℕ → Trace → Result T E → Trace → Type 0
ArmGives n keep fill t (Ok x) t' = t' ≡ t ▷ Arm n keep fill
ArmGives n keep fill t (Err e) t' = t' ≡ t

-- Ok: the power was cut, and left an image that is possible then. Failed: nothing happened.
abbrev pub PowerGives : {T E : Type 0} → Trace → List ℕ → Result T E → Trace → List ℕ → Type 0
PowerGives t reads (Ok x) t' reads' = (t' ≡ t ▷ Cut false reads') × IsImage t reads'
PowerGives t reads (Err e) t' reads' = (t' ≡ t) × (reads' ≡ reads)
