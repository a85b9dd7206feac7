-- A fault comes only where a count of faults rose.
use Rattle.std.specs.Prelude.{ℕ, ◌+◌, ◌-◌, ◌^◌, ◌≤◌, min, Result, OnErr, IfErr}
use Rattle.meter_board.specs.declared.fault_counts.FaultCounts.{FaultCounts}
use Rattle.meter_board.specs.declared.refusal.Refusal.{Refusal}
use Rattle.meter_board.specs.declared.refusal.Refusal.TheVariants as refusals
use Rattle.meter_board.specs.declared.source.Failed.{Failed}

-- a count after one more; it stands still at the end of its type
abbrev pub one_more : ℕ → ℕ
one_more n = min (n + 1) (2 ^ 64 - 1)

-- a count is greater, or stood at the end of its type
abbrev pub Rose : ℕ → ℕ → Type 0
Rose before now = one_more before ≤ now

-- a count of faults never falls, and rose where the call failed
pub record HasCause {T E : Type 0} (before now : ℕ) (result : Result T E) : Type 0 where
  pub later : before ≤ now
  pub failed : OnErr result (Rose before now)

-- no count falls
pub record OnlyRises (before now : FaultCounts) : Type 0 where
  pub memory : before.memory ≤ now.memory
  pub output : before.output ≤ now.output
  pub cuts : before.cuts ≤ now.cuts

-- no count falls, and where the call failed the one rose that its error is of
pub record CausedBy {T E : Type 0} (Cause : E → FaultCounts → FaultCounts → Type 0) (before now : FaultCounts) (result : Result T E) : Type 0 where
  pub later : OnlyRises before now
  pub failed : IfErr result (λ e. Cause e before now)

-- the count that the failure of a call on the memory is of, and of a put
abbrev pub MemoryCause : Failed → FaultCounts → FaultCounts → Type 0
MemoryCause failed before now = Rose before.memory now.memory

abbrev pub OutputCause : Failed → FaultCounts → FaultCounts → Type 0
OutputCause failed before now = Rose before.output now.output

-- the count that a refusal is of
abbrev pub RefusalCause : Refusal → FaultCounts → FaultCounts → Type 0
RefusalCause refusals.Failed before now = Rose before.memory now.memory
RefusalCause refusals.Cut before now = Rose before.cuts now.cuts
