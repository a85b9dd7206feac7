-- What the end of a run tells of the answer that ended it.
use Rattle.std.proofs.Common.{◌≡◌, ℕ, arith}
use Rattle.meter_board.specs.Causes.{OnlyRises, Rose}
use Rattle.meter_board.specs.declared.fault_counts.FaultCounts.{FaultCounts}
use Rattle.register_store.specs.Faults.{UnreadableCause}
use Rattle.register_store.specs.declared.unreadable.Unreadable.{Unreadable}
use Rattle.register_store.specs.declared.unreadable.Unreadable.TheVariants as reasons
use Rattle.run_engine.specs.declared.Ended.TheVariants.{Done, Memory, Read, Write}
use Rattle.run_engine.specs.declared.stop.Halt.TheVariants as halts
use Rattle.run_engine.specs.declared.stop.Stop.{Stop}
use Rattle.run_engine.specs.declared.stop.Stop.TheVariants.{Refused, Halted}
use Rattle.run_engine.specs.Stops.{StopCause, ended_by, ended_unread}

pub rises_further : (first second third : FaultCounts) → OnlyRises first second → OnlyRises second third → OnlyRises first third
rises_further first second third a b = record { memory = omega (arith, a.memory, b.memory); output = omega (arith, a.output, b.output); cuts = omega (arith, a.cuts, b.cuts) }

pub unread_not_read : (fault : Unreadable) → ¬ (ended_unread fault ≡ Read)
unread_not_read (reasons.Unformatted byte) is = absurd cc
unread_not_read (reasons.Foreign at) is = absurd cc
unread_not_read reasons.Memory is = absurd cc

pub unread_not_write : (fault : Unreadable) → ¬ (ended_unread fault ≡ Write)
unread_not_write (reasons.Unformatted byte) is = absurd cc
unread_not_write (reasons.Foreign at) is = absurd cc
unread_not_write reasons.Memory is = absurd cc

pub stop_not_read : (n : ℕ) (stop : Stop) → ¬ (ended_by n stop ≡ Read)
stop_not_read n (Refused kind) is = absurd cc
stop_not_read n (Halted (halts.Unread fault)) is = unread_not_read fault is
stop_not_read n (Halted halts.Write) is = absurd cc

pub unread_not_done : (fault : Unreadable) → ¬ (ended_unread fault ≡ Done)
unread_not_done (reasons.Unformatted byte) is = absurd cc
unread_not_done (reasons.Foreign at) is = absurd cc
unread_not_done reasons.Memory is = absurd cc

pub stop_not_done : (n : ℕ) (stop : Stop) → ¬ (ended_by n stop ≡ Done)
stop_not_done n (Refused kind) is = absurd cc
stop_not_done n (Halted (halts.Unread fault)) is = unread_not_done fault is
stop_not_done n (Halted halts.Write) is = absurd cc

module _ (before now : FaultCounts) where
  pub memory_unread : (fault : Unreadable) → UnreadableCause fault before now → ended_unread fault ≡ Memory → Rose before.memory now.memory
  memory_unread (reasons.Unformatted byte) cause is = absurd cc
  memory_unread (reasons.Foreign at) cause is = absurd cc
  memory_unread reasons.Memory cause is = cause

  pub memory_stopped : (n : ℕ) (stop : Stop) → StopCause stop before now → ended_by n stop ≡ Memory → Rose before.memory now.memory
  memory_stopped n (Refused kind) cause is = absurd cc
  memory_stopped n (Halted (halts.Unread fault)) cause is = memory_unread fault cause is
  memory_stopped n (Halted halts.Write) cause is = absurd cc

  pub write_stopped : (n : ℕ) (stop : Stop) → StopCause stop before now → ended_by n stop ≡ Write → Rose before.output now.output
  write_stopped n (Refused kind) cause is = absurd cc
  write_stopped n (Halted (halts.Unread fault)) cause is = absurd (unread_not_write fault is)
  write_stopped n (Halted halts.Write) cause is = cause
