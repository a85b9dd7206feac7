-- How the answer to a line ends a run, and of which count of faults each end is.
use Rattle.std.specs.Prelude.{ℕ}
use Rattle.meter_board.specs.Causes.{Rose}
use Rattle.meter_board.specs.declared.fault_counts.FaultCounts.{FaultCounts}
use Rattle.register_store.specs.Faults.{UnreadableCause}
use Rattle.register_store.specs.declared.unreadable.Unreadable.{Unreadable}
use Rattle.register_store.specs.declared.unreadable.Unreadable.TheVariants as reasons
use Rattle.run_engine.specs.declared.Ended.{Ended}
use Rattle.run_engine.specs.declared.Ended.TheVariants.{Line, Memory, Write, Unformatted, Foreign}
use Rattle.run_engine.specs.declared.stop.OrderFault.{OrderFault}
use Rattle.run_engine.specs.declared.stop.OrderFault.TheVariants as orders
use Rattle.run_engine.specs.declared.stop.Halt.{Halt}
use Rattle.run_engine.specs.declared.stop.Halt.TheVariants as halts
use Rattle.run_engine.specs.declared.stop.Stop.{Stop}
use Rattle.run_engine.specs.declared.stop.Stop.TheVariants.{Refused, Halted}

-- where the memory could not be read
abbrev pub ended_unread : Unreadable → Ended
ended_unread (reasons.Unformatted byte) = Unformatted byte
ended_unread (reasons.Foreign at) = Foreign at
ended_unread reasons.Memory = Memory

abbrev pub ended_halted : Halt → Ended
ended_halted (halts.Unread fault) = ended_unread fault
ended_halted halts.Write = Write

-- where the answer to the n-th line ended the run
abbrev pub ended_by : ℕ → Stop → Ended
ended_by n (Refused kind) = Line n kind
ended_by n (Halted halt) = ended_halted halt

abbrev pub stop_of_order : OrderFault → Stop
stop_of_order orders.Memory = Halted (halts.Unread reasons.Memory)
stop_of_order orders.Write = Halted halts.Write

-- of which count of faults each is
abbrev pub OrderCause : OrderFault → FaultCounts → FaultCounts → Type 0
OrderCause orders.Memory before now = Rose before.memory now.memory
OrderCause orders.Write before now = Rose before.output now.output

abbrev pub HaltCause : Halt → FaultCounts → FaultCounts → Type 0
HaltCause (halts.Unread fault) before now = UnreadableCause fault before now
HaltCause halts.Write before now = Rose before.output now.output

abbrev pub StopCause : Stop → FaultCounts → FaultCounts → Type 0
StopCause (Refused kind) before now = Unit {0}
StopCause (Halted halt) before now = HaltCause halt before now
