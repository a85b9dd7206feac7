-- How a refusal of the board is told, and of which count of faults each error is.
use Rattle.meter_board.specs.Causes.{Rose}
use Rattle.meter_board.specs.declared.fault_counts.FaultCounts.{FaultCounts}
use Rattle.meter_board.specs.declared.refusal.Refusal.{Refusal}
use Rattle.meter_board.specs.declared.refusal.Refusal.TheVariants as refusals
use Rattle.register_store.specs.declared.format_fault.FormatFault.{FormatFault}
use Rattle.register_store.specs.declared.format_fault.FormatFault.TheVariants as format
use Rattle.register_store.specs.declared.unreadable.Unreadable.{Unreadable}
use Rattle.register_store.specs.declared.unreadable.Unreadable.TheVariants as reading

abbrev pub fault_of : Refusal → FormatFault
fault_of refusals.Failed = format.Memory
fault_of refusals.Cut = format.Cut

-- no count rose where the memory could be loaded
abbrev pub UnreadableCause : Unreadable → FaultCounts → FaultCounts → Type 0
UnreadableCause (reading.Unformatted byte) before now = Unit {0}
UnreadableCause (reading.Foreign at) before now = Unit {0}
UnreadableCause reading.Memory before now = Rose before.memory now.memory

abbrev pub FormatCause : FormatFault → FaultCounts → FaultCounts → Type 0
FormatCause format.Formatted before now = Unit {0}
FormatCause format.Memory before now = Rose before.memory now.memory
FormatCause format.Cut before now = Rose before.cuts now.cuts
