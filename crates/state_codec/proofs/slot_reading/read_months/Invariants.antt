use Rattle.std.proofs.Common.{◌≡◌, ◌-◌, length}
use Rattle.billing_memory.specs.Entries.{entries_view}
use Rattle.memory_model.specs.Fields.{first_broken}
use Rattle.memory_model.specs.Slot.{month_fields}
use Rattle.state_codec.specs.Slot.{entries_to}
use Rattle.state_codec.proofs.slot_reading.read_months.Given as goal

abbrev pub invariant-loop-k : goal.invariant-loop-k
invariant-loop-k l = record {
  so_far : first_broken (month_fields l.k (24 - l.k)) l.bytes ≡ first_broken (month_fields 0 24) l.bytes;
  read : entries_view l.months.items ≡ entries_to l.k l.bytes;
  size : length l.months.items ≡ l.k;
}
