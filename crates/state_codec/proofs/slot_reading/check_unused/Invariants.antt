use Rattle.std.proofs.Common.{◌≡◌, ◌-◌, ◌≤◌}
use Rattle.memory_model.specs.Fields.{first_broken, number}
use Rattle.memory_model.specs.Slot.{month_fields}
use Rattle.state_codec.proofs.slot_reading.check_unused.Given as goal

abbrev pub invariant-loop-k : goal.invariant-loop-k
invariant-loop-k l = record {
  so_far : first_broken (month_fields l.k (24 - l.k)) l.bytes ≡ first_broken (month_fields (number 11 1 l.bytes) (24 - number 11 1 l.bytes)) l.bytes;
  behind : number 11 1 l.bytes ≤ l.k;
}
