use Rattle.std.proofs.Common.{◌≡◌, ◌+◌, ◌*◌, ◌++◌, take, drop}
use Rattle.std.specs.List.{flat_map}
use Rattle.billing_memory.specs.Entries.{entries_view}
use Rattle.state_codec.specs.Slot.{entry_bytes}
use Rattle.state_codec.proofs.slot_writing.write_entries.Given as goal

abbrev pub invariant-loop-k : goal.invariant-loop-k
invariant-loop-k l =
    l.out ≡ take l.at l.fn.out ++ (flat_map entry_bytes (entries_view (take l.k l.entries)) ++ drop (l.at + 48 * l.k) l.fn.out)
