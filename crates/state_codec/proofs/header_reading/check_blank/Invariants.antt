use Rattle.std.proofs.Common.{◌≡◌, ◌-◌}
use Rattle.memory_model.specs.Fields.{first_broken, zero_bytes}
use Rattle.state_codec.proofs.header_reading.check_blank.Given as goal

abbrev pub invariant-loop-at : goal.invariant-loop-at
invariant-loop-at l = first_broken (zero_bytes l.at (256 - l.at)) l.bytes ≡ first_broken (zero_bytes 52 204) l.bytes
