use Rattle.std.proofs.Common.{◌≡◌, arith, false, true, ◌==◌}
use Rattle.memory_model.specs.Fields.{number, zero_bytes, first_broken}
use Rattle.state_codec.proofs.Checks.{zero_kept, zero_broken, zeros_done}
use Rattle.state_codec.proofs.header_reading.check_blank.Goals as goal

pub returns-then-u8_at-ne0 : goal.returns-then-u8_at-ne0
returns-then-u8_at-ne0 c =
    let bytes = c.args.bytes.now in
    let at = c.loop-at.at in
    let breaks : (number at 1 bytes == 0) ≡ false = grind (arith, c.u8_at.ensures, c.if-u8_at-ne0.true) in
    zero_broken bytes at 256 (first_broken (zero_bytes 52 204) bytes) c.loop-at-test.true breaks c.loop-at.invariant

pub loop-at-preserved : goal.loop-at-preserved
loop-at-preserved c =
    let bytes = c.args.bytes.now in
    let at = c.loop-at.at in
    let keeps : (number at 1 bytes == 0) ≡ true = grind (arith, c.u8_at.ensures, c.if-u8_at-ne0.false) in
    zero_kept bytes at 256 (first_broken (zero_bytes 52 204) bytes) c.loop-at-test.true keeps c.loop-at.invariant

pub returns : goal.returns
returns c =
    zeros_done c.args.bytes.now c.loop-at.at 256 (first_broken (zero_bytes 52 204) c.args.bytes.now) c.loop-at-test.false c.loop-at.invariant
