use Rattle.std.proofs.Common.{arith}
use Rattle.event_script.proofs.Numbers.{too_large}
use Rattle.event_script.proofs.number.number_word.Goals as goal

pub returns-in_default-clause-value : goal.returns-in_default-clause-value
returns-in_default-clause-value c = too_large _ _ c.args.word.now c.loop-c.value c.loop-c.c-index c.loop-c-test.true c.loop-c.invariant.value (omega (arith, c.in_default.ensures))
