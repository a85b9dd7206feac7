use Rattle.std.proofs.Common.{rules, arith}
use Rattle.meter_cli.proofs.Inits.{fill_more}
use Rattle.meter_cli.proofs.init.fill.Goals as goal

pub loop-filled-preserved : goal.loop-filled-preserved
loop-filled-preserved g c = record {
  size = search rules;
  fits = search rules;
  bytes = λ tells. let gives = c.in-Ok.ensures.gives tells in fill_more c.loop-filled.into c.read.new.into _ _ _ _ c.loop-filled.filled c.in-Ok.count c.loop-filled.invariant.fits c.in-Ok.ensures.bound (c.loop-filled.invariant.bytes tells) gives.0;
  later = omega (arith, c.loop-filled.invariant.later, c.read.ensures.cause.later);
}
