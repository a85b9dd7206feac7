use Rattle.std.proofs.Common.{arith, rules}
use Rattle.std.proofs.lemmas.Int.{ints}
use Rattle.if97_region1.proofs.constants.factor_of_volume.Goals as goal

pub returns-clause-holds : goal.returns-clause-holds
returns-clause-holds c = c.of_ratio.ensures.holds _ (search rules)

pub returns-clause-sized : goal.returns-clause-sized
returns-clause-sized c = λ d. record {
  low = omega (arith, ints, c.of_ratio.ensures.lo);
  high = omega (arith, ints, c.of_ratio.ensures.hi);
  width = omega (arith, ints, c.of_ratio.ensures.lo, c.of_ratio.ensures.hi);
}
