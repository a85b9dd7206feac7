use Rattle.std.proofs.Common.{arith}
use Rattle.std.proofs.lemmas.Int.{ints}
use Rattle.heat_coeff.proofs.water_heat.heat_given.Goals as goal

pub returns-clause-most : goal.returns-clause-most
returns-clause-most c = omega (arith, ints, c.enthalpy_at.ensures.most, c.enthalpy_at-2.ensures.least, c.sub.ensures.hi)

pub returns-clause-width : goal.returns-clause-width
returns-clause-width c = omega (arith, ints, c.enthalpy_at.ensures.closer, c.enthalpy_at-2.ensures.closer, c.sub.ensures.lo, c.sub.ensures.hi)
