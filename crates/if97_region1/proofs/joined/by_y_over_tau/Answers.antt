use Rattle.std.proofs.Common.{arith, lit<, rules}
use Rattle.std.proofs.lemmas.Int.{ints}
use Rattle.region1_algebra.specs.Forms.{r_of}
use Rattle.if97_region1.proofs.Parts.{higher_room, higher_sized}
use Rattle.if97_region1.proofs.joined.by_y_over_tau.Goals as goal

pub mul-requires : goal.mul-requires
mul-requires c = (lit< tt, higher_room _ _ _ _ _ c.requires c.args.up.ordered (omega (arith, ints)) (omega (arith, ints)) (omega (arith, ints)))

pub returns-clause-holds : goal.returns-clause-holds
returns-clause-holds c = λ t x s p. c.mul.ensures.holds x (r_of t) p (search rules)

pub returns-clause-sized : goal.returns-clause-sized
returns-clause-sized c = higher_sized _ _ _ _ _ _ _ c.mul.ensures.lo c.mul.ensures.hi c.args.up.ordered (omega (arith, ints)) c.requires (search rules)
