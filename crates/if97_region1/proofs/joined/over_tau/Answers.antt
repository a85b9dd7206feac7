use Rattle.std.proofs.Common.{arith, lit<, rules}
use Rattle.std.proofs.lemmas.Int.{ints}
use Rattle.region1_algebra.specs.Forms.{u_of}
use Rattle.if97_region1.proofs.Parts.{falling_room, falling_sized}
use Rattle.if97_region1.proofs.joined.over_tau.Goals as goal

pub mul-requires : goal.mul-requires
mul-requires c = (lit< tt, falling_room _ _ _ _ _ c.requires c.args.down.ordered (omega (arith, ints)) (omega (arith, ints)) (omega (arith, ints)))

pub returns-clause-holds : goal.returns-clause-holds
returns-clause-holds c = λ t x s p. c.mul.ensures.holds x (u_of t) p (search rules)

pub returns-clause-sized : goal.returns-clause-sized
returns-clause-sized c = falling_sized _ _ _ _ _ _ _ c.mul.ensures.lo c.mul.ensures.hi c.args.down.ordered (omega (arith, ints)) c.requires (search rules)
