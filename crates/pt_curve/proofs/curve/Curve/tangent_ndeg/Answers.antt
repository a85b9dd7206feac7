use Rattle.std.proofs.Common.{arith}
use Rattle.std.proofs.lemmas.Int.{ints}
use Rattle.pt_curve.proofs.curve.Curve.tangent_ndeg.Goals as goal

pub div_euclid-apart-requires-clause-no_overflow : goal.div_euclid-apart-requires-clause-no_overflow
div_euclid-apart-requires-clause-no_overflow c = λ h k. grind (arith, ints, c.rise.ensures.least, c.rise.ensures.most, h)
