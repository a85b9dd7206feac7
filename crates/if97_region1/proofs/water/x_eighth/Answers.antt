use Rattle.std.proofs.Common.{pos, ◌+ℤ◌, ◌≤ℤ◌, arith}
use Rattle.std.proofs.lemmas.Int.{ints}
use Rattle.region1_terms.specs.Variables.{x_size}
use Rattle.if97_region1.proofs.Facts.{width_of_point}
use Rattle.if97_region1.proofs.water.x_eighth.Goals as goal

pub returns-clause-holds : goal.returns-clause-holds
returns-clause-holds c = rw c.at.ensures at c.at.result.holds

pub returns-clause-width : goal.returns-clause-width
returns-clause-width c =
    let narrow : c.at.result.x_eighth.hi ≤ℤ (c.at.result.x_eighth.lo +ℤ pos 2) = width_of_point x_size.most 2 x_size.per _ _ (c.at.result.sized 0) in
    omega (arith, ints, narrow)
