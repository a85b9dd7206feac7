use Rattle.std.proofs.Common.{◌<◌, arith, sym, subst}
use Rattle.std.proofs.lemmas.Int.{ints}
use Rattle.enclosure_sizes.specs.Size.{Size, SizedBy}
use Rattle.enclosure_sizes.proofs.Sizes.{Sized-power}
use Rattle.dec_tables.proofs.Scaling.{Holds-one, unit_power_size-positive}
use Rattle.region1_terms.proofs.powers.unit_power.Goals as goal

pub returns-then-n-eq0-clause-holds : goal.returns-then-n-eq0-clause-holds
returns-then-n-eq0-clause-holds c = λ x p.
    Holds-one x c.args.n c.point.result.lo c.point.result.hi (omega (arith, c.if-n-eq0.true)) (omega (arith, ints, c.point.ensures.lo)) (omega (arith, ints, c.point.ensures.hi))

pub returns-else-n-eq0-clause-size : goal.returns-else-n-eq0-clause-size
returns-else-n-eq0-clause-size c = λ s d z.
    let some : 0 < c.args.n = omega (arith, c.if-n-eq0.false) in
    let P : Size → Type 0 = λ t. SizedBy t d c.powi.result.lo c.powi.result.hi in
    subst P (sym (unit_power_size-positive c.args.n s some))
    (Sized-power 56 c.args.n s.most s.base s.per d c.args.e.lo c.args.e.hi c.powi.result.lo c.powi.result.hi c.requires.low c.args.e.ordered c.powi.result.ordered c.powi.ensures.ends z)
