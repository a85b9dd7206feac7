use Rattle.std.proofs.Common.{◌≡◌, ◌∙◌, ap, ◌^◌, ◌-◌, arith, lit<, lit≤, refl, pos, ◌*ℤ◌, ◌≤ℤ◌, neg_ℤ}
use Rattle.std.proofs.lemmas.Int.{ints}
use Rattle.number_model.specs.Fraction.{power}
use Rattle.number_model.proofs.Ints.{recast}
use Rattle.enclosure_sizes.proofs.Sizes.{Sized-power, Sized-up}
use Rattle.region1_terms.proofs.Raised.{raised_small, floor_raised, ceil_raised}
use Rattle.region1_terms.proofs.powers.raised_power.Goals as goal

pub scale_to-requires : goal.scale_to-requires
scale_to-requires c =
    let small : c.powi.result.hi ≤ℤ pos (2 ^ 32) = raised_small c.args.n c.args.e.lo c.args.e.hi c.powi.result.lo c.powi.result.hi c.requires.least c.requires.most c.requires.low c.args.e.ordered c.requires.high c.powi.ensures.ends in
    let low : neg_ℤ (pos (2 ^ 62 - 1)) ≤ℤ (c.relabel-power.result.lo *ℤ pos (2 ^ 24)) = omega (arith, ints, c.relabel-power.ensures.lo, c.powi.ensures.ends.low) in
    let high : (c.relabel-power.result.hi *ℤ pos (2 ^ 24)) ≤ℤ pos (2 ^ 62 - 1) = omega (arith, ints, c.relabel-power.ensures.hi, small) in
    (lit< tt, (lit< tt, (lit≤ tt, (recast low refl (floor_raised c.relabel-power.result.lo), recast high (ceil_raised c.relabel-power.result.hi) refl))))

pub returns-clause-low : goal.returns-clause-low
returns-clause-low c =
    let low : pos 0 ≤ℤ (c.relabel-power.result.lo *ℤ pos (2 ^ 24)) = omega (arith, ints, c.relabel-power.ensures.lo, c.powi.ensures.ends.low) in
    recast low refl (c.scale_to.ensures.lo ∙ floor_raised c.relabel-power.result.lo)

pub returns-clause-high : goal.returns-clause-high
returns-clause-high c =
    let small : c.powi.result.hi ≤ℤ pos (2 ^ 32) = raised_small c.args.n c.args.e.lo c.args.e.hi c.powi.result.lo c.powi.result.hi c.requires.least c.requires.most c.requires.low c.args.e.ordered c.requires.high c.powi.ensures.ends in
    let high : (c.relabel-power.result.hi *ℤ pos (2 ^ 24)) ≤ℤ pos (2 ^ 56) = omega (arith, ints, c.relabel-power.ensures.hi, small) in
    recast high (c.scale_to.ensures.hi ∙ ceil_raised c.relabel-power.result.hi) refl

pub returns-clause-holds : goal.returns-clause-holds
returns-clause-holds c = λ x p. c.scale_to.ensures.holds _ (c.relabel-power.ensures.holds (power x c.args.n) (c.powi.ensures.holds x p))

pub returns-clause-size : goal.returns-clause-size
returns-clause-size c = λ s d z.
    let lo_is : c.scale_to.result.lo ≡ c.powi.result.lo *ℤ pos (2 ^ 24) = c.scale_to.ensures.lo ∙ floor_raised c.relabel-power.result.lo ∙ ap (λ t. t *ℤ pos (2 ^ 24)) c.relabel-power.ensures.lo in
    let hi_is : c.scale_to.result.hi ≡ c.powi.result.hi *ℤ pos (2 ^ 24) = c.scale_to.ensures.hi ∙ ceil_raised c.relabel-power.result.hi ∙ ap (λ t. t *ℤ pos (2 ^ 24)) c.relabel-power.ensures.hi in
    rw (lo_is, hi_is)
    (Sized-up (2 ^ 24) _ _ _ d c.powi.result.lo c.powi.result.hi
    (Sized-power 56 c.args.n s.most s.base s.per d c.args.e.lo c.args.e.hi c.powi.result.lo c.powi.result.hi c.requires.low c.args.e.ordered c.powi.result.ordered c.powi.ensures.ends z))
