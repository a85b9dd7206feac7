use Rattle.std.proofs.Common.{◌≡◌, ◌-◌, ◌*◌, ◌<◌, pos, ◌*ℤ◌, ◌≤ℤ◌, arith, unsigned_abs, to_z-of_z, rules}
use Rattle.std.proofs.lemmas.Int.{ints}
use mir.Syntax.{w128}
use mir.Val.{SFits}
use Rattle.number_model.proofs.Ints.{mul-le_pos}
use Rattle.heat_model.specs.Heat.{litre_energy}
use Rattle.heat_coeff.specs.Quotients.{least_floor, greatest_ceil}
use Rattle.heat_coeff.proofs.Quotients.{ends_ordered}
use Rattle.heat_coeff.proofs.Widths.{litre_ends, litre_within}
use Rattle.heat_coeff.proofs.Holding.{litre_between}
use Rattle.heat_coeff.proofs.litre.litre_energy.Goals as goal

pub returns-clause-holds : goal.returns-clause-holds
unfolding litre_energy
returns-clause-holds c = λ tf tr pf pr.
    let fl : SFits w128 c.quotient_ends-ends.result.lo = search rules in
    let fh : SFits w128 c.quotient_ends-ends.result.hi = search rules in
    let above : pos 1 ≤ℤ c.metered_volume-volume.result.lo = omega (arith, ints, c.metered_volume-volume.ensures.least) in
    let lo_is : c.quotient_ends-ends.result.lo ≡ least_floor (c.heat_given-given.result.lo *ℤ pos 256000) (unsigned_abs c.metered_volume-volume.result.lo * 1) (unsigned_abs c.metered_volume-volume.result.hi * 1) = cc in
    let hi_is : c.quotient_ends-ends.result.hi ≡ greatest_ceil (c.heat_given-given.result.hi *ℤ pos 256000) (unsigned_abs c.metered_volume-volume.result.lo * 1) (unsigned_abs c.metered_volume-volume.result.hi * 1) = cc in
    simp to_z-of_z (rw (lo_is, hi_is)
    (litre_between _ _ _ _ _ _ above c.metered_volume-volume.result.ordered (c.heat_given-given.ensures.holds tf tr (rw c.over-f.ensures pf) (rw c.over-r.ensures pr)) (c.metered_volume-volume.ensures.holds tf tr (rw c.over-f.ensures pf) (rw c.over-r.ensures pr))))

pub returns-clause-ordered : goal.returns-clause-ordered
returns-clause-ordered c =
    let fl : SFits w128 c.quotient_ends-ends.result.lo = search rules in
    let fh : SFits w128 c.quotient_ends-ends.result.hi = search rules in
    let above : 0 < unsigned_abs c.metered_volume-volume.result.lo * 1 = omega (arith, ints, c.metered_volume-volume.ensures.least) in
    let lo_is : c.quotient_ends-ends.result.lo ≡ least_floor (c.heat_given-given.result.lo *ℤ pos 256000) (unsigned_abs c.metered_volume-volume.result.lo * 1) (unsigned_abs c.metered_volume-volume.result.hi * 1) = cc in
    let hi_is : c.quotient_ends-ends.result.hi ≡ greatest_ceil (c.heat_given-given.result.hi *ℤ pos 256000) (unsigned_abs c.metered_volume-volume.result.lo * 1) (unsigned_abs c.metered_volume-volume.result.hi * 1) = cc in
    simp to_z-of_z (rw (lo_is, hi_is)
    (ends_ordered (c.heat_given-given.result.lo *ℤ pos 256000) (c.heat_given-given.result.hi *ℤ pos 256000) _ _ above (mul-le_pos 256000 c.heat_given-given.result.ordered)))

pub returns-clause-closer : goal.returns-clause-closer
returns-clause-closer c =
    let fl : SFits w128 c.quotient_ends-ends.result.lo = search rules in
    let fh : SFits w128 c.quotient_ends-ends.result.hi = search rules in
    let lo_is : c.quotient_ends-ends.result.lo ≡ least_floor (c.heat_given-given.result.lo *ℤ pos 256000) (unsigned_abs c.metered_volume-volume.result.lo * 1) (unsigned_abs c.metered_volume-volume.result.hi * 1) = cc in
    let hi_is : c.quotient_ends-ends.result.hi ≡ greatest_ceil (c.heat_given-given.result.hi *ℤ pos 256000) (unsigned_abs c.metered_volume-volume.result.lo * 1) (unsigned_abs c.metered_volume-volume.result.hi * 1) = cc in
    simp to_z-of_z (rw (lo_is, hi_is)
    (litre_ends _ _ _ _ (c.args.f.hi - c.args.f.lo) (c.args.r.hi - c.args.r.lo) c.metered_volume-volume.result.ordered c.metered_volume-volume.ensures.least
    (c.metered_volume-volume.ensures.width 3000 (rw c.over-f.ensures c.requires.flow_narrow) (rw c.over-r.ensures c.requires.return_narrow))
    c.heat_given-given.result.ordered c.heat_given-given.ensures.least c.heat_given-given.ensures.most (rw (c.over-f.ensures, c.over-r.ensures) at c.heat_given-given.ensures.width)))

pub returns-clause-width : goal.returns-clause-width
returns-clause-width c = omega (arith, ints, returns-clause-closer c)

pub returns-clause-least : goal.returns-clause-least
returns-clause-least c =
    let fl : SFits w128 c.quotient_ends-ends.result.lo = search rules in
    let lo_is : c.quotient_ends-ends.result.lo ≡ least_floor (c.heat_given-given.result.lo *ℤ pos 256000) (unsigned_abs c.metered_volume-volume.result.lo * 1) (unsigned_abs c.metered_volume-volume.result.hi * 1) = cc in
    simp to_z-of_z (rw lo_is (litre_within _ _ _ _ c.metered_volume-volume.result.ordered c.metered_volume-volume.ensures.least c.heat_given-given.result.ordered c.heat_given-given.ensures.least c.heat_given-given.ensures.most).0)

pub returns-clause-most : goal.returns-clause-most
returns-clause-most c =
    let fh : SFits w128 c.quotient_ends-ends.result.hi = search rules in
    let hi_is : c.quotient_ends-ends.result.hi ≡ greatest_ceil (c.heat_given-given.result.hi *ℤ pos 256000) (unsigned_abs c.metered_volume-volume.result.lo * 1) (unsigned_abs c.metered_volume-volume.result.hi * 1) = cc in
    simp to_z-of_z (rw hi_is (litre_within _ _ _ _ c.metered_volume-volume.result.ordered c.metered_volume-volume.ensures.least c.heat_given-given.result.ordered c.heat_given-given.ensures.least c.heat_given-given.ensures.most).1)
