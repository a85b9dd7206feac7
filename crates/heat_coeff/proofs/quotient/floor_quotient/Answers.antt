use Rattle.std.proofs.Common.{◌≡◌, ◌∙◌, pos, ◌≤ℤ◌, arith, unsigned_abs, to_z-of_z, rules}
use Rattle.std.proofs.lemmas.Int.{ints}
use Rattle.std.specs.Int.{int_div_euclid}
use lib.Signed.{◌<ℤ◌}
use mir.Syntax.{w128}
use mir.Val.{SFits}
use Rattle.number_model.proofs.Roundings.{floor_div-euclid}
use Rattle.number_model.proofs.Ints.{≤ℤ_trans}
use Rattle.interval_num.proofs.QuotientLemmas.{unsigned_abs-positive, unsigned_abs-ordered}
use Rattle.heat_coeff.proofs.Quotients.{least_floor-negative, least_floor-nonnegative}
use Rattle.heat_coeff.proofs.quotient.floor_quotient.Goals as goal

pub returns-then-n-lt0-clause-value : goal.returns-then-n-lt0-clause-value
returns-then-n-lt0-clause-value c =
    let fn : SFits w128 c.args.n = c.ranges.n in
    let fl : SFits w128 c.args.least = c.ranges.least in
    let fd : SFits w128 c.div_euclid.result = search rules in
    let divided = simp to_z-of_z at c.div_euclid.ensures in
    let e : c.div_euclid.result ≡ int_div_euclid c.args.n c.args.least = cc in
    let negative : c.args.n <ℤ pos 0 = omega (arith, ints, c.if-n-lt0.true) in
    simp to_z-of_z (e ∙ floor_div-euclid c.args.n c.args.least c.requires.positive
    ∙ least_floor-negative c.args.n (unsigned_abs c.args.least) (unsigned_abs c.args.most) (unsigned_abs-positive c.args.least c.requires.positive) (unsigned_abs-ordered c.args.least c.args.most c.requires.positive c.requires.ordered) negative)

pub returns-else-n-lt0-clause-value : goal.returns-else-n-lt0-clause-value
returns-else-n-lt0-clause-value c =
    let fn : SFits w128 c.args.n = c.ranges.n in
    let fm : SFits w128 c.args.most = c.ranges.most in
    let fd : SFits w128 c.div_euclid-else-n-lt0.result = search rules in
    let divided = simp to_z-of_z at c.div_euclid-else-n-lt0.ensures in
    let e : c.div_euclid-else-n-lt0.result ≡ int_div_euclid c.args.n c.args.most = cc in
    let positive : pos 0 ≤ℤ c.args.n = omega (arith, ints, c.if-n-lt0.false) in
    simp to_z-of_z (e ∙ floor_div-euclid c.args.n c.args.most (≤ℤ_trans c.requires.positive c.requires.ordered)
    ∙ least_floor-nonnegative c.args.n (unsigned_abs c.args.least) (unsigned_abs c.args.most) (unsigned_abs-positive c.args.least c.requires.positive) (unsigned_abs-ordered c.args.least c.args.most c.requires.positive c.requires.ordered) positive)
