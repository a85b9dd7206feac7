use Rattle.std.proofs.Common.{◌∙◌, sym, pos, ◌*ℤ◌, arith, to_z-of_z}
use Rattle.std.proofs.lemmas.Int.{ints}
use mir.Syntax.{w128}
use mir.Val.{SFits}
use Rattle.bench_limits.specs.Factors.{least_factor, most_factor}
use Rattle.bench_limits.proofs.Products.{calculator_verdict-integer, Fit, Fit-products}
use Rattle.bench_limits.proofs.calculator.verdict_at.Goals as goal

pub overflow_mul-factors : goal.overflow_mul-factors
overflow_mul-factors c =
    let p : Fit c.args.dmin_udeg c.args.delta_udeg c.args.litres c.args.energy_mj c.args.q_mj = Fit-products _ _ _ _ _ c.requires.most_least_difference c.requires.most_difference c.requires.most_litres c.requires.most_energy c.requires.litre in
    let fq : SFits w128 c.args.q_mj = c.ranges.q_mj in
    let fl : SFits w128 (pos c.args.litres) = omega (arith, ints) in
    let fa : SFits w128 (least_factor c.args.dmin_udeg c.args.delta_udeg) = omega (arith, ints) in
    let fg = p.given in
    simp (c.factors_of-factors.ensures.least, c.from.ensures, to_z-of_z) p.least

pub overflow_mul-factors-2 : goal.overflow_mul-factors-2
overflow_mul-factors-2 c =
    let p : Fit c.args.dmin_udeg c.args.delta_udeg c.args.litres c.args.energy_mj c.args.q_mj = Fit-products _ _ _ _ _ c.requires.most_least_difference c.requires.most_difference c.requires.most_litres c.requires.most_energy c.requires.litre in
    let fq : SFits w128 c.args.q_mj = c.ranges.q_mj in
    let fl : SFits w128 (pos c.args.litres) = omega (arith, ints) in
    let fb : SFits w128 (most_factor c.args.dmin_udeg c.args.delta_udeg) = omega (arith, ints) in
    let fg = p.given in
    simp (c.factors_of-factors.ensures.most, c.from.ensures, to_z-of_z) p.most

pub returns : goal.returns
returns c =
    let p : Fit c.args.dmin_udeg c.args.delta_udeg c.args.litres c.args.energy_mj c.args.q_mj = Fit-products _ _ _ _ _ c.requires.most_least_difference c.requires.most_difference c.requires.most_litres c.requires.most_energy c.requires.litre in
    let fq : SFits w128 c.args.q_mj = c.ranges.q_mj in
    let fl : SFits w128 (pos c.args.litres) = omega (arith, ints) in
    let fd : SFits w128 (pos c.args.delta_udeg) = omega (arith, ints) in
    let fe : SFits w128 (pos c.args.energy_mj) = omega (arith, ints) in
    let f200 : SFits w128 (pos 200 *ℤ pos c.args.delta_udeg) = omega (arith, ints) in
    let fa : SFits w128 (least_factor c.args.dmin_udeg c.args.delta_udeg) = omega (arith, ints) in
    let fb : SFits w128 (most_factor c.args.dmin_udeg c.args.delta_udeg) = omega (arith, ints) in
    let fg = p.given in
    let low = p.least in
    let high = p.most in
    let at = p.indicated in
    simp (c.factors_of-factors.ensures.least, c.factors_of-factors.ensures.most, c.from.ensures, c.from-2.ensures, c.from-3.ensures, to_z-of_z) at c.within.ensures
    ∙ sym (calculator_verdict-integer c.args.dmin_udeg c.args.delta_udeg c.args.litres c.args.energy_mj c.args.q_mj)
