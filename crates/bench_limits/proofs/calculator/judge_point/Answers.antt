use Rattle.std.proofs.Common.{arith, to_z-of_z}
use Rattle.std.proofs.lemmas.Int.{ints}
use mir.Syntax.{w128}
use mir.Val.{SFits}
use Rattle.bench_model.proofs.Steady.{calculator_verdict-steady}
use Rattle.bench_limits.proofs.Judging.{IsJudged-judged_ends}
use Rattle.bench_limits.proofs.calculator.judge_point.Goals as goal

pub returns : goal.returns
returns c =
    let fl : SFits w128 c.args.q.lo_mj = omega (arith, ints, c.requires.lo.low, c.requires.lo.high) in
    let fh : SFits w128 c.args.q.hi_mj = omega (arith, ints, c.requires.hi.low, c.requires.hi.high) in
    let at_lo = simp to_z-of_z at c.verdict_at-at_lo.ensures in
    let at_hi = simp to_z-of_z at c.verdict_at-at_hi.ensures in
    let is = simp to_z-of_z at c.between.ensures in
    IsJudged-judged_ends _ c.args.q.lo_mj c.args.q.hi_mj _ _ _ at_lo at_hi
    (calculator_verdict-steady c.args.dmin_udeg c.args.delta_udeg c.args.litres c.args.energy_mj c.args.q.lo_mj c.args.q.hi_mj) is
