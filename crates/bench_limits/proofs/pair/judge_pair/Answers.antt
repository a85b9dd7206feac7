use Rattle.std.proofs.Common.{◌*◌, ◌-◌, pos, ◌-ℤ◌, arith, to_z-of_z}
use Rattle.std.proofs.lemmas.Int.{ints}
use mir.Syntax.{w128}
use mir.Val.{SFits}
use Rattle.bench_model.proofs.Steady.{pair_verdict-steady}
use Rattle.bench_limits.proofs.Judging.{IsJudged-judged_ends}
use Rattle.bench_limits.proofs.pair.judge_pair.Goals as goal

pub returns : goal.returns
returns c =
    let lo = pos c.args.f.lo -ℤ pos c.args.r.hi in
    let hi = pos c.args.f.hi -ℤ pos c.args.r.lo in
    let f1 : SFits w128 (pos c.args.f.lo) = omega (arith, ints) in
    let f2 : SFits w128 (pos c.args.f.hi) = omega (arith, ints) in
    let f3 : SFits w128 (pos c.args.r.lo) = omega (arith, ints) in
    let f4 : SFits w128 (pos c.args.r.hi) = omega (arith, ints) in
    let fl : SFits w128 (pos c.args.f.lo -ℤ pos c.args.r.hi) = omega (arith, ints) in
    let fh : SFits w128 (pos c.args.f.hi -ℤ pos c.args.r.lo) = omega (arith, ints) in
    let at_lo = simp (c.from.ensures, c.from-2.ensures, to_z-of_z) at c.verdict_at-at_lo.ensures in
    let at_hi = simp (c.from-3.ensures, c.from-4.ensures, to_z-of_z) at c.verdict_at-at_hi.ensures in
    let is = simp (c.from.ensures, c.from-2.ensures, c.from-3.ensures, c.from-4.ensures, to_z-of_z) at c.between.ensures in
    IsJudged-judged_ends _ lo hi _ _ _ at_lo at_hi
    (pair_verdict-steady (1000 * c.args.dmin_udeg) (1000 * (c.args.tf_udeg - c.args.tr_udeg)) lo hi) is
