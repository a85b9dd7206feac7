use Rattle.std.proofs.Common.{◌*◌, ◌∙◌, sym, pos, neg_ℤ, ◌+ℤ◌, ◌-ℤ◌, ◌*ℤ◌, arith, to_z-of_z}
use Rattle.std.proofs.lemmas.Int.{ints}
use mir.Syntax.{w128}
use mir.Val.{SFits}
use lib.IntN.{+ℤ_idl}
use Rattle.bench_limits.proofs.Products.{pair_verdict-integer}
use Rattle.bench_limits.proofs.pair.verdict_at.Goals as goal

pub returns : goal.returns
returns c =
    let m = 1000 * c.args.dmin_udeg in
    let d = 1000 * c.args.delta_udeg in
    let fr : SFits w128 c.args.read_ndeg = c.ranges.read_ndeg in
    let fm : SFits w128 (pos c.args.dmin_udeg) = omega (arith, ints) in
    let fd : SFits w128 (pos c.args.delta_udeg) = omega (arith, ints) in
    let f1 : SFits w128 (pos 1000 *ℤ pos c.args.dmin_udeg) = omega (arith, ints) in
    let f2 : SFits w128 (pos 1000 *ℤ pos c.args.delta_udeg) = omega (arith, ints) in
    let f3 : SFits w128 (pos 6 *ℤ pos m) = omega (arith, ints) in
    let f4 : SFits w128 (pos d +ℤ pos 6 *ℤ pos m) = omega (arith, ints) in
    let f5 : SFits w128 (c.args.read_ndeg -ℤ pos d) = omega (arith, ints, c.requires.read.low, c.requires.read.high) in
    let f6 : SFits w128 (pos 200 *ℤ (c.args.read_ndeg -ℤ pos d)) = omega (arith, ints, c.requires.read.low, c.requires.read.high) in
    let f7 : SFits w128 (neg_ℤ (pos d +ℤ pos 6 *ℤ pos m)) = omega (arith, ints) in
    let within = simp (c.from-dmin.ensures, c.from-delta.ensures, to_z-of_z, +ℤ_idl) at c.within.ensures in
    within ∙ sym (pair_verdict-integer m d c.args.read_ndeg)
