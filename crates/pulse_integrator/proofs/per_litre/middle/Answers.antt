use Rattle.std.proofs.Common.{pos, negsuc, ℤ, ◌+ℤ◌, ◌*ℤ◌, ◌≤ℤ◌, w64, arith, to_z-of_z, rules}
use Rattle.std.proofs.lemmas.Int.{ints}
use mir.Syntax.{w128}
use mir.Val.{SFits}
use lib.Signed.{shr_z}
use Rattle.pulse_integrator.proofs.per_litre.middle.Goals as goal

low_half : (z : ℤ) → (pos 2 *ℤ shr_z z 2) ≤ℤ z
low_half (pos a) = omega (arith, ints)
low_half (negsuc a) = omega (arith, ints)

high_half : (z : ℤ) → z ≤ℤ (pos 2 *ℤ shr_z z 2 +ℤ pos 1)
high_half (pos a) = omega (arith, ints)
high_half (negsuc a) = omega (arith, ints)

pub returns-clause-low : goal.returns-clause-low
returns-clause-low c =
    let fl : SFits w128 c.args.q.lo_mj = omega (arith, ints, c.requires.least.low, c.requires.least.high) in
    let fh : SFits w128 c.args.q.hi_mj = omega (arith, ints, c.requires.most.low, c.requires.most.high) in
    let fs : SFits w128 (c.args.q.lo_mj +ℤ c.args.q.hi_mj) = omega (arith, ints, c.requires.least.low, c.requires.least.high, c.requires.most.low, c.requires.most.high) in
    let fd : SFits w128 (shr_z (c.args.q.lo_mj +ℤ c.args.q.hi_mj) 2) = search rules in
    let fe : SFits w64 (shr_z (c.args.q.lo_mj +ℤ c.args.q.hi_mj) 2) = search rules in
    simp to_z-of_z (low_half (c.args.q.lo_mj +ℤ c.args.q.hi_mj))

pub returns-clause-high : goal.returns-clause-high
returns-clause-high c =
    let fl : SFits w128 c.args.q.lo_mj = omega (arith, ints, c.requires.least.low, c.requires.least.high) in
    let fh : SFits w128 c.args.q.hi_mj = omega (arith, ints, c.requires.most.low, c.requires.most.high) in
    let fs : SFits w128 (c.args.q.lo_mj +ℤ c.args.q.hi_mj) = omega (arith, ints, c.requires.least.low, c.requires.least.high, c.requires.most.low, c.requires.most.high) in
    let fd : SFits w128 (shr_z (c.args.q.lo_mj +ℤ c.args.q.hi_mj) 2) = search rules in
    let fe : SFits w64 (shr_z (c.args.q.lo_mj +ℤ c.args.q.hi_mj) 2) = search rules in
    simp to_z-of_z (high_half (c.args.q.lo_mj +ℤ c.args.q.hi_mj))
