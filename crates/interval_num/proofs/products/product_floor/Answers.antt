use Rattle.std.proofs.Common.{◌^◌, ◌*ℤ◌, ap, arith, to_z-of_z, rules}
use Rattle.std.proofs.lemmas.Int.{ints}
use mir.Val.{SFits}
use mir.Syntax.{w128}
use lib.Signed.{shr_z}
use Rattle.interval_num.proofs.products.product_floor.Goals as goal

pub returns : goal.returns
returns c =
    let fl : SFits w128 c.args.l = c.ranges.l in
    let fh : SFits w128 c.args.h = c.ranges.h in
    let fm : SFits w128 c.args.m = c.ranges.m in
    let fk : SFits w128 c.args.k = c.ranges.k in
    let lm : SFits w128 (c.args.l *ℤ c.args.m) = omega (arith, ints) in
    let hm : SFits w128 (c.args.h *ℤ c.args.m) = omega (arith, ints) in
    let lk : SFits w128 (c.args.l *ℤ c.args.k) = omega (arith, ints) in
    let hk : SFits w128 (c.args.h *ℤ c.args.k) = omega (arith, ints) in
    let e = simp to_z-of_z at c.least.ensures in
    let fr : SFits w128 c.least.result = search rules in
    let fs : SFits w128 (shr_z c.least.result (2 ^ c.args.s)) = search rules in
    simp to_z-of_z (ap (λ t. shr_z t (2 ^ c.args.s)) e)
