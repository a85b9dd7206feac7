use Rattle.std.proofs.Common.{◌^◌, ◌*ℤ◌, ◌<ℤ◌, ◌≤ℤ◌, pos, ap, sym, to_z-of_z, rules}
use mir.Val.{SFits}
use mir.Syntax.{w128}
use lib.Signed.{shr_z}
use Rattle.number_model.proofs.Ints.{≤ℤ_trans}
use Rattle.dec_tables.proofs.Decimals.{below_of}
use Rattle.dec_tables.proofs.Steps.{product_fits, min_falling, min_rising, not_below_of}
use Rattle.dec_tables.proofs.step.least.Goals as goal

pub returns-then-h-lt0 : goal.returns-then-h-lt0
returns-then-h-lt0 c =
    let fu : SFits w128 c.args.u = c.ranges.u in
    let fh : SFits w128 c.args.h = c.ranges.h in
    let fp : SFits w128 (c.args.u *ℤ c.args.h) = product_fits c.args.u c.args.h (≤ℤ_trans c.requires.low c.requires.ordered) c.requires.high c.requires.range in
    let fs : SFits w128 (shr_z (c.args.u *ℤ c.args.h) (2 ^ c.args.s)) = search rules in
    let below : c.args.h <ℤ pos 0 = below_of c.args.h (simp to_z-of_z at c.if-h-lt0.true) in
    simp to_z-of_z (ap (λ t. shr_z t (2 ^ c.args.s)) (sym (min_falling c.args.l c.args.u c.args.h c.requires.ordered below)))

pub returns-else-h-lt0 : goal.returns-else-h-lt0
returns-else-h-lt0 c =
    let fl : SFits w128 c.args.l = c.ranges.l in
    let fh : SFits w128 c.args.h = c.ranges.h in
    let fp : SFits w128 (c.args.l *ℤ c.args.h) = product_fits c.args.l c.args.h c.requires.low (≤ℤ_trans c.requires.ordered c.requires.high) c.requires.range in
    let fs : SFits w128 (shr_z (c.args.l *ℤ c.args.h) (2 ^ c.args.s)) = search rules in
    let above : pos 0 ≤ℤ c.args.h = not_below_of c.args.h (simp to_z-of_z at c.if-h-lt0.false) in
    simp to_z-of_z (ap (λ t. shr_z t (2 ^ c.args.s)) (sym (min_rising c.args.l c.args.u c.args.h c.requires.ordered above)))
