use Rattle.std.proofs.Common.{◌≡◌, ◌^◌, ◌*ℤ◌, ◌∙◌, ap, arith, to_z-of_z, rules}
use Rattle.std.proofs.lemmas.Int.{ints}
use mir.Val.{SFits}
use mir.Syntax.{w128}
use Rattle.number_model.specs.Rounding.{ceil_div}
use Rattle.number_model.specs.Rounding.{IsWithin}
use Rattle.interval_num.specs.Ends.{greatest_product}
use Rattle.interval_num.proofs.EndsLemmas.{IsWithin-greatest}
use Rattle.interval_num.proofs.products.product_ceil.Goals as goal
use Rattle.interval_num.proofs.products.product_ceil.Goals.{After-greatest}

greatest_is : (c : After-greatest) → c.greatest.result ≡ greatest_product c.args.l c.args.h c.args.m c.args.k
greatest_is c =
    let fl : SFits w128 c.args.l = c.ranges.l in
    let fh : SFits w128 c.args.h = c.ranges.h in
    let fm : SFits w128 c.args.m = c.ranges.m in
    let fk : SFits w128 c.args.k = c.ranges.k in
    let lm : SFits w128 (c.args.l *ℤ c.args.m) = omega (arith, ints) in
    let hm : SFits w128 (c.args.h *ℤ c.args.m) = omega (arith, ints) in
    let lk : SFits w128 (c.args.l *ℤ c.args.k) = omega (arith, ints) in
    let hk : SFits w128 (c.args.h *ℤ c.args.k) = omega (arith, ints) in
    simp to_z-of_z at c.greatest.ensures

within : (c : After-greatest) → IsWithin (2 ^ 126) c.greatest.result
within c = rw (greatest_is c) (IsWithin-greatest _ _ _ _ _ c.requires.range.lm c.requires.range.hm c.requires.range.lk c.requires.range.hk)

pub ceil_shift-requires-clause-range : goal.ceil_shift-requires-clause-range
ceil_shift-requires-clause-range c =
    let w : IsWithin (2 ^ 126) c.greatest.result = within c in
    let f : SFits w128 c.greatest.result = omega (arith, ints, w.low, w.high) in
    simp to_z-of_z w

pub returns : goal.returns
returns c =
    let w : IsWithin (2 ^ 126) c.greatest.result = within (goal.at.returns c).After-greatest in
    let f : SFits w128 c.greatest.result = omega (arith, ints, w.low, w.high) in
    let fc : SFits w128 c.ceil_shift.result = search rules in
    let e = simp to_z-of_z at c.ceil_shift.ensures in
    simp to_z-of_z (e ∙ ap (λ t. ceil_div t (2 ^ c.args.s)) (greatest_is (goal.at.returns c).After-greatest))
