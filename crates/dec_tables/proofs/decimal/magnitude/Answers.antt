use Rattle.std.proofs.Common.{◌≡◌, ◌+◌, ◌*◌, ◌/◌, ◌^◌, ◌≤◌, ◌∙◌, ap, pos, ◌≤ℤ◌, ◌<ℤ◌, unsigned_abs, arith, lit<, to_z-of_z}
use Rattle.std.proofs.lemmas.Int.{ints}
use mir.Val.{SFits}
use mir.Syntax.{w8}
use Rattle.dec_tables.proofs.Decimals.{product_size, floor_small, Holds-quotient, Holds-product}
use Rattle.dec_tables.proofs.decimal.magnitude.Goals as goal

pub of_ends-requires : goal.of_ends-requires
of_ends-requires g c =
    let under : c.args.exp10 <ℤ pos 0 = grind (arith, ints) in
    let fits : SFits w8 c.args.exp10 = c.ranges.exp10 in
    let places : c.from-places.result ≡ unsigned_abs c.args.exp10 = c.from-places.ensures ∙ (simp to_z-of_z at c.unsigned_abs.ensures.value) in
    let is : c.decimal_quotient-floor.result ≡ c.args.m * 2 ^ (g.row.S + c.args.up) / 10 ^ unsigned_abs c.args.exp10 = c.decimal_quotient-floor.ensures ∙ ap (λ p. c.args.m * 2 ^ (g.row.S + c.args.up) / 10 ^ p) places in
    let small : c.decimal_quotient-floor.result ≤ 2 ^ 61 = floor_small c.args.m (g.row.S + c.args.up) _ c.args.exp10 under is c.requires.size in
    (lit< tt, (omega (arith, ints), (omega (arith, ints), (omega (arith, ints), c.requires.scale))))

pub returns-then-exp10-lt0-clause-holds : goal.returns-then-exp10-lt0-clause-holds
returns-then-exp10-lt0-clause-holds g c =
    let under : c.args.exp10 <ℤ pos 0 = grind (arith, ints) in
    let fits : SFits w8 c.args.exp10 = c.ranges.exp10 in
    let places : c.from-places.result ≡ unsigned_abs c.args.exp10 = c.from-places.ensures ∙ (simp to_z-of_z at c.unsigned_abs.ensures.value) in
    let is : c.decimal_quotient-floor.result ≡ c.args.m * 2 ^ (g.row.S + c.args.up) / 10 ^ unsigned_abs c.args.exp10 = c.decimal_quotient-floor.ensures ∙ ap (λ p. c.args.m * 2 ^ (g.row.S + c.args.up) / 10 ^ p) places in
    let small : c.decimal_quotient-floor.result ≤ 2 ^ 61 = floor_small c.args.m (g.row.S + c.args.up) _ c.args.exp10 under is c.requires.size in
    let lo : c.of_ends.result.lo ≡ pos c.decimal_quotient-floor.result = omega (arith, ints, c.of_ends.ensures.lo) in
    let hi : c.of_ends.result.hi ≡ pos (c.decimal_quotient-floor.result + 1) = omega (arith, ints, c.of_ends.ensures.hi) in
    rw (lo, hi) (Holds-quotient g.row.S c.args.m c.args.up c.decimal_quotient-floor.result c.args.exp10 under is)

pub returns-then-exp10-lt0-clause-low : goal.returns-then-exp10-lt0-clause-low
returns-then-exp10-lt0-clause-low g c =
    let under : c.args.exp10 <ℤ pos 0 = grind (arith, ints) in
    let fits : SFits w8 c.args.exp10 = c.ranges.exp10 in
    let places : c.from-places.result ≡ unsigned_abs c.args.exp10 = c.from-places.ensures ∙ (simp to_z-of_z at c.unsigned_abs.ensures.value) in
    let is : c.decimal_quotient-floor.result ≡ c.args.m * 2 ^ (g.row.S + c.args.up) / 10 ^ unsigned_abs c.args.exp10 = c.decimal_quotient-floor.ensures ∙ ap (λ p. c.args.m * 2 ^ (g.row.S + c.args.up) / 10 ^ p) places in
    let small : c.decimal_quotient-floor.result ≤ 2 ^ 61 = floor_small c.args.m (g.row.S + c.args.up) _ c.args.exp10 under is c.requires.size in
    omega (arith, ints, c.of_ends.ensures.lo)

pub returns-else-exp10-lt0-clause-holds : goal.returns-else-exp10-lt0-clause-holds
returns-else-exp10-lt0-clause-holds g c =
    let above : pos 0 ≤ℤ c.args.exp10 = grind (arith, ints) in
    let fits : SFits w8 c.args.exp10 = c.ranges.exp10 in
    let places : c.from-places.result ≡ unsigned_abs c.args.exp10 = c.from-places.ensures ∙ (simp to_z-of_z at c.unsigned_abs.ensures.value) in
    let is : c.decimal_product.result ≡ c.args.m * 10 ^ unsigned_abs c.args.exp10 * 2 ^ (g.row.S + c.args.up) = c.decimal_product.ensures ∙ ap (λ p. c.args.m * 10 ^ p * 2 ^ (g.row.S + c.args.up)) places in
    let small : c.decimal_product.result ≤ 2 ^ 61 = rw is (product_size c.args.m (g.row.S + c.args.up) c.args.exp10 above c.requires.size) in
    let lo : c.point.result.lo ≡ pos c.decimal_product.result = omega (arith, ints, c.point.ensures.lo) in
    let hi : c.point.result.hi ≡ pos c.decimal_product.result = omega (arith, ints, c.point.ensures.hi) in
    rw (lo, hi) (Holds-product g.row.S c.args.m c.args.up c.decimal_product.result c.args.exp10 above is)
