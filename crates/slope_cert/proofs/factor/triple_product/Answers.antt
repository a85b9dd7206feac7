use Rattle.std.proofs.Common.{◌*◌, ◌^◌, lit<, lit≤, pos, neg_ℤ, ◌≤ℤ◌}
use Rattle.interval_num.specs.Ends.{ProductsWithin}
use Rattle.enclosure_sizes.proofs.Ranges.{products_within, ends_low, ends_high}
use Rattle.enclosure_sizes.proofs.Sizes.{Sized-product}
use Rattle.slope_cert.proofs.Quotients.{within_both}
use Rattle.slope_cert.proofs.factor.triple_product.Goals as goal

pub mul-requires : goal.mul-requires
mul-requires c =
    let a = within_both (2 ^ 55) c.args.a.lo c.args.a.hi c.args.a.ordered c.requires.a_low c.requires.a_high in
    let b = within_both (2 ^ 59) c.args.b.lo c.args.b.hi c.args.b.ordered c.requires.b_low c.requires.b_high in
    (lit< tt, products_within (2 ^ 55) (2 ^ 59) _ _ _ _ _ (lit≤ tt) a.0 a.1 b.0 b.1)

pub mul-requires-2 : goal.mul-requires-2
mul-requires-2 c =
    let a = within_both (2 ^ 55) c.args.a.lo c.args.a.hi c.args.a.ordered c.requires.a_low c.requires.a_high in
    let b = within_both (2 ^ 59) c.args.b.lo c.args.b.hi c.args.b.ordered c.requires.b_low c.requires.b_high in
    let e = within_both (2 ^ 59) c.args.c.lo c.args.c.hi c.args.c.ordered c.requires.c_low c.requires.c_high in
    let first : ProductsWithin (2 ^ 58 * 2 ^ 56) c.args.a.lo c.args.a.hi c.args.b.lo c.args.b.hi = products_within (2 ^ 55) (2 ^ 59) _ _ _ _ _ (lit≤ tt) a.0 a.1 b.0 b.1 in
    let low : neg_ℤ (pos (2 ^ 58)) ≤ℤ c.mul.result.lo = rw c.mul.ensures.lo (ends_low (2 ^ 58) 56 c.args.a.lo c.args.a.hi c.args.b.lo c.args.b.hi first) in
    let high : c.mul.result.hi ≤ℤ pos (2 ^ 58) = rw c.mul.ensures.hi (ends_high (2 ^ 58) 56 c.args.a.lo c.args.a.hi c.args.b.lo c.args.b.hi first) in
    let m = within_both (2 ^ 58) c.mul.result.lo c.mul.result.hi c.mul.result.ordered low high in
    (lit< tt, products_within (2 ^ 58) (2 ^ 59) _ _ _ _ _ (lit≤ tt) m.0 m.1 e.0 e.1)

pub returns-clause-holds : goal.returns-clause-holds
returns-clause-holds c = λ x y z p q r. c.mul-2.ensures.holds _ z (c.mul.ensures.holds x y p q) r

pub returns-clause-size : goal.returns-clause-size
returns-clause-size c = λ s t u d p q r.
    let first = rw (← c.mul.ensures.lo, ← c.mul.ensures.hi) at (Sized-product 56 _ _ _ _ _ _ _ c.args.a.lo c.args.a.hi c.args.b.lo c.args.b.hi c.args.a.ordered c.args.b.ordered p q) in
    rw (c.mul-2.ensures.lo, c.mul-2.ensures.hi)
    (Sized-product 56 _ _ _ _ _ _ _ c.mul.result.lo c.mul.result.hi c.args.c.lo c.args.c.hi c.mul.result.ordered c.args.c.ordered first r)
