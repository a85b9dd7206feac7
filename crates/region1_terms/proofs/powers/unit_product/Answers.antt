use Rattle.enclosure_sizes.proofs.Sizes.{Sized-product}
use Rattle.enclosure_sizes.proofs.Ranges.{products_within, ends_low, ends_high}
use Rattle.std.proofs.Common.{ℕ, ◌-◌, ◌≤◌, lit<, ◌*◌, ◌^◌, arith, lit≤}
use Rattle.std.proofs.lemmas.Int.{ints}
use Rattle.interval_num.specs.Ends.{ProductsWithin}
use Rattle.region1_terms.proofs.powers.unit_product.Goals as goal
use Rattle.region1_terms.proofs.powers.unit_product.Goals.{Start}

within : (k : ℕ) → 2 ^ 56 * 2 ^ 56 ≤ k → (c : Start) → ProductsWithin k c.args.a.lo c.args.a.hi c.args.b.lo c.args.b.hi
within k most c = products_within (2 ^ 56) (2 ^ 56) k _ _ _ _ most
    (record { low = omega (arith, ints, c.requires.a_low); high = omega (arith, ints, c.requires.a_high, c.args.a.ordered) })
    (record { low = omega (arith, ints, c.requires.a_low, c.args.a.ordered); high = c.requires.a_high })
    (record { low = omega (arith, ints, c.requires.b_low); high = omega (arith, ints, c.requires.b_high, c.args.b.ordered) })
    (record { low = omega (arith, ints, c.requires.b_low, c.args.b.ordered); high = c.requires.b_high })

pub mul-requires : goal.mul-requires
mul-requires c = (lit< tt, within ((2 ^ 62 - 1) * 2 ^ 56) (lit≤ tt) c)

pub returns-clause-low : goal.returns-clause-low
returns-clause-low c = rw c.mul.ensures.lo (ends_low (2 ^ 56) 56 _ _ _ _ (within (2 ^ 56 * 2 ^ 56) (lit≤ tt) (goal.at.returns-clause-low c).Start))

pub returns-clause-high : goal.returns-clause-high
returns-clause-high c = rw c.mul.ensures.hi (ends_high (2 ^ 56) 56 _ _ _ _ (within (2 ^ 56 * 2 ^ 56) (lit≤ tt) (goal.at.returns-clause-high c).Start))

pub returns-clause-size : goal.returns-clause-size
returns-clause-size c = λ s t d p q.
    rw (c.mul.ensures.lo, c.mul.ensures.hi)
    (Sized-product 56 s.most s.base s.per t.most t.base t.per d c.args.a.lo c.args.a.hi c.args.b.lo c.args.b.hi c.args.a.ordered c.args.b.ordered p q)
