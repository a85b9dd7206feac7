use Rattle.enclosure_sizes.proofs.Sizes.{Sized-product}
use Rattle.enclosure_sizes.proofs.Ranges.{products_within}
use Rattle.std.proofs.Common.{◌-◌, lit<, ◌*◌, ◌^◌, arith, lit≤}
use Rattle.std.proofs.lemmas.Int.{ints}
use Rattle.region1_terms.proofs.powers.scaled_product.Goals as goal

pub mul-requires : goal.mul-requires
mul-requires c = (
  lit< tt,
  products_within (2 ^ 62 - 1) (2 ^ 56) ((2 ^ 62 - 1) * 2 ^ 56) _ _ _ _ (lit≤ tt)
      (record { low = c.requires.c_low; high = omega (arith, ints, c.requires.c_high, c.args.c.ordered) })
      (record { low = omega (arith, ints, c.requires.c_low, c.args.c.ordered); high = c.requires.c_high })
      (record { low = c.requires.b_low; high = omega (arith, ints, c.requires.b_high, c.args.b.ordered) })
      (record { low = omega (arith, ints, c.requires.b_low, c.args.b.ordered); high = c.requires.b_high }),
)

pub returns-clause-size : goal.returns-clause-size
returns-clause-size c = λ s t d p q.
    rw (c.mul.ensures.lo, c.mul.ensures.hi)
    (Sized-product 56 s.most s.base s.per t.most t.base t.per d c.args.c.lo c.args.c.hi c.args.b.lo c.args.b.hi c.args.c.ordered c.args.b.ordered p q)
