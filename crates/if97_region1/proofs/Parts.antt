-- The products that the volume is put together from.
use Rattle.std.proofs.Common.{◌≡◌, ℕ, ◌-◌, ◌*◌, ◌^◌, arith, lit≤, ℤ, pos, ◌≤ℤ◌}
use Rattle.std.proofs.lemmas.Int.{ints}
use Rattle.number_model.specs.Rounding.{floor_div, ceil_div}
use Rattle.interval_num.specs.Ends.{ProductsWithin, least_product, greatest_product}
use Rattle.enclosure_sizes.specs.Size.{SizedBy}
use Rattle.enclosure_sizes.proofs.Ranges.{products_within}
use Rattle.enclosure_sizes.proofs.Sizes.{Sized-product}
use Rattle.region1_terms.specs.Variables.{u_size, r_size}
use Rattle.if97_region1.specs.Sizes.{falling_size, higher_size, over_tau_size, by_y_over_tau_size}

-- a number times one from 0 to 1
pub falling_room : (d : ℕ) (l h l' h' : ℤ) → SizedBy falling_size d l h → l ≤ℤ h → l' ≤ℤ h' → pos 0 ≤ℤ l' → h' ≤ℤ pos (2 ^ 56) → ProductsWithin ((2 ^ 62 - 1) * 2 ^ 56) l h l' h'
falling_room d l h l' h' z order order' low high =
    products_within falling_size.most (2 ^ 56) ((2 ^ 62 - 1) * 2 ^ 56) l h l' h' (lit≤ tt)
    (record { low = z.low; high = omega (arith, ints, z.high, order) }) (record { low = omega (arith, ints, z.low, order); high = z.high })
    (record { low = omega (arith, ints, low); high = omega (arith, ints, high, order') }) (record { low = omega (arith, ints, low, order'); high = high })

pub higher_room : (d : ℕ) (l h l' h' : ℤ) → SizedBy higher_size d l h → l ≤ℤ h → l' ≤ℤ h' → pos 0 ≤ℤ l' → h' ≤ℤ pos (2 ^ 56) → ProductsWithin ((2 ^ 62 - 1) * 2 ^ 56) l h l' h'
higher_room d l h l' h' z order order' low high =
    products_within higher_size.most (2 ^ 56) ((2 ^ 62 - 1) * 2 ^ 56) l h l' h' (lit≤ tt)
    (record { low = z.low; high = omega (arith, ints, z.high, order) }) (record { low = omega (arith, ints, z.low, order); high = z.high })
    (record { low = omega (arith, ints, low); high = omega (arith, ints, high, order') }) (record { low = omega (arith, ints, low, order'); high = high })

pub falling_sized : (d : ℕ) (l h l' h' a b : ℤ) → a ≡ floor_div (least_product l h l' h') (2 ^ 56) → b ≡ ceil_div (greatest_product l h l' h') (2 ^ 56) → l ≤ℤ h → l' ≤ℤ h'
    → SizedBy falling_size d l h → SizedBy u_size d l' h' → SizedBy over_tau_size d a b
falling_sized d l h l' h' a b lo hi order order' y z = rw (lo, hi) (Sized-product 56 _ _ _ _ _ _ d l h l' h' order order' y z)

pub higher_sized : (d : ℕ) (l h l' h' a b : ℤ) → a ≡ floor_div (least_product l h l' h') (2 ^ 56) → b ≡ ceil_div (greatest_product l h l' h') (2 ^ 56) → l ≤ℤ h → l' ≤ℤ h'
    → SizedBy higher_size d l h → SizedBy r_size d l' h' → SizedBy by_y_over_tau_size d a b
higher_sized d l h l' h' a b lo hi order order' y z = rw (lo, hi) (Sized-product 56 _ _ _ _ _ _ d l h l' h' order order' y z)
