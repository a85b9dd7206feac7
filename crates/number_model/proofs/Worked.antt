-- Fractions, quotients and enclosures, worked by hand.
use Rattle.std.proofs.Common.{◌≡◌, lit<, pos, negsuc, refl}
use lib.Signed.{le_z_yes, lt_z_yes}
use Rattle.number_model.specs.Fraction.{Fraction, IsRatio, ◌≤ℚ◌, ◌<ℚ◌, ◌≈◌, ◌+ℚ◌, ◌-ℚ◌, ◌*ℚ◌, ◌/ℚ◌, neg_ℚ, part, power, times_ℚ, whole}
use Rattle.number_model.specs.Rounding.{floor_div, ceil_div}
use Rattle.number_model.specs.Enclosure.{Holds, SpanHolds}

abbrev half : Fraction
half = part 2 (lit< tt)

abbrev third : Fraction
third = part 3 (lit< tt)

-- ---- 1/2 and 1/3

sum_of_both : (half +ℚ third) ≈ (whole 5 /ℚ whole 6)
sum_of_both = record { crossed = refl }

difference : (third -ℚ half) ≈ neg_ℚ (part 6 (lit< tt))
difference = record { crossed = refl }

product : (half *ℚ third) ≈ part 6 (lit< tt)
product = record { crossed = refl }

quotient : (half /ℚ neg_ℚ third) ≈ neg_ℚ (whole 3 /ℚ whole 2)
quotient = record { crossed = refl }

-- what is divided by 0 is 0
by_zero : (half /ℚ whole 0) ≈ whole 0
by_zero = record { crossed = refl }

two_thirds : times_ℚ half 4 3 (lit< tt) ≈ (whole 2 /ℚ whole 3)
two_thirds = record { crossed = refl }

cube : power (neg_ℚ half) 3 ≈ neg_ℚ (part 8 (lit< tt))
unfolding power
cube = record { crossed = refl }

power_0 : power (whole 0) 0 ≈ whole 1
unfolding power
power_0 = record { crossed = refl }

-- 6/9 is the number 2/3
ratio : IsRatio (pos 2) (pos 3) (record { num = pos 6; den = 9; positive = lit< tt })
ratio = record { crossed = refl }

-- ---- their order

third_below_half : third <ℚ half
third_below_half = record { crossed = lt_z_yes tt }

half_at_most_third : half ≤ℚ third → ⊥
half_at_most_third le = le.crossed.le

below_0 : neg_ℚ half <ℚ neg_ℚ third
below_0 = record { crossed = lt_z_yes tt }

same_at_most : half ≤ℚ (whole 2 /ℚ whole 4)
same_at_most = record { crossed = le_z_yes tt }

-- ---- quotients of 7 and -7 by 2, rounded down and up

down : (floor_div (pos 7) 2 ≡ pos 3) × (floor_div (negsuc 6) 2 ≡ negsuc 3)
down = (refl, refl)

up : (ceil_div (pos 7) 2 ≡ pos 4) × (ceil_div (negsuc 6) 2 ≡ negsuc 2)
up = (refl, refl)

exact : (floor_div (negsuc 7) 2 ≡ negsuc 3) × (ceil_div (negsuc 7) 2 ≡ negsuc 3)
exact = (refl, refl)

-- ---- in quarters, 1/3 lies from 1 to 2, and not from 2 on

between : Holds 2 (pos 1) (pos 2) third
between = record { low = record { crossed = le_z_yes tt }; high = record { crossed = le_z_yes tt } }

beyond : Holds 2 (pos 2) (pos 3) third → ⊥
beyond holds = holds.low.crossed.le

-- and from 333,333,333 to 333,333,334 nanodegrees
in_span : SpanHolds 333333333 333333334 third
in_span = record { low = record { crossed = le_z_yes tt }; high = record { crossed = le_z_yes tt } }

beyond_span : SpanHolds 333333334 333333335 third → ⊥
beyond_span holds = holds.low.crossed.le
