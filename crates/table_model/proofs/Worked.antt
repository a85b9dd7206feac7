-- Coefficients at x = 7, computed elsewhere by exact fractions, and a polynomial by hand.
use Rattle.std.proofs.Common.{ℕ, ◌+◌, ◌<◌, lit<, ℤ, pos, refl}
use Rattle.number_model.specs.Fraction.{Fraction, ◌≈◌, power, whole}
use Rattle.water_model.specs.Decimal.{minus, decimal}
use Rattle.water_model.specs.Region1.{region1}
use Rattle.water_model.specs.Water.{sum_over}
use Rattle.table_model.specs.Tables.{eighth_of, volume_up, volume_down, heat_up, heat_down, polynomial}

abbrev ratio : ℤ → (n : ℕ) → 0 < n → Fraction
ratio z n above = record { num = z; den = n; positive = above }

eighth : eighth_of (whole 7) ≈ decimal (pos 875) (minus 3)
eighth = record { crossed = refl }

-- ---- of y^J in the volume: three rows with J = 0, one with J = 17, two with J = -2 of which one has I = 0, one with J = -41
volume_0 : volume_up (whole 7) 0 ≈ ratio (pos 11607993378722727) 312500000000000000 (lit< tt)
unfolding sum_over region1 power
volume_0 = record { crossed = refl }

volume_1 : volume_up (whole 7) 1 ≈ ratio (pos 10587228830358091) 125000000000000000 (lit< tt)
unfolding sum_over region1 power
volume_1 = record { crossed = refl }

volume_17 : volume_up (whole 7) 17 ≈ ratio (pos 32567358341322112) 186264514923095703125 (lit< tt)
unfolding sum_over region1 power
volume_17 = record { crossed = refl }

volume_below_2 : volume_down (whole 7) 2 ≈ ratio (pos 22353729453191143) 25000000000000000000 (lit< tt)
unfolding sum_over region1 power
volume_below_2 = record { crossed = refl }

volume_below_41 : volume_down (whole 7) 41 ≈ ratio (pos 7378924840997140962041681735865905766147) 15625000000000000000000000000000000000 (lit< tt)
unfolding sum_over region1 power
volume_below_41 = record { crossed = refl }

-- ---- of y^(J - 1) in the enthalpy
heat_0 : heat_up (whole 7) 0 ≈ ratio (pos 3234960304912044363) 1000000000000000000 (lit< tt)
unfolding sum_over region1 power
heat_0 = record { crossed = refl }

heat_2 : heat_up (whole 7) 2 ≈ ratio (pos 2357013323765540169) 312500000000000000 (lit< tt)
unfolding sum_over region1 power
heat_2 = record { crossed = refl }

heat_16 : heat_up (whole 7) 16 ≈ ratio (minus 484439455327166416) 186264514923095703125 (lit< tt)
unfolding sum_over region1 power
heat_16 = record { crossed = refl }

heat_below_2 : heat_down (whole 7) 2 ≈ ratio (pos 978412349220073) 1000000000000000 (lit< tt)
unfolding sum_over region1 power
heat_below_2 = record { crossed = refl }

heat_below_42 : heat_down (whole 7) 42 ≈ ratio (pos 2117751429366179456105962658193514954884189) 500000000000000000000000000000000000000 (lit< tt)
unfolding sum_over region1 power
heat_below_42 = record { crossed = refl }

-- the row with J = 0 has no place in the enthalpy
no_row : heat_down (whole 7) 1 ≈ whole 0
unfolding sum_over region1 power
no_row = record { crossed = refl }

-- 1 + 2 z + 3 z^2 at z = 1 / 2
square : polynomial (λ k. whole (k + 1)) 3 (decimal (pos 5) (minus 1)) ≈ decimal (pos 275) (minus 2)
unfolding polynomial power
square = record { crossed = refl }
