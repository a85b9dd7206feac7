-- The parts of the collapsed tables.
use Rattle.std.specs.Prelude.{ℕ, zero, suc, ◌-◌, ◌*◌, ◌^◌, ℤ, pos, negsuc, neg_ℤ, ◌-ℤ◌, ◌*ℤ◌, Bool, false, nat_lt, if◌then◌else◌}
use Rattle.std.specs.Ordering.{int_eq}
use Rattle.number_model.specs.Fraction.{Fraction, ◌*ℚ◌, power, whole}
use Rattle.table_model.specs.Tables.{volume_up, volume_down, heat_up, heat_down}
use Rattle.dec_tables.specs.declared.part.Part.{Part}
use Rattle.dec_tables.specs.declared.part.Part.TheVariants.{VolumeUp, VolumeDown, HeatUp, HeatDown}
use Rattle.dec_tables.specs.declared.table.Term.{Term}
use Rattle.dec_tables.specs.Coefficients.{coefficient_of}

-- how many coefficients a part has, and their scale
abbrev pub count_of : Part → ℕ
count_of VolumeUp = 18
count_of VolumeDown = 42
count_of HeatUp = 17
count_of HeatDown = 43

abbrev pub scale_of : Part → ℕ
scale_of VolumeUp = 48
scale_of VolumeDown = 40
scale_of HeatUp = 48
scale_of HeatDown = 40

-- coefficient k at x
abbrev pub part_coefficient : Part → Fraction → ℕ → Fraction
part_coefficient VolumeUp = volume_up
part_coefficient VolumeDown = volume_down
part_coefficient HeatUp = heat_up
part_coefficient HeatDown = heat_down

-- the greatest width of coefficient k
abbrev pub width_of : Part → ℕ → ℕ
width_of VolumeUp k = 20
width_of VolumeDown k = if nat_lt k 28 then 8 else 2 ^ 21
width_of HeatUp k = 40
width_of HeatDown k = if nat_lt k 28 then 16 else 2 ^ 21

-- whether a term with the exponent j stands in coefficient k
abbrev pub stands_at : Part → ℕ → ℤ → Bool
stands_at VolumeUp k j = int_eq j (pos k)
stands_at VolumeDown zero j = false
stands_at VolumeDown (suc n) j = int_eq j (negsuc n)
stands_at HeatUp k j = int_eq (j -ℤ pos 1) (pos k)
stands_at HeatDown zero j = false
stands_at HeatDown (suc n) j = int_eq (j -ℤ pos 1) (negsuc n)

-- -n * I * x^(I - 1), as a coefficient and the power of x
abbrev pub pressure_factor : Term → Term
pressure_factor t = record { i = t.i - 1; j = t.j; mantissa = neg_ℤ (pos t.i *ℤ t.mantissa); exp10 = t.exp10 }

-- n * J * x^I
abbrev pub temperature_factor : Term → Term
temperature_factor t = record { i = t.i; j = t.j; mantissa = t.j *ℤ t.mantissa; exp10 = t.exp10 }

abbrev pub factor_of : Part → Term → Term
factor_of VolumeUp = pressure_factor
factor_of VolumeDown = pressure_factor
factor_of HeatUp = temperature_factor
factor_of HeatDown = temperature_factor

-- the e of the factor 2^e that coefficient k has: 4^k where the variable is y / 4
abbrev pub shift_of : Part → ℕ → ℕ
shift_of VolumeUp k = 2 * k
shift_of VolumeDown k = 0
shift_of HeatUp k = 2 * k
shift_of HeatDown k = 0

-- what a term adds to coefficient k at x
abbrev pub share_of : Part → Fraction → ℕ → Term → Fraction
share_of part x k t =
    if stands_at part k t.j
    then coefficient_of (factor_of part t) *ℚ power x (factor_of part t).i *ℚ whole (2 ^ shift_of part k)
    else whole 0
