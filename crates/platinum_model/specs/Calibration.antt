-- The constants that a calibrated sensor may have.
use Rattle.std.specs.Prelude.{ℕ, ◌*◌, Bool, ◌&&◌, ◌||◌, nat_le}
use Rattle.std.specs.Int.{is_in_range}
use Rattle.platinum_model.specs.Element.{Element}

-- R0 is within 0.5 % of the sensor's nominal one
abbrev pub fits_r0 : (nominal_uohm r0_uohm : ℕ) → Bool
fits_r0 nominal_uohm r0_uohm = nat_le (995 * nominal_uohm) (1000 * r0_uohm) && nat_le (1000 * r0_uohm) (1005 * nominal_uohm)

-- A and B are near those of the standard
abbrev pub fits_a : (a_e10 : ℕ) → Bool
fits_a = is_in_range 38800000 39400000

abbrev pub fits_b : (b_e10 : ℕ) → Bool
fits_b = is_in_range 5500 6000

abbrev pub fits : Element → (nominal_uohm : ℕ) → Bool
fits e nominal_uohm = fits_r0 nominal_uohm e.r0_uohm && fits_a e.a_e10 && fits_b e.b_e10

-- they fit a Pt100, a Pt500 or a Pt1000
abbrev pub fits_a_sensor : Element → Bool
fits_a_sensor e = fits e 100000000 || fits e 500000000 || fits e 1000000000
