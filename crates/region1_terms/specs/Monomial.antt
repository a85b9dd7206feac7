-- A term over a span: which terms are evaluated, what the answer holds, and its size.
use Rattle.std.specs.Prelude.{ℕ, suc, ◌+◌, ◌-◌, ◌*◌, ◌^◌, ℤ, pos, negsuc, unsigned_abs, Bool, nat_le, nat_lt, ◌&&◌, if◌then◌else◌}
use Rattle.number_model.specs.Fraction.{Fraction}
use Rattle.number_model.specs.Enclosure.{Holds, SpanHolds}
use Rattle.water_model.specs.Water.{x_of, y_of}
use Rattle.dec_tables.specs.declared.table.Term.{Term}
use Rattle.dec_tables.specs.Sizes.{decimal_most, decimal_fits, unit_power_size}
use Rattle.region1_algebra.specs.Terms.{value_of}
use Rattle.enclosure_sizes.specs.Size.{Size, SizedBy, parts, power_size, product_size, up_size}
use Rattle.region1_terms.specs.Variables.{x_size, y_size, z_size}

-- the power of y that stands in for y^j is y^j * 2^56 / 2^e
abbrev pub y_shift : ℤ → ℕ
y_shift (pos n) = 56 + 2 * n
y_shift (negsuc n) = if nat_lt n 28 then 56 else 32

-- the coefficient of t fits the scale 2^56 once the powers of two of its powers are put on it
unfoldable pub fits : Term → Bool
fits t =
    nat_le t.i 64 && nat_le (unsigned_abs t.j) 48 && nat_le 56 (3 * t.i + y_shift t.j) && nat_le (3 * t.i + y_shift t.j) 152
    && decimal_fits (unsigned_abs t.mantissa) t.exp10 (3 * t.i + y_shift t.j)

-- the size of the enclosed coefficient
abbrev pub coefficient_size : Term → Size
coefficient_size t = record {
  most = decimal_most (unsigned_abs t.mantissa) t.exp10 (3 * t.i + y_shift t.j) + 4;
  base = 4 * parts;
  per = 0;
}

-- the size of a power of y
abbrev pub y_power_size : ℤ → Size
y_power_size (pos n) = unit_power_size n y_size
y_power_size (negsuc n) = if nat_lt n 28 then unit_power_size (suc n) z_size else up_size (2 ^ 24) (power_size (2 ^ 56) (suc n) z_size)

unfoldable pub monomial_size : Term → Size
monomial_size t = product_size (2 ^ 56) (coefficient_size t) (product_size (2 ^ 56) (unit_power_size t.i x_size) (y_power_size t.j))

-- at p kPa and each temperature from lo to hi nanodegrees, n * x^I * y^J lies between el and eh
pub record Evaluates (p lo hi : ℕ) (t : Term) (el eh : ℤ) : Type 0 where
  pub holds : (c : Fraction) → SpanHolds lo hi c → Holds 56 el eh (value_of (x_of p) (y_of c) t)
  pub sized : SizedBy (monomial_size t) (hi - lo) el eh
