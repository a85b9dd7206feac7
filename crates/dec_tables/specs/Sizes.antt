-- The sizes of the collapsed coefficients, and which terms fit their scales.
use Rattle.std.specs.Prelude.{ℕ, zero, suc, ◌+◌, ◌-◌, ◌*◌, ◌/◌, ◌^◌, ℤ, pos, negsuc, unsigned_abs, Bool, true, nat_le, nat_lt, ◌&&◌, if◌then◌else◌, List, [], ◌∷◌, map}
use Rattle.water_model.specs.Region1.{region1}
use Rattle.dec_tables.specs.declared.part.Part.{Part}
use Rattle.dec_tables.specs.declared.table.Term.{Term}
use Rattle.dec_tables.specs.Coefficients.{term_of}
use Rattle.dec_tables.specs.Parts.{scale_of, width_of, stands_at, factor_of, shift_of}
use Rattle.enclosure_sizes.specs.Size.{Size, parts, power_size, product_size, down_size}

-- x / 8 lies below 57 / 64, and its enclosure is at most 4 wide
abbrev pub x_size : Size
x_size = record { most = 57 * 2 ^ 50; base = 4 * parts; per = 0 }

-- the power of a number from 0 to 1, and that of x / 8
abbrev pub unit_power_size : ℕ → Size → Size
unit_power_size zero s = record { most = 2 ^ 56; base = 0; per = 0 }
unit_power_size (suc n) s = power_size (2 ^ 56) (suc n) s

abbrev pub x_power_size : ℕ → Size
x_power_size n = unit_power_size n x_size

-- the scale at which a term is multiplied: high powers of x carry 2^10
abbrev pub fine_scale : ℕ → ℕ
fine_scale a = if nat_lt a 20 then 56 else 46

-- the greatest mantissa of |m| * 10^e at the scale 2^k
abbrev pub decimal_most : ℕ → ℤ → ℕ → ℕ
decimal_most m (pos e) k = m * 10 ^ e * 2 ^ k
decimal_most m (negsuc e) k = m * 2 ^ k / 10 ^ suc e + 1

-- |m| * 10^e fits the scale 2^k
abbrev pub decimal_fits : ℕ → ℤ → ℕ → Bool
decimal_fits m (pos e) k = nat_le (m * 10 ^ e * 2 ^ k) (2 ^ 61)
decimal_fits m (negsuc e) k = nat_le (m * 2 ^ k) (2 ^ 61 * 10 ^ suc e)

-- the coefficient of t times 2^up at the scale 2^f
abbrev pub enclosed_size : ℕ → ℕ → Term → Size
enclosed_size f up t = record { most = decimal_most (unsigned_abs t.mantissa) t.exp10 (f + up) + 4; base = 4 * parts; per = 0 }

-- that times a power of x, taken at the scale 2^f and brought to 2^s
abbrev pub scaled_size : (f s up : ℕ) → Term → Size
scaled_size f s up t = down_size (2 ^ (f - s)) (product_size (2 ^ f) (enclosed_size f up t) (x_power_size t.i))

unfoldable pub scaled_fits : (f s up : ℕ) → Term → Bool
scaled_fits f s up t =
    nat_le s f && nat_le up 96 && nat_le t.i 64 && decimal_fits (unsigned_abs t.mantissa) t.exp10 (f + up)
    && nat_le ((enclosed_size f up t).most * (x_power_size t.i).most) ((2 ^ 62 - 1) * 2 ^ f)

-- the power of two beside the coefficient: 8^a of the power of x, and 2^shift, without what the scale takes
abbrev pub raise_of : ℕ → ℕ → ℕ
raise_of shift a = 3 * a + shift + fine_scale a - 56

-- the coefficient of t times x^I times 2^shift at the scale 2^s
abbrev pub factor_size : (s shift : ℕ) → Term → Size
factor_size s shift t = scaled_size (fine_scale t.i) s (raise_of shift t.i) t

unfoldable pub factor_fits : (s shift : ℕ) → Term → Bool
factor_fits s shift t = nat_le shift 128 && nat_le t.i 64 && scaled_fits (fine_scale t.i) s (raise_of shift t.i) t

-- what a term adds to coefficient k
abbrev pub share_size : Part → ℕ → Term → Size
share_size part k t =
    if stands_at part k t.j then factor_size (scale_of part) (shift_of part k) (factor_of part t)
    else record { most = 0; base = 0; per = 0 }

unfoldable pub share_fits : Part → ℕ → Term → Bool
share_fits part k t =
    if stands_at part k t.j then nat_le (unsigned_abs t.mantissa) (2 ^ 53) && factor_fits (scale_of part) (shift_of part k) (factor_of part t)
    else true

unfoldable pub total : (Term → ℕ) → List Term → ℕ
total f [] = 0
total f (t ∷ ts) = f t + total f ts

-- the size of the sum over terms, each of the size f t
unfoldable pub total_size : (Term → Size) → List Term → Size
total_size f ts = record {
  most = total (λ t. (f t).most) ts;
  base = total (λ t. (f t).base) ts;
  per = total (λ t. (f t).per) ts;
}

-- the greatest magnitude of coefficient k, and its greatest width
abbrev pub coefficient_size : Part → ℕ → Size
coefficient_size part k = record { most = (total_size (share_size part k) (map term_of region1)).most; base = width_of part k * parts; per = 0 }
