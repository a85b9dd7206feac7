-- The lesser quotient rounded down, and the greater one rounded up.
use Rattle.std.proofs.Common.{◌≡◌, ℕ, ◌*◌, ◌^◌, ◌<◌, ◌≤◌, ap, ◌∙◌, arith, unsigned_abs, ℤ, pos, negsuc, neg_ℤ, ◌*ℤ◌, ◌≤ℤ◌}
use Rattle.std.proofs.lemmas.Int.{ints, clamps}
use Rattle.std.proofs.Math.Nat.{mul-le-mul_right}
use Rattle.std.specs.Int.{int_min, int_max}
use mir.Syntax.{w128}
use mir.Val.{SFits}
use lib.Signed.{◌<ℤ◌}
use lib.IntN.{◌-ℤ◌, +ℤ_idl}
use Rattle.number_model.specs.Rounding.{IsWithin, floor_div, ceil_div}
use Rattle.number_model.proofs.Ints.{≤ℤ_trans, mul-le_pos}
use Rattle.number_model.proofs.Roundings.{floor_at_least, ceil_at_most, floor-le_ceil, floor_div-larger, floor_div-larger_negative}
use Rattle.heat_coeff.specs.Quotients.{least_floor, greatest_ceil}

-- by the sign of the numerator
pub least_floor-negative : (n : ℤ) (m k : ℕ) → 0 < m → m ≤ k → n <ℤ pos 0 → floor_div n m ≡ least_floor n m k
least_floor-negative n m k h p q = let l : floor_div n m ≤ℤ floor_div n k = floor_div-larger_negative n m k h p q in omega (arith, ints, clamps, l)

pub least_floor-nonnegative : (n : ℤ) (m k : ℕ) → 0 < m → m ≤ k → pos 0 ≤ℤ n → floor_div n k ≡ least_floor n m k
least_floor-nonnegative n m k h p q = let l : floor_div n k ≤ℤ floor_div n m = floor_div-larger n m k h p q in omega (arith, ints, clamps, l)

greatest_of_neg : (a b : ℤ) → neg_ℤ (int_min a b) ≡ int_max (neg_ℤ a) (neg_ℤ b)
greatest_of_neg a b = omega (arith, ints, clamps)

pub least_floor-neg : (n : ℤ) (m k : ℕ) → neg_ℤ (least_floor (pos 0 -ℤ n) m k) ≡ greatest_ceil n m k
least_floor-neg n m k = ap (λ z. neg_ℤ (least_floor z m k)) (+ℤ_idl (neg_ℤ n)) ∙ greatest_of_neg (floor_div (neg_ℤ n) m) (floor_div (neg_ℤ n) k)

-- at each of the two divisors
pub least_floor-below : (n : ℤ) (m k : ℕ) → (least_floor n m k ≤ℤ floor_div n m) × (least_floor n m k ≤ℤ floor_div n k)
least_floor-below n m k = omega (arith, ints, clamps)

pub greatest_ceil-above : (n : ℤ) (m k : ℕ) → (ceil_div n m ≤ℤ greatest_ceil n m k) × (ceil_div n k ≤ℤ greatest_ceil n m k)
greatest_ceil-above n m k = omega (arith, ints, clamps)

pub ends_ordered : (n l : ℤ) (m k : ℕ) → 0 < m → n ≤ℤ l → least_floor n m k ≤ℤ greatest_ceil l m k
ends_ordered n l m k h p = ≤ℤ_trans (least_floor-below n m k).0 (≤ℤ_trans (floor-le_ceil n l m h p) (greatest_ceil-above l m k).0)

-- the size of the ends
pub least_floor-least : (b : ℕ) (n : ℤ) (m k : ℕ) → 0 < m → m ≤ k → neg_ℤ (pos (b * m)) ≤ℤ n → neg_ℤ (pos b) ≤ℤ least_floor n m k
least_floor-least b n m k h p q =
    let further : b * m ≤ b * k = omega (arith, mul-le-mul_right b p) in
    let at_m : neg_ℤ (pos b) ≤ℤ floor_div n m = floor_at_least b m n h q in
    let at_k : neg_ℤ (pos b) ≤ℤ floor_div n k = floor_at_least b k n (omega arith) (omega (arith, ints)) in
    omega (arith, ints, clamps, at_m, at_k)

pub greatest_ceil-most : (b : ℕ) (n : ℤ) (m k : ℕ) → 0 < m → m ≤ k → n ≤ℤ pos (b * m) → greatest_ceil n m k ≤ℤ pos b
greatest_ceil-most b n m k h p q =
    let further : b * m ≤ b * k = omega (arith, mul-le-mul_right b p) in
    let at_m : ceil_div n m ≤ℤ pos b = ceil_at_most b m n h q in
    let at_k : ceil_div n k ≤ℤ pos b = ceil_at_most b k n (omega arith) (omega (arith, ints)) in
    omega (arith, ints, clamps, at_m, at_k)

-- ---- the numerators and divisors of the code
-- the divisors v m and w m
pub record AreDivisors (v w : ℤ) (m : ℕ) : Type 0 where
  pub above : pos 1 ≤ℤ (v *ℤ pos m)
  pub ordered : (v *ℤ pos m) ≤ℤ (w *ℤ pos m)
  pub low_fits : SFits w128 (v *ℤ pos m)
  pub high_fits : SFits w128 (w *ℤ pos m)

pub AreDivisors-products : (v w : ℤ) (m : ℕ) → pos 1 ≤ℤ v → v ≤ℤ w → w ≤ℤ pos (2 ^ 62) → 1 ≤ m → m < 2 ^ 32 → AreDivisors v w m
AreDivisors-products v w m positive rising high one small =
    let scaled : (pos 1 *ℤ pos m) ≤ℤ (v *ℤ pos m) = mul-le_pos m positive in
    let above : pos 1 ≤ℤ (v *ℤ pos m) = omega (arith, ints, scaled) in
    let ordered : (v *ℤ pos m) ≤ℤ (w *ℤ pos m) = mul-le_pos m rising in
    let most : (w *ℤ pos m) ≤ℤ (pos (2 ^ 62) *ℤ pos m) = mul-le_pos m high in
    record {
      above = above;
      ordered = ordered;
      low_fits = omega (arith, ints, above, ordered, most);
      high_fits = omega (arith, ints, above, ordered, most);
    }

pub unsigned_abs-product : (v : ℤ) (m : ℕ) → pos 1 ≤ℤ v → unsigned_abs (v *ℤ pos m) ≡ unsigned_abs v * m
unsigned_abs-product (pos a) m h = omega (arith, ints)
unsigned_abs-product (negsuc a) m h = absurd (omega (arith, ints, h))

-- the numerator z k
pub record IsNumerator (z : ℤ) (k : ℕ) : Type 0 where
  pub within : IsWithin (2 ^ 120) (z *ℤ pos k)
  pub fits : SFits w128 (z *ℤ pos k)

pub IsNumerator-product : (z : ℤ) (k : ℕ) → k ≤ 256000000000000 → neg_ℤ (pos (1200 * 2 ^ 48)) ≤ℤ z → z ≤ℤ pos (1200 * 2 ^ 48) → IsNumerator z k
IsNumerator-product z k h p q =
    let low : (neg_ℤ (pos (1200 * 2 ^ 48)) *ℤ pos k) ≤ℤ (z *ℤ pos k) = mul-le_pos k p in
    let high : (z *ℤ pos k) ≤ℤ (pos (1200 * 2 ^ 48) *ℤ pos k) = mul-le_pos k q in
    record {
      within = record { low = omega (arith, ints, low); high = omega (arith, ints, high) };
      fits = omega (arith, ints, low, high);
    }
