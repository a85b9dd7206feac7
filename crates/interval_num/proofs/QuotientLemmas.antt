-- The quotients of ends.
use Rattle.std.proofs.Common.{◌≡◌, ℕ, ◌-◌, ◌*◌, ◌^◌, ◌<◌, ◌≤◌, ap, ◌∙◌, refl, arith, unsigned_abs, ℤ, pos, negsuc, neg_ℤ, ◌*ℤ◌, ◌≤ℤ◌}
use Rattle.std.proofs.lemmas.Int.{ints, clamps}
use Rattle.std.proofs.lemmas.Nat.{pow_pos}
use Rattle.std.specs.Int.{int_min, int_max}
use Rattle.std.proofs.Math.Nat.{mul-le-mul_left}
use lib.Signed.{◌<ℤ◌, ≤ℤ_refl}
use lib.IntN.{◌-ℤ◌, +ℤ_idl}
use Rattle.number_model.specs.Rounding.{IsWithin, floor_div, ceil_div}
use Rattle.number_model.proofs.Ints.{neg-*ℤ, as_diff, same_diff, ring, ≤ℤ_trans, mul-le_pos, recast}
use Rattle.number_model.proofs.Roundings.{floor_by, ceil_by, floor_at_least, ceil_at_most, floor-le_ceil, floor_div-monotone, ceil_div-monotone, floor_div-larger, floor_div-larger_negative}
use Rattle.number_model.proofs.Enclosures.{EnclosesQuotients}
use Rattle.interval_num.specs.Ends.{QuotientsWithin, quotient_floor, quotient_ceil, least_quotient, greatest_quotient}
use Rattle.interval_num.proofs.EndsLemmas.{AreEnds}

pub unsigned_abs-positive : (b : ℤ) → pos 1 ≤ℤ b → 0 < unsigned_abs b
unsigned_abs-positive b h = omega (arith, ints)

pub unsigned_abs-ordered : (a b : ℤ) → pos 1 ≤ℤ a → a ≤ℤ b → unsigned_abs a ≤ unsigned_abs b
unsigned_abs-ordered a b h k = omega (arith, ints)

-- a quotient is no larger than its numerator
pub IsWithin-floor : (n b : ℕ) (z : ℤ) → 0 < b → IsWithin n z → IsWithin n (floor_div z b)
IsWithin-floor n b z h w =
    let low : neg_ℤ (pos (n * b)) ≤ℤ z = omega (arith, ints, w.low, mul-le-mul_left n h) in
    let high : z ≤ℤ pos (n * b) = omega (arith, ints, w.high, mul-le-mul_left n h) in
    record {
      low = floor_at_least n b z h low;
      high = ≤ℤ_trans (floor-le_ceil z z b h (≤ℤ_refl z)) (ceil_at_most n b z h high);
    }

pub quotient_floor-neg : (s : ℕ) (a b : ℤ) → neg_ℤ (quotient_floor s (pos 0 -ℤ a) b) ≡ quotient_ceil s a b
quotient_floor-neg s a b =
    ap (λ z. neg_ℤ (floor_div z (unsigned_abs b))) (ap (λ z. z *ℤ pos (2 ^ s)) (+ℤ_idl (neg_ℤ a)) ∙ neg-*ℤ a (pos (2 ^ s)))

pub quotient_floor-least_neg : (s : ℕ) (a m k : ℤ) → neg_ℤ (int_min (quotient_floor s (pos 0 -ℤ a) m) (quotient_floor s (pos 0 -ℤ a) k)) ≡ int_max (quotient_ceil s a m) (quotient_ceil s a k)
quotient_floor-least_neg s a m k = omega (arith, ints, clamps, quotient_floor-neg s a m, quotient_floor-neg s a k)

negative_multiple : (a : ℤ) (n : ℕ) → 0 < n → a <ℤ pos 0 → (a *ℤ pos n) <ℤ pos 0
negative_multiple (pos a) n h p = absurd (omega (arith, ints))
negative_multiple (negsuc a) n h p = omega (arith, ints)

-- by the sign of the numerator
pub quotient_floor-least_negative : (s : ℕ) (a m k : ℤ) → pos 1 ≤ℤ m → m ≤ℤ k → a <ℤ pos 0 → quotient_floor s a m ≡ int_min (quotient_floor s a m) (quotient_floor s a k)
quotient_floor-least_negative s a m k h p q =
    let z : (a *ℤ pos (2 ^ s)) <ℤ pos 0 = negative_multiple a (2 ^ s) (pow_pos s) q in
    let l : quotient_floor s a m ≤ℤ quotient_floor s a k = floor_div-larger_negative _ _ _ (unsigned_abs-positive m h) (unsigned_abs-ordered m k h p) z in
    omega (arith, ints, clamps, l)

pub quotient_floor-least_nonnegative : (s : ℕ) (a m k : ℤ) → pos 1 ≤ℤ m → m ≤ℤ k → pos 0 ≤ℤ a → quotient_floor s a k ≡ int_min (quotient_floor s a m) (quotient_floor s a k)
quotient_floor-least_nonnegative s a m k h p q =
    let z : pos 0 ≤ℤ (a *ℤ pos (2 ^ s)) = let t : (pos 0 *ℤ pos (2 ^ s)) ≤ℤ (a *ℤ pos (2 ^ s)) = mul-le_pos (2 ^ s) q in omega (arith, ints, t) in
    let l : quotient_floor s a k ≤ℤ quotient_floor s a m = floor_div-larger _ _ _ (unsigned_abs-positive m h) (unsigned_abs-ordered m k h p) z in
    omega (arith, ints, clamps, l)

-- the lower numerator has the least quotients, the upper one the greatest
pub least_quotient_is : (s : ℕ) (l h m k : ℤ) → l ≤ℤ h → pos 1 ≤ℤ m → m ≤ℤ k → int_min (quotient_floor s l m) (quotient_floor s l k) ≡ least_quotient s l h m k
least_quotient_is s l h m k p above q =
    let scaled : (l *ℤ pos (2 ^ s)) ≤ℤ (h *ℤ pos (2 ^ s)) = mul-le_pos (2 ^ s) p in
    let at_m : quotient_floor s l m ≤ℤ quotient_floor s h m = floor_div-monotone _ _ _ (unsigned_abs-positive m above) scaled in
    let at_k : quotient_floor s l k ≤ℤ quotient_floor s h k = floor_div-monotone _ _ _ (unsigned_abs-positive k (≤ℤ_trans above q)) scaled in
    omega (arith, ints, clamps, at_m, at_k)

pub greatest_quotient_is : (s : ℕ) (l h m k : ℤ) → l ≤ℤ h → pos 1 ≤ℤ m → m ≤ℤ k → int_max (quotient_ceil s h m) (quotient_ceil s h k) ≡ greatest_quotient s l h m k
greatest_quotient_is s l h m k p above q =
    let scaled : (l *ℤ pos (2 ^ s)) ≤ℤ (h *ℤ pos (2 ^ s)) = mul-le_pos (2 ^ s) p in
    let at_m : quotient_ceil s l m ≤ℤ quotient_ceil s h m = ceil_div-monotone _ _ _ (unsigned_abs-positive m above) scaled in
    let at_k : quotient_ceil s l k ≤ℤ quotient_ceil s h k = ceil_div-monotone _ _ _ (unsigned_abs-positive k (≤ℤ_trans above q)) scaled in
    omega (arith, ints, clamps, at_m, at_k)

least_quotient_low : (s : ℕ) (l m k : ℤ) → (int_min (quotient_floor s l m) (quotient_floor s l k) ≤ℤ quotient_floor s l m) × (int_min (quotient_floor s l m) (quotient_floor s l k) ≤ℤ quotient_floor s l k)
least_quotient_low s l m k = omega (arith, ints, clamps)

greatest_quotient_high : (s : ℕ) (h m k : ℤ) → (quotient_ceil s h m ≤ℤ int_max (quotient_ceil s h m) (quotient_ceil s h k)) × (quotient_ceil s h k ≤ℤ int_max (quotient_ceil s h m) (quotient_ceil s h k))
greatest_quotient_high s h m k = omega (arith, ints, clamps)

commuted : (m : ℕ) (a : ℤ) → pos m *ℤ a ≡ a *ℤ pos m
commuted m a = rw (as_diff a) (simp ring (same_diff _ _ _ _ (omega arith)))

below_by : (a m z : ℤ) → pos 1 ≤ℤ m → a ≤ℤ floor_div z (unsigned_abs m) → (m *ℤ a) ≤ℤ z
below_by a (pos m) z h p = recast (≤ℤ_trans (mul-le_pos m p) (floor_by z z m (omega (arith, ints)) (≤ℤ_refl z))) (commuted m a) refl
below_by a (negsuc m) z h p = absurd (omega (arith, ints, h))

above_by : (b m z : ℤ) → pos 1 ≤ℤ m → ceil_div z (unsigned_abs m) ≤ℤ b → z ≤ℤ (m *ℤ b)
above_by b (pos m) z h p = recast (≤ℤ_trans (ceil_by z z m (omega (arith, ints)) (≤ℤ_refl z)) (mul-le_pos m p)) refl (commuted m b)
above_by b (negsuc m) z h p = absurd (omega (arith, ints, h))

pub EnclosesQuotients-ratios : (s : ℕ) (l h m k : ℤ) → pos 1 ≤ℤ m → m ≤ℤ k → EnclosesQuotients (2 ^ s) (int_min (quotient_floor s l m) (quotient_floor s l k)) (int_max (quotient_ceil s h m) (quotient_ceil s h k)) l h m k
EnclosesQuotients-ratios s l h m k above p =
    let low = least_quotient_low s l m k in
    let high = greatest_quotient_high s h m k in
    record {
      low_low = below_by _ m _ above low.0;
      low_high = below_by _ k _ (≤ℤ_trans above p) low.1;
      high_low = above_by _ m _ above high.0;
      high_high = above_by _ k _ (≤ℤ_trans above p) high.1;
    }

-- the ends that `div` answers
pub AreEnds-quotients : (s : ℕ) (l h m k : ℤ) → l ≤ℤ h → pos 1 ≤ℤ m → m ≤ℤ k → QuotientsWithin (2 ^ 62 - 1) s l h m k → AreEnds (int_min (quotient_floor s l m) (quotient_floor s l k)) (int_max (quotient_ceil s h m) (quotient_ceil s h k))
AreEnds-quotients s l h m k p above q w =
    let n = 2 ^ 62 - 1 in
    let m_above = unsigned_abs-positive m above in
    let k_above = unsigned_abs-positive k (≤ℤ_trans above q) in
    let low_m : neg_ℤ (pos n) ≤ℤ quotient_floor s l m = floor_at_least n (unsigned_abs m) _ m_above w.lm.low in
    let low_k : neg_ℤ (pos n) ≤ℤ quotient_floor s l k = floor_at_least n (unsigned_abs k) _ k_above w.lk.low in
    let high_m : quotient_ceil s h m ≤ℤ pos n = ceil_at_most n (unsigned_abs m) _ m_above w.hm.high in
    let high_k : quotient_ceil s h k ≤ℤ pos n = ceil_at_most n (unsigned_abs k) _ k_above w.hk.high in
    let at_m : quotient_floor s l m ≤ℤ quotient_ceil s h m = floor-le_ceil _ _ (unsigned_abs m) m_above (mul-le_pos (2 ^ s) p) in
    record {
      ordered = omega (arith, ints, clamps, at_m);
      low = omega (arith, ints, clamps, low_m, low_k);
      high = omega (arith, ints, clamps, high_m, high_k);
    }

low_size : (s : ℕ) (a : ℤ) (b : ℕ) → unsigned_abs a * 2 ^ s ≤ b * 2 ^ 61 → neg_ℤ (pos (2 ^ 61 * b)) ≤ℤ (a *ℤ pos (2 ^ s))
low_size s (pos a) b h = omega (arith, ints)
low_size s (negsuc a) b h = omega (arith, ints)

high_size : (s : ℕ) (a : ℤ) (b : ℕ) → unsigned_abs a * 2 ^ s ≤ b * 2 ^ 61 → (a *ℤ pos (2 ^ s)) ≤ℤ pos (2 ^ 61 * b)
high_size s (pos a) b h = omega (arith, ints)
high_size s (negsuc a) b h = omega (arith, ints)

-- the ends that `of_ratio` answers
pub AreEnds-ratio : (s : ℕ) (a b : ℤ) → pos 1 ≤ℤ b → unsigned_abs a * 2 ^ s ≤ unsigned_abs b * 2 ^ 61 → AreEnds (floor_div (a *ℤ pos (2 ^ s)) (unsigned_abs b)) (ceil_div (a *ℤ pos (2 ^ s)) (unsigned_abs b))
AreEnds-ratio s a b h size =
    let one : 1 ≤ unsigned_abs b = omega (arith, ints) in
    let n = 2 ^ 61 in
    let low : neg_ℤ (pos n) ≤ℤ floor_div (a *ℤ pos (2 ^ s)) (unsigned_abs b) = floor_at_least n (unsigned_abs b) _ one (low_size s a (unsigned_abs b) size) in
    let high : ceil_div (a *ℤ pos (2 ^ s)) (unsigned_abs b) ≤ℤ pos n = ceil_at_most n (unsigned_abs b) _ one (high_size s a (unsigned_abs b) size) in
    record {
      ordered = floor-le_ceil (a *ℤ pos (2 ^ s)) (a *ℤ pos (2 ^ s)) (unsigned_abs b) one (≤ℤ_refl _);
      low = omega (arith, ints, low);
      high = omega (arith, ints, high);
    }
