-- Quotients rounded down and up.
use Rattle.std.proofs.Common.{◌≡◌, ℕ, ◌+◌, ◌-◌, ◌*◌, ◌/◌, ◌^◌, ◌<◌, ◌≤◌, refl, sym, ap, ◌∙◌, arith, unsigned_abs, ℤ, pos, negsuc, neg_ℤ, ◌*ℤ◌, ◌≤ℤ◌}
use Rattle.std.proofs.lemmas.Int.{ints}
use Rattle.std.proofs.lemmas.Nat.{pow_pos, pow-add}
use Rattle.std.proofs.Math.Nat.{mul-pos, div-mul-le_self, mul-le-mul_left, div-lt_iff_lt-mul, le-div_iff_mul-le}
use Rattle.std.specs.Int.{int_div_euclid}
use lib.Signed.{◌<ℤ◌, shr_z, ≤ℤ_refl}
use Rattle.number_model.specs.Rounding.{IsWithin, floor_div, ceil_div}
use Rattle.number_model.proofs.Ints.{*ℤ_assoc, flip_le, neg-*ℤ, as_diff, same_diff, ring, ≤ℤ_trans, mul-le_pos, le_of_mul-le_pos, recast, antisym}

pub IsWithin-wider : (m n : ℕ) (z : ℤ) → m ≤ n → IsWithin m z → IsWithin n z
IsWithin-wider m n z h w = record { low = omega (arith, ints, w.low); high = omega (arith, ints, w.high) }

-- z / n, rounded down, is at most w, and so on for the other side
floor_at_most : (z : ℤ) (n : ℕ) → 0 < n → (shr_z z n *ℤ pos n) ≤ℤ z
floor_at_most (pos a) n h = omega (arith, ints)
floor_at_most (negsuc a) n h = omega (arith, ints)

pub floor_by : (z w : ℤ) (n : ℕ) → 0 < n → z ≤ℤ w → (floor_div z n *ℤ pos n) ≤ℤ w
floor_by z w n h k = ≤ℤ_trans (floor_at_most z n h) k

pub ceil_by : (z w : ℤ) (n : ℕ) → 0 < n → w ≤ℤ z → w ≤ℤ (ceil_div z n *ℤ pos n)
ceil_by z w n h k =
    let f : neg_ℤ (neg_ℤ z) ≤ℤ neg_ℤ (floor_div (neg_ℤ z) n *ℤ pos n) = flip_le (floor_at_most (neg_ℤ z) n h) in
    let g : z ≤ℤ neg_ℤ (floor_div (neg_ℤ z) n *ℤ pos n) = omega (arith, ints) in
    recast (≤ℤ_trans k g) refl (neg-*ℤ (floor_div (neg_ℤ z) n) (pos n))

-- what lies below z / n lies below it rounded down
pub le-floor_div : (q z : ℤ) (n : ℕ) → 0 < n → (q *ℤ pos n) ≤ℤ z → q ≤ℤ floor_div z n
le-floor_div (pos k) (pos a) n h p = let at : k ≤ a / n = (le-div_iff_mul-le h).1 (omega (arith, ints)) in omega (arith, ints)
le-floor_div (pos k) (negsuc a) n h p = absurd (omega (arith, ints))
le-floor_div (negsuc k) (pos a) n h p = omega (arith, ints)
le-floor_div (negsuc k) (negsuc a) n h p = let at : a / n < k + 1 = (div-lt_iff_lt-mul h).1 (omega (arith, ints)) in omega (arith, ints)

-- what lies above z / n lies above it rounded up
pub ceil_div-le : (q z : ℤ) (n : ℕ) → 0 < n → z ≤ℤ (q *ℤ pos n) → ceil_div z n ≤ℤ q
ceil_div-le q z n h p =
    let f : neg_ℤ q ≤ℤ floor_div (neg_ℤ z) n = le-floor_div (neg_ℤ q) (neg_ℤ z) n h (recast (flip_le p) (neg-*ℤ q (pos n)) refl) in
    omega (arith, ints)

pub floor_div-monotone : (z w : ℤ) (n : ℕ) → 0 < n → z ≤ℤ w → floor_div z n ≤ℤ floor_div w n
floor_div-monotone z w n h p = le-floor_div _ w n h (floor_by z w n h p)

pub ceil_div-monotone : (z w : ℤ) (n : ℕ) → 0 < n → z ≤ℤ w → ceil_div z n ≤ℤ ceil_div w n
ceil_div-monotone z w n h p = ceil_div-le _ z n h (ceil_by w z n h p)

pub floor-le_ceil : (z w : ℤ) (n : ℕ) → 0 < n → z ≤ℤ w → floor_div z n ≤ℤ ceil_div w n
floor-le_ceil z w n above h = le_of_mul-le_pos n above (≤ℤ_trans (floor_by z w n above h) (ceil_by w w n above (≤ℤ_refl w)))

pub floor_at_least : (n s : ℕ) (z : ℤ) → 0 < s → neg_ℤ (pos (n * s)) ≤ℤ z → neg_ℤ (pos n) ≤ℤ floor_div z s
floor_at_least n s (pos a) h k = omega (arith, ints)
floor_at_least n s (negsuc a) h k =
    let below : a / s < n = (div-lt_iff_lt-mul h).1 (omega (arith, ints)) in omega (arith, ints)

pub ceil_at_most : (n s : ℕ) (z : ℤ) → 0 < s → z ≤ℤ pos (n * s) → ceil_div z s ≤ℤ pos n
ceil_at_most n s z h k = let f : neg_ℤ (pos n) ≤ℤ floor_div (neg_ℤ z) s = floor_at_least n s (neg_ℤ z) h (flip_le k) in omega (arith, ints)

pub floor_div-euclid : (z b : ℤ) → pos 1 ≤ℤ b → int_div_euclid z b ≡ floor_div z (unsigned_abs b)
floor_div-euclid (pos a) (pos b) h = refl
floor_div-euclid (negsuc a) (pos b) h = refl
floor_div-euclid z (negsuc b) h = absurd (omega (arith, ints, h))

-- a factor that the divisor has too
pub floor_div-common : (z : ℤ) (m n : ℕ) → 0 < m → 0 < n → floor_div (z *ℤ pos n) (m * n) ≡ floor_div z m
floor_div-common z m n h k =
    antisym
    (le-floor_div _ z m h (le_of_mul-le_pos n k (recast (floor_by (z *ℤ pos n) (z *ℤ pos n) (m * n) (mul-pos h k) (≤ℤ_refl _)) (joined (floor_div (z *ℤ pos n) (m * n)) m n) refl)))
    (le-floor_div _ (z *ℤ pos n) (m * n) (mul-pos h k) (recast (mul-le_pos n (floor_by z z m h (≤ℤ_refl z))) (sym (joined (floor_div z m) m n)) refl))
  where
    joined : (q : ℤ) (m n : ℕ) → (q *ℤ pos m) *ℤ pos n ≡ q *ℤ pos (m * n)
    joined q m n = rw (as_diff q) (simp ring (same_diff _ _ _ _ (omega arith)))

pub ceil_div-common : (z : ℤ) (m n : ℕ) → 0 < m → 0 < n → ceil_div (z *ℤ pos n) (m * n) ≡ ceil_div z m
ceil_div-common z m n h k = ap neg_ℤ (ap (λ t. floor_div t (m * n)) (sym (neg-*ℤ z (pos n))) ∙ floor_div-common (neg_ℤ z) m n h k)

-- a multiple of the divisor
pub floor_div-multiple : (z : ℤ) (n : ℕ) → 0 < n → floor_div (z *ℤ pos n) n ≡ z
floor_div-multiple z n h = antisym (le_of_mul-le_pos n h (floor_by _ _ n h (≤ℤ_refl (z *ℤ pos n)))) (le-floor_div z _ n h (≤ℤ_refl (z *ℤ pos n)))

pub ceil_div-multiple : (z : ℤ) (n : ℕ) → 0 < n → ceil_div (z *ℤ pos n) n ≡ z
ceil_div-multiple z n h = antisym (ceil_div-le z _ n h (≤ℤ_refl (z *ℤ pos n))) (le_of_mul-le_pos n h (ceil_by _ _ n h (≤ℤ_refl (z *ℤ pos n))))

pow_apart : (s t : ℕ) → t ≤ s → 2 ^ s ≡ 2 ^ (s - t) * 2 ^ t
pow_apart s t h = let e : s ≡ (s - t) + t = omega arith in ap (λ k. 2 ^ k) e ∙ pow-add 2 (s - t) t

raised : (s t : ℕ) (z : ℤ) → s ≤ t → z *ℤ pos (2 ^ t) ≡ (z *ℤ pos (2 ^ (t - s))) *ℤ pos (2 ^ s)
raised s t z h = ap (λ n. z *ℤ pos n) (pow_apart t s h) ∙ sym (*ℤ_assoc z (pos (2 ^ (t - s))) (pos (2 ^ s)))

-- a mantissa brought from the scale 2^s to 2^t: divided by a power of two, or multiplied by one
pub floor_div-scale_down : (s t : ℕ) (z : ℤ) → t ≤ s → floor_div (z *ℤ pos (2 ^ t)) (2 ^ s) ≡ floor_div z (2 ^ (s - t))
floor_div-scale_down s t z h = ap (λ n. floor_div (z *ℤ pos (2 ^ t)) n) (pow_apart s t h) ∙ floor_div-common z (2 ^ (s - t)) (2 ^ t) (pow_pos (s - t)) (pow_pos t)

pub ceil_div-scale_down : (s t : ℕ) (z : ℤ) → t ≤ s → ceil_div (z *ℤ pos (2 ^ t)) (2 ^ s) ≡ ceil_div z (2 ^ (s - t))
ceil_div-scale_down s t z h = ap (λ n. ceil_div (z *ℤ pos (2 ^ t)) n) (pow_apart s t h) ∙ ceil_div-common z (2 ^ (s - t)) (2 ^ t) (pow_pos (s - t)) (pow_pos t)

pub floor_div-scale_up : (s t : ℕ) (z : ℤ) → s ≤ t → floor_div (z *ℤ pos (2 ^ t)) (2 ^ s) ≡ z *ℤ pos (2 ^ (t - s))
floor_div-scale_up s t z h = ap (λ y. floor_div y (2 ^ s)) (raised s t z h) ∙ floor_div-multiple (z *ℤ pos (2 ^ (t - s))) (2 ^ s) (pow_pos s)

pub ceil_div-scale_up : (s t : ℕ) (z : ℤ) → s ≤ t → ceil_div (z *ℤ pos (2 ^ t)) (2 ^ s) ≡ z *ℤ pos (2 ^ (t - s))
ceil_div-scale_up s t z h = ap (λ y. ceil_div y (2 ^ s)) (raised s t z h) ∙ ceil_div-multiple (z *ℤ pos (2 ^ (t - s))) (2 ^ s) (pow_pos s)

div-larger : (a m n : ℕ) → 0 < m → m ≤ n → a / n ≤ a / m
div-larger a m n h p = (le-div_iff_mul-le h).1 (omega (arith, div-mul-le_self a n, mul-le-mul_left (a / n) p))

-- a larger divisor brings the quotient closer to 0
pub floor_div-larger : (z : ℤ) (m n : ℕ) → 0 < m → m ≤ n → pos 0 ≤ℤ z → floor_div z n ≤ℤ floor_div z m
floor_div-larger (pos a) m n h p q = let at : a / n ≤ a / m = div-larger a m n h p in omega (arith, ints)
floor_div-larger (negsuc a) m n h p q = absurd (omega (arith, ints))

pub floor_div-larger_negative : (z : ℤ) (m n : ℕ) → 0 < m → m ≤ n → z <ℤ pos 0 → floor_div z m ≤ℤ floor_div z n
floor_div-larger_negative (pos a) m n h p q = absurd (omega (arith, ints))
floor_div-larger_negative (negsuc a) m n h p q = let at : a / n ≤ a / m = div-larger a m n h p in omega (arith, ints)
