-- Powers with whole exponents are convex: the quotient over two numbers lies between the derivatives at the two.
use Rattle.std.proofs.Common.{◌≡◌, ℕ, zero, suc, ◌+◌, ◌*◌, ◌^◌, ◌<◌, ◌≤◌, ap, arith, ℤ, pos, negsuc, neg_ℤ, ◌+ℤ◌, ◌*ℤ◌, ◌≤ℤ◌}
use Rattle.std.proofs.lemmas.Int.{ints}
use native.Mathlib.Nat.{one-le-pow, pow-suc, pow-zero, mul-le-mul_right, mul-le-mul_left}
use Rattle.number_model.specs.Fraction.{Fraction, ◌≤ℚ◌, ◌-ℚ◌, ◌*ℚ◌, ◌≈◌, inverse}
use Rattle.number_model.proofs.Ints.{le_diff, pos-diff, ring}
use Rattle.number_model.proofs.Same.{same_trans}
use Rattle.number_model.proofs.Powers.{same_power, power-pos}
use Rattle.water_model.specs.Decimal.{integer, whole_power}
use Rattle.region1_terms.proofs.Temperatures.{ratio}

-- (b + e)^(n + 1) grows over b^(n + 1) by at least (n + 1) b^n e, and by at most (n + 1) (b + e)^n e
pub grows : (n a b e : ℕ) → a ≡ b + e → b ^ suc n + suc n * b ^ n * e ≤ a ^ suc n
grows zero a b e h = rw (pow-suc a 0, pow-suc b 0, pow-zero a, pow-zero b) (omega (arith, h))
grows (suc n) a b e h =
    rw (pow-suc a (suc n), pow-suc b (suc n)) (step (b ^ suc n) (a ^ suc n) (b ^ n) (pow-suc b n) (grows n a b e h))
  where
    step : (q r p : ℕ) → q ≡ p * b → q + suc n * p * e ≤ r → q * b + suc (suc n) * q * e ≤ r * a
    step q r p f k =
        let k' : (q + suc n * p * e) * a ≤ r * a = mul-le-mul_right a k in
        let g : suc n * p * e * b ≡ suc n * q * e = rw f (omega arith) in
        omega (arith, k', g, ap (λ t. q * t) h, ap (λ t. suc n * p * e * t) h)

pub grows_most : (n a b e : ℕ) → a ≡ b + e → a ^ suc n ≤ b ^ suc n + suc n * a ^ n * e
grows_most zero a b e h = rw (pow-suc a 0, pow-suc b 0, pow-zero a, pow-zero b) (omega (arith, h))
grows_most (suc n) a b e h =
    rw (pow-suc a (suc n), pow-suc b (suc n)) (step (b ^ suc n) (a ^ suc n) (a ^ n) (pow-suc a n) (grows_most n a b e h))
  where
    step : (q r p : ℕ) → r ≡ p * a → r ≤ q + suc n * p * e → r * a ≤ q * b + suc (suc n) * r * e
    step q r p f k =
        let k' : r * b ≤ (q + suc n * p * e) * b = mul-le-mul_right b k in
        let small : b ≤ a = omega (arith, h) in
        let g : suc n * p * e * b ≤ suc n * r * e = rw f (omega (arith, mul-le-mul_left (suc n * p * e) small)) in
        omega (arith, k', g, ap (λ t. r * t) h)

-- the power of x / n with a whole exponent
abbrev pub power_at : (x n : ℕ) → 0 < x → 0 < n → ℤ → Fraction
power_at x n x_above n_above (pos m) = ratio (x ^ m) (n ^ m) (one-le-pow m n n_above)
power_at x n x_above n_above (negsuc m) = ratio (n ^ suc m) (x ^ suc m) (one-le-pow (suc m) x x_above)

pub power_is : (y : Fraction) (x n : ℕ) (x_above : 0 < x) (n_above : 0 < n) → y ≈ ratio x n n_above → inverse y ≈ ratio n x x_above → (m : ℤ)
    → whole_power y m ≈ power_at x n x_above n_above m
unfolding whole_power
power_is y x n x_above n_above e f (pos m) = same_trans (same_power m e) (power-pos x n m n_above)
power_is y x n x_above n_above e f (negsuc m) = same_trans (same_power (suc m) f) (power-pos n x (suc m) x_above)

-- ---- the cross products, where r lies at most j p e above q, or at least
falls_low : (j p e q r u n v : ℕ) → v ≡ u * n → r ≤ q + j * p * e
    → (((neg_ℤ (pos j) *ℤ pos p) *ℤ pos e) *ℤ pos (v * v)) ≤ℤ (((pos q *ℤ pos v) +ℤ (neg_ℤ (pos r) *ℤ pos v)) *ℤ pos ((1 * u) * n))
falls_low j p e q r u n v f h =
    rw f (simp ring (le_diff _ _ _ _ (omega (arith, mul-le-mul_right ((u * n) * (u * n)) h))))

falls_high : (j p e q r u n v : ℕ) → v ≡ u * n → q + j * p * e ≤ r
    → (((pos q *ℤ pos v) +ℤ (neg_ℤ (pos r) *ℤ pos v)) *ℤ pos ((1 * u) * n)) ≤ℤ (((neg_ℤ (pos j) *ℤ pos p) *ℤ pos e) *ℤ pos (v * v))
falls_high j p e q r u n v f h =
    rw f (simp ring (le_diff _ _ _ _ (omega (arith, mul-le-mul_right ((u * n) * (u * n)) h))))

rises_low : (j e u n r q a v w : ℕ) → v ≡ u * n → w ≡ r * a → j * e * q + q * a ≤ r * a
    → (((pos j *ℤ pos v) *ℤ pos e) *ℤ pos (q * r)) ≤ℤ (((pos u *ℤ pos r) +ℤ (neg_ℤ (pos u) *ℤ pos q)) *ℤ pos ((1 * w) * n))
rises_low j e u n r q a v w f g h =
    rw (f, g, pos-diff (j * (u * n) * e * (q * r))) (simp ring (le_diff _ _ _ _ (omega (arith, mul-le-mul_right (u * n * r) h))))

rises_high : (j e u n r q b v w : ℕ) → v ≡ u * n → w ≡ q * b → r * b ≤ q * b + j * e * r
    → (((pos u *ℤ pos r) +ℤ (neg_ℤ (pos u) *ℤ pos q)) *ℤ pos ((1 * w) * n)) ≤ℤ (((pos j *ℤ pos v) *ℤ pos e) *ℤ pos (q * r))
rises_high j e u n r q b v w f g h =
    rw (f, g, pos-diff (j * (u * n) * e * (q * r))) (simp ring (le_diff _ _ _ _ (omega (arith, mul-le-mul_right (u * n * q) h))))

none_low : (x e q r v d : ℕ) → q ≡ 1 → r ≡ 1 → v ≡ 1 → (pos (0 * x * e) *ℤ pos (v * v)) ≤ℤ (((pos q *ℤ pos v) +ℤ (neg_ℤ (pos r) *ℤ pos v)) *ℤ pos d)
none_low x e q r v d f g h = rw (f, g, h) (omega (arith, ints))

none_high : (x e q r v d : ℕ) → q ≡ 1 → r ≡ 1 → v ≡ 1 → (((pos q *ℤ pos v) +ℤ (neg_ℤ (pos r) *ℤ pos v)) *ℤ pos d) ≤ℤ (pos (0 * x * e) *ℤ pos (v * v))
none_high x e q r v d f g h = rw (f, g, h) (omega (arith, ints))

-- at a / n and b / n, which are e / n apart: the difference of the powers with exponent m lies between
-- -m times the powers with exponent m - 1, times e / n
pub record IsConvex (a b e n : ℕ) (a_above : 0 < a) (b_above : 0 < b) (n_above : 0 < n) (m l : ℤ) : Type 0 where
  pub low : ((integer (neg_ℤ m) *ℚ power_at a n a_above n_above l) *ℚ ratio e n n_above) ≤ℚ (power_at b n b_above n_above m -ℚ power_at a n a_above n_above m)
  pub high : (power_at b n b_above n_above m -ℚ power_at a n a_above n_above m) ≤ℚ ((integer (neg_ℤ m) *ℚ power_at b n b_above n_above l) *ℚ ratio e n n_above)

module _ (a b e n : ℕ) (a_above : 0 < a) (b_above : 0 < b) (n_above : 0 < n) (apart : a ≡ b + e) where
  convex_none : IsConvex a b e n a_above b_above n_above (pos 0) (negsuc 0)
  convex_none = record {
    low = record { crossed = none_low (n ^ 1) e (b ^ 0) (a ^ 0) (n ^ 0) ((1 * a ^ 1) * n) (pow-zero b) (pow-zero a) (pow-zero n) };
    high = record { crossed = none_high (n ^ 1) e (b ^ 0) (a ^ 0) (n ^ 0) ((1 * b ^ 1) * n) (pow-zero b) (pow-zero a) (pow-zero n) };
  }

  convex_rising : (k : ℕ) → IsConvex a b e n a_above b_above n_above (pos (suc k)) (pos k)
  convex_rising k = record {
    low = record { crossed = falls_low (suc k) (a ^ k) e (b ^ suc k) (a ^ suc k) (n ^ k) n (n ^ suc k) (pow-suc n k) (grows_most k a b e apart) };
    high = record { crossed = falls_high (suc k) (b ^ k) e (b ^ suc k) (a ^ suc k) (n ^ k) n (n ^ suc k) (pow-suc n k) (grows k a b e apart) };
  }

  convex_falling : (k : ℕ) → IsConvex a b e n a_above b_above n_above (negsuc k) (negsuc (suc k))
  convex_falling k =
      let low : suc k * e * b ^ suc k + b ^ suc k * a ≤ a ^ suc k * a =
      omega (arith, grows (suc k) a b e apart, pow-suc a (suc k), pow-suc b (suc k), ap (λ t. b ^ suc k * t) apart) in
      let high : a ^ suc k * b ≤ b ^ suc k * b + suc k * e * a ^ suc k =
      omega (arith, grows_most (suc k) a b e apart, pow-suc a (suc k), pow-suc b (suc k), ap (λ t. a ^ suc k * t) apart) in
      record {
        low = record { crossed = rises_low (suc k) e (n ^ suc k) n (a ^ suc k) (b ^ suc k) a (n ^ suc (suc k)) (a ^ suc (suc k)) (pow-suc n (suc k)) (pow-suc a (suc k)) low };
        high = record { crossed = rises_high (suc k) e (n ^ suc k) n (a ^ suc k) (b ^ suc k) b (n ^ suc (suc k)) (b ^ suc (suc k)) (pow-suc n (suc k)) (pow-suc b (suc k)) high };
      }

  pub convex : (m l : ℤ) → l +ℤ pos 1 ≡ m → IsConvex a b e n a_above b_above n_above m l
  convex (pos zero) l h = let is : l ≡ negsuc 0 = omega (arith, ints, h) in rw is convex_none
  convex (pos (suc k)) l h = let is : l ≡ pos k = omega (arith, ints, h) in rw is (convex_rising k)
  convex (negsuc k) l h = let is : l ≡ negsuc (suc k) = omega (arith, ints, h) in rw is (convex_falling k)
