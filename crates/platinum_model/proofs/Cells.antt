-- The cell of a sample lies between its ends, and the ends are near each other.
use Rattle.std.proofs.lemmas.Int.{ints}
use Rattle.std.proofs.Common.{◌≡◌, ℕ, ◌+◌, ◌-◌, ◌*◌, ◌^◌, ◌<◌, ◌≤◌, arith, lit<, ◌⊎◌, inl, inr}
use Rattle.std.proofs.lemmas.Bool.{cases_lt}
use native.Mathlib.Nat.{mul-le-mul_left}
use Rattle.number_model.specs.Fraction.{Fraction, ◌≤ℚ◌, ◌+ℚ◌, ◌-ℚ◌, ◌≈◌, whole}
use Rattle.number_model.proofs.Same.{same_refl, same_sym}
use Rattle.number_model.specs.Enclosure.{nanodegrees, SpanHolds}
use Rattle.platinum_model.specs.Element.{Element, resistance, scaled_resistance}
use Rattle.platinum_model.specs.Sample.{half, IsInRange, IsInCell, AreCellEnds, IsCellSpan}
use Rattle.number_model.proofs.Order.{≤ℚ_trans}
use Rattle.platinum_model.proofs.Order.{ratio, le_same, half_more, half_less}
use Rattle.platinum_model.proofs.Curve.{IsRising}
use Rattle.platinum_model.proofs.Rising.{resistance-reflects}
use Rattle.platinum_model.proofs.Scaled.{at_most, of_at_most, at_least, of_at_least}
use Rattle.platinum_model.proofs.Samples.{nanodegrees-rises, from_0, to_180, le-nanodegrees, IsInRange-low}

-- r - 1/2
pub less_half : (r : ℕ) → 0 < r → (whole r -ℚ half) ≈ ratio (2 * r - 1) 2 (lit< tt)
less_half r h =
    let back : (r - 1) + 1 ≡ r = omega arith in
    let odd : 2 * (r - 1) + 1 ≡ 2 * r - 1 = omega arith in
    let same : (whole ((r - 1) + 1) -ℚ half) ≈ ratio (2 * (r - 1) + 1) 2 (lit< tt) = half_less (r - 1) in
    rw (back, odd) at same

-- where twice 10^28 R passes (2 r - 1) 10^28 after lo, and reaches (2 r + 1) 10^28 at k + 1, these are the ends
pub AreCellEnds-found : (e : Element) (r lo k : ℕ) → IsRising e → 0 < r → lo < 180000000000 → k < 180000000000
    → scaled_resistance e lo * 2 ≤ 10 ^ 28 * (2 * r - 1) → 10 ^ 28 * (2 * r - 1) < scaled_resistance e (lo + 1) * 2
    → scaled_resistance e k * 2 < 10 ^ 28 * (2 * r + 1) → 10 ^ 28 * (2 * r + 1) ≤ scaled_resistance e (k + 1) * 2
    → AreCellEnds e r lo (k + 1)
AreCellEnds-found e r lo k rising some lo_in k_in lo_before lo_passed k_before k_reached = record {
  lo_range = omega arith;
  lo_before = le_same (same_refl (resistance e (nanodegrees lo))) (same_sym (less_half r some)) (at_most e lo (2 * r - 1) 2 (lit< tt) rising (omega arith) lo_before);
  lo_greatest = λ s h m. greatest s h m (cases_lt lo s);
  hi_range = omega arith;
  hi_after = le_same (same_sym (half_more r)) (same_refl (resistance e (nanodegrees (k + 1)))) (at_least e (k + 1) (2 * r + 1) 2 (lit< tt) rising (omega arith) k_reached);
  hi_least = λ s h m. least s h m (cases_lt k s);
}
  where
    clash : {a b : ℕ} → a < b → b ≤ a → ⊥
    clash h k = omega arith

    greatest : (s : ℕ) → s ≤ 180000000000 → resistance e (nanodegrees s) ≤ℚ (whole r -ℚ half) → (lo < s) ⊎ (s ≤ lo) → s ≤ lo
    greatest s h m (inr low) = low
    greatest s h m (inl high) =
        let before : resistance e (nanodegrees (lo + 1)) ≤ℚ resistance e (nanodegrees s) = nanodegrees-rises e (lo + 1) s rising (omega arith) h in
        let here : resistance e (nanodegrees (lo + 1)) ≤ℚ ratio (2 * r - 1) 2 (lit< tt) = le_same (same_refl (resistance e (nanodegrees (lo + 1)))) (less_half r some) (≤ℚ_trans before m) in
        absurd (clash lo_passed (of_at_most e (lo + 1) (2 * r - 1) 2 (lit< tt) rising (omega arith) here))

    least : (s : ℕ) → s ≤ 180000000000 → (whole r +ℚ half) ≤ℚ resistance e (nanodegrees s) → (k < s) ⊎ (s ≤ k) → k + 1 ≤ s
    least s h m (inl high) = omega arith
    least s h m (inr low) =
        let after : resistance e (nanodegrees s) ≤ℚ resistance e (nanodegrees k) = nanodegrees-rises e s k rising low (omega arith) in
        let here : ratio (2 * r + 1) 2 (lit< tt) ≤ℚ resistance e (nanodegrees k) = le_same (half_more r) (same_refl (resistance e (nanodegrees k))) (≤ℚ_trans m after) in
        absurd (clash k_before (of_at_least e k (2 * r + 1) 2 (lit< tt) rising (omega arith) here))

-- the cell lies between its ends
pub IsInCell-between : (e : Element) (r lo hi : ℕ) (t : Fraction) → IsRising e → AreCellEnds e r lo hi → IsInCell e r t → SpanHolds lo hi t
IsInCell-between e r lo hi t rising ends h = record {
  low = resistance-reflects e (nanodegrees lo) t rising (from_0 lo) (to_180 lo ends.lo_range) h.above_0 h.below_180 (≤ℚ_trans ends.lo_before h.low);
  high = resistance-reflects e t (nanodegrees hi) rising h.above_0 h.below_180 (from_0 hi) (to_180 hi ends.hi_range) (≤ℚ_trans h.high ends.hi_after);
}

pub AreCellEnds-ordered : (e : Element) (r lo hi : ℕ) → IsRising e → AreCellEnds e r lo hi → lo ≤ hi
AreCellEnds-ordered e r lo hi rising ends =
    let wide : (whole r -ℚ half) ≤ℚ (whole r +ℚ half) = record { crossed = omega (arith, ints) } in
    le-nanodegrees lo hi
    (resistance-reflects e (nanodegrees lo) (nanodegrees hi) rising (from_0 lo) (to_180 lo ends.lo_range) (from_0 hi) (to_180 hi ends.hi_range)
    (≤ℚ_trans ends.lo_before (≤ℚ_trans wide ends.hi_after)))

pub AreCellEnds-unique : (e : Element) (r lo hi lo' hi' : ℕ) → AreCellEnds e r lo hi → AreCellEnds e r lo' hi' → (lo ≡ lo') × (hi ≡ hi')
AreCellEnds-unique e r lo hi lo' hi' h k = (
  omega (arith, h.lo_greatest lo' k.lo_range k.lo_before, k.lo_greatest lo h.lo_range h.lo_before),
  omega (arith, h.hi_least hi' k.hi_range k.hi_after, k.hi_least hi h.hi_range h.hi_after),
)

slope : (q g b s n k : ℕ) → n + k ≤ 180 * g
    → q + (360 * b + s) * g * n - b * (n * n) + g * s * k ≤ q + (360 * b + s) * g * (n + k) - b * ((n + k) * (n + k))
slope q g b s n k h =
    let low : b * n * n ≤ b * n * (180 * g) = mul-le-mul_left (b * n) (omega arith) in
    let high : b * (n + k) * (n + k) ≤ b * (n + k) * (180 * g) = mul-le-mul_left (b * (n + k)) h in
    let step : b * k * (2 * n + k) ≤ b * k * (360 * g) = mul-le-mul_left (b * k) (omega arith) in
    omega arith

-- 10^28 R rises by at least R0 10^9 (A - 360 B) a nanodegree, with A and B in 10^-10
pub scaled_resistance-slope : (e : Element) (n k : ℕ) → IsRising e → n + k ≤ 180000000000
    → scaled_resistance e n + e.r0_uohm * (10 ^ 9 * (e.a_e10 - 360 * e.b_e10)) * k ≤ scaled_resistance e (n + k)
unfolding scaled_resistance
scaled_resistance-slope e n k rising h =
    let split : 360 * e.b_e10 + (e.a_e10 - 360 * e.b_e10) ≡ e.a_e10 = omega (arith, rising.steep) in
    let one : 10 ^ 28 + e.a_e10 * 10 ^ 9 * n - e.b_e10 * (n * n) + 10 ^ 9 * (e.a_e10 - 360 * e.b_e10) * k ≤ 10 ^ 28 + e.a_e10 * 10 ^ 9 * (n + k) - e.b_e10 * ((n + k) * (n + k)) =
    rw split at (slope (10 ^ 28) (10 ^ 9) e.b_e10 (e.a_e10 - 360 * e.b_e10) n k (omega arith)) in
    times e.r0_uohm _ _ _ _ (mul-le-mul_left e.r0_uohm one)
  where
    times : (r x y k z : ℕ) → r * (x + y * k) ≤ r * z → r * x + r * y * k ≤ r * z
    times r x y k z h = omega arith

-- a sensor whose cells are at most 2,800 nanodegrees wide: up to 180 °C it rises by more than 1/2798 microohm a nanodegree
pub record IsSteep (e : Element) : Type 0 where
  pub rising : IsRising e
  pub slope : 10 ^ 28 < 2798 * (e.r0_uohm * (10 ^ 9 * (e.a_e10 - 360 * e.b_e10)))

pub AreCellEnds-width : (e : Element) (r lo hi : ℕ) → IsSteep e → IsInRange e r → AreCellEnds e r lo hi → hi ≤ lo + 2800
AreCellEnds-width e r lo hi steep range ends = near (cases_lt (lo + 2800) hi)
  where
    some : (a r : ℕ) → a + 10 ^ 28 ≤ 10 ^ 28 * r → 0 < r
    some a r h = omega arith

    clash : {a b : ℕ} → a < b → b ≤ a → ⊥
    clash h k = omega arith

    after_lo : lo + 1 ≤ 180000000000 → (10 ^ 28 * (2 * r - 1) < scaled_resistance e (lo + 1) * 2) ⊎ (scaled_resistance e (lo + 1) * 2 ≤ 10 ^ 28 * (2 * r - 1)) → 10 ^ 28 * (2 * r - 1) < scaled_resistance e (lo + 1) * 2
    after_lo inside (inl h) = h
    after_lo inside (inr h) = absurd (clash (omega arith) (ends.lo_greatest (lo + 1) inside
        (le_same (same_refl (resistance e (nanodegrees (lo + 1)))) (same_sym (less_half r (some (scaled_resistance e 0) r (IsInRange-low e r steep.rising range))))
        (at_most e (lo + 1) (2 * r - 1) 2 (lit< tt) steep.rising inside h))))

    before_hi : (m : ℕ) → m < hi → (scaled_resistance e m * 2 < 10 ^ 28 * (2 * r + 1)) ⊎ (10 ^ 28 * (2 * r + 1) ≤ scaled_resistance e m * 2) → scaled_resistance e m * 2 < 10 ^ 28 * (2 * r + 1)
    before_hi m below (inl h) = h
    before_hi m below (inr h) = absurd (clash below (ends.hi_least m (omega (arith, ends.hi_range))
        (le_same (same_sym (half_more r)) (same_refl (resistance e (nanodegrees m)))
        (at_least e m (2 * r + 1) 2 (lit< tt) steep.rising (omega (arith, ends.hi_range)) h))))

    too_far : (x y s k r : ℕ) → 0 < r → 10 ^ 28 * (2 * r - 1) < x * 2 → y * 2 < 10 ^ 28 * (2 * r + 1) → x + s * k ≤ y → 10 ^ 28 < 2798 * s → s * 2798 ≤ s * k → ⊥
    too_far x y s k r above low high rise slope far = omega arith

    near : (lo + 2800 < hi) ⊎ (hi ≤ lo + 2800) → hi ≤ lo + 2800
    near (inr close) = close
    near (inl far) =
        let low_in : lo + 1 ≤ 180000000000 = omega (arith, ends.hi_range) in
        let rise : scaled_resistance e (lo + 1) + e.r0_uohm * (10 ^ 9 * (e.a_e10 - 360 * e.b_e10)) * (hi - lo - 2) ≤ scaled_resistance e (lo + 1 + (hi - lo - 2)) =
        scaled_resistance-slope e (lo + 1) (hi - lo - 2) steep.rising (omega (arith, ends.hi_range)) in
        absurd (too_far (scaled_resistance e (lo + 1)) (scaled_resistance e (lo + 1 + (hi - lo - 2))) (e.r0_uohm * (10 ^ 9 * (e.a_e10 - 360 * e.b_e10))) (hi - lo - 2) r
        (some (scaled_resistance e 0) r (IsInRange-low e r steep.rising range))
        (after_lo low_in (cases_lt _ _))
        (before_hi (lo + 1 + (hi - lo - 2)) (omega arith) (cases_lt _ _))
        rise steep.slope
        (mul-le-mul_left (e.r0_uohm * (10 ^ 9 * (e.a_e10 - 360 * e.b_e10))) (omega arith)))

pub IsCellSpan-found : (e : Element) (r lo hi : ℕ) → IsSteep e → IsInRange e r → AreCellEnds e r lo hi → IsCellSpan e r lo hi
IsCellSpan-found e r lo hi steep range ends = record {
  ends = ends;
  holds = λ t h. IsInCell-between e r lo hi t steep.rising ends h;
  width = AreCellEnds-width e r lo hi steep range ends;
}
