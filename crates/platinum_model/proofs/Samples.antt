-- What whole numbers 10^28 R show of a sample.
use Rattle.std.proofs.Common.{◌≡◌, ℕ, ◌+◌, ◌-◌, ◌*◌, ◌^◌, ◌<◌, ◌≤◌, refl, arith, lit<, lit≤, ◌⊎◌, inl, inr}
use Rattle.std.proofs.lemmas.Int.{ints}
use Rattle.std.proofs.lemmas.Bool.{cases_lt}
use native.Mathlib.Nat.{mul-le-mul_right}
use Rattle.number_model.specs.Fraction.{Fraction, ◌≤ℚ◌, ◌+ℚ◌, ◌-ℚ◌, ◌*ℚ◌, neg_ℚ, ◌≈◌, whole}
use Rattle.number_model.proofs.Same.{same_refl, same_sym, same_trans, same_add, same_mul}
use Rattle.number_model.specs.Enclosure.{nanodegrees}
use Rattle.platinum_model.specs.Element.{Element, ten_billionths, resistance, scaled_resistance, microdegrees}
use Rattle.platinum_model.specs.Sample.{IsInRange, IsWholeTemp}
use Rattle.number_model.proofs.Order.{≤ℚ_trans}
use Rattle.platinum_model.proofs.Order.{ratio, ratio-le, le-ratio, le_same, same_neg, ratio-one_more, ratio-one_less}
use Rattle.platinum_model.proofs.Curve.{IsRising, square_le}
use Rattle.platinum_model.proofs.Rising.{resistance-rises}
use Rattle.platinum_model.proofs.Scaled.{resistance-nanodegrees, at_most, of_at_most}

-- the same temperature has the same resistance
pub resistance-same : (e : Element) {s t : Fraction} → s ≈ t → resistance e s ≈ resistance e t
unfolding resistance
resistance-same e {s} {t} h =
    let linear : (ten_billionths e.a_e10 *ℚ s) ≈ (ten_billionths e.a_e10 *ℚ t) = same_mul (same_refl (ten_billionths e.a_e10)) h in
    let squares : (s *ℚ s) ≈ (t *ℚ t) = same_mul h h in
    let quadratic : (ten_billionths e.b_e10 *ℚ (s *ℚ s)) ≈ (ten_billionths e.b_e10 *ℚ (t *ℚ t)) = same_mul (same_refl (ten_billionths e.b_e10)) squares in
    let up : (whole 1 +ℚ ten_billionths e.a_e10 *ℚ s) ≈ (whole 1 +ℚ ten_billionths e.a_e10 *ℚ t) = same_add (same_refl (whole 1)) linear in
    let both : (whole 1 +ℚ ten_billionths e.a_e10 *ℚ s -ℚ ten_billionths e.b_e10 *ℚ (s *ℚ s)) ≈ (whole 1 +ℚ ten_billionths e.a_e10 *ℚ t -ℚ ten_billionths e.b_e10 *ℚ (t *ℚ t)) =
    same_add up (same_neg quadratic) in
    same_mul (same_refl (whole e.r0_uohm)) both

pub microdegrees-same : (n : ℕ) → microdegrees n ≈ nanodegrees (1000 * n)
microdegrees-same n = record { crossed = omega (arith, ints) }

at_0 : (e : Element) → IsRising e → resistance e (whole 0) ≈ ratio (scaled_resistance e 0) (10 ^ 28) (lit< tt)
at_0 e rising = same_trans (resistance-same e (record { crossed = refl })) (resistance-nanodegrees e 0 rising (lit≤ tt))

at_180 : (e : Element) → IsRising e → resistance e (whole 180) ≈ ratio (scaled_resistance e 180000000000) (10 ^ 28) (lit< tt)
at_180 e rising = same_trans (resistance-same e (record { crossed = refl })) (resistance-nanodegrees e 180000000000 rising (lit≤ tt))

-- the resistance is positive
pub scaled_resistance-positive : (e : Element) (n : ℕ) → IsRising e → n ≤ 180000000000 → 10 ^ 28 ≤ scaled_resistance e n
unfolding scaled_resistance
scaled_resistance-positive e n rising h =
    let square : e.b_e10 * (n * n) ≤ e.a_e10 * (n * 10 ^ 9) = square_le e.a_e10 e.b_e10 n (10 ^ 9) rising.steep (omega arith) in
    let some : 1 * (10 ^ 28 + e.a_e10 * 10 ^ 9 * n - e.b_e10 * (n * n)) ≤ e.r0_uohm * (10 ^ 28 + e.a_e10 * 10 ^ 9 * n - e.b_e10 * (n * n)) =
    mul-le-mul_right (10 ^ 28 + e.a_e10 * 10 ^ 9 * n - e.b_e10 * (n * n)) rising.conducts in
    omega arith

one_more : (e : Element) → IsRising e → (resistance e (whole 0) +ℚ whole 1) ≈ ratio (scaled_resistance e 0 + 10 ^ 28) (10 ^ 28) (lit< tt)
one_more e rising = same_trans (same_add (at_0 e rising) (same_refl (whole 1))) (ratio-one_more (scaled_resistance e 0) (10 ^ 28) (lit< tt))

one_less : (e : Element) → IsRising e → (resistance e (whole 180) -ℚ whole 1) ≈ ratio (scaled_resistance e 180000000000 - 10 ^ 28) (10 ^ 28) (lit< tt)
one_less e rising =
    let positive : 10 ^ 28 ≤ scaled_resistance e 180000000000 = scaled_resistance-positive e 180000000000 rising (lit≤ tt) in
    let back : (scaled_resistance e 180000000000 - 10 ^ 28) + 10 ^ 28 ≡ scaled_resistance e 180000000000 = omega arith in
    let less : (ratio ((scaled_resistance e 180000000000 - 10 ^ 28) + 10 ^ 28) (10 ^ 28) (lit< tt) -ℚ whole 1) ≈ ratio (scaled_resistance e 180000000000 - 10 ^ 28) (10 ^ 28) (lit< tt) =
    ratio-one_less (scaled_resistance e 180000000000 - 10 ^ 28) (10 ^ 28) (lit< tt) in
    let same : (ratio (scaled_resistance e 180000000000) (10 ^ 28) (lit< tt) -ℚ whole 1) ≈ ratio (scaled_resistance e 180000000000 - 10 ^ 28) (10 ^ 28) (lit< tt) = rw back at less in
    same_trans (same_add (at_180 e rising) (same_refl (neg_ℚ (whole 1)))) same

pub IsInRange-found : (e : Element) (r : ℕ) → IsRising e → scaled_resistance e 0 + 10 ^ 28 ≤ 10 ^ 28 * r → 10 ^ 28 * r + 10 ^ 28 ≤ scaled_resistance e 180000000000 → IsInRange e r
IsInRange-found e r rising low high = record {
  above = le_same (same_sym (one_more e rising)) (same_refl (whole r))
      (ratio-le (scaled_resistance e 0 + 10 ^ 28) (10 ^ 28) r 1 (lit< tt) (lit< tt) (omega arith));
  below = le_same (same_refl (whole r)) (same_sym (one_less e rising))
      (ratio-le r 1 (scaled_resistance e 180000000000 - 10 ^ 28) (10 ^ 28) (lit< tt) (lit< tt) (omega arith));
}

pub IsInRange-low : (e : Element) (r : ℕ) → IsRising e → IsInRange e r → scaled_resistance e 0 + 10 ^ 28 ≤ 10 ^ 28 * r
IsInRange-low e r rising h =
    omega (arith, le-ratio (scaled_resistance e 0 + 10 ^ 28) (10 ^ 28) r 1 (lit< tt) (lit< tt) (le_same (one_more e rising) (same_refl (whole r)) h.above))

pub IsInRange-high : (e : Element) (r : ℕ) → IsRising e → IsInRange e r → 10 ^ 28 * r + 10 ^ 28 ≤ scaled_resistance e 180000000000
IsInRange-high e r rising h =
    omega (
      arith,
      scaled_resistance-positive e 180000000000 rising (lit≤ tt),
      le-ratio r 1 (scaled_resistance e 180000000000 - 10 ^ 28) (10 ^ 28) (lit< tt) (lit< tt) (le_same (same_refl (whole r)) (one_less e rising) h.below),
    )

-- of two whole numbers of nanodegrees
nanodegrees-le : (m n : ℕ) → m ≤ n → nanodegrees m ≤ℚ nanodegrees n
nanodegrees-le m n h = ratio-le m (10 ^ 9) n (10 ^ 9) (lit< tt) (lit< tt) (mul-le-mul_right (10 ^ 9) h)

pub le-nanodegrees : (m n : ℕ) → nanodegrees m ≤ℚ nanodegrees n → m ≤ n
le-nanodegrees m n h = omega (arith, le-ratio m (10 ^ 9) n (10 ^ 9) (lit< tt) (lit< tt) h)

pub from_0 : (n : ℕ) → whole 0 ≤ℚ nanodegrees n
from_0 n = ratio-le 0 1 n (10 ^ 9) (lit< tt) (lit< tt) (omega arith)

pub to_180 : (n : ℕ) → n ≤ 180000000000 → nanodegrees n ≤ℚ whole 180
to_180 n h = ratio-le n (10 ^ 9) 180 1 (lit< tt) (lit< tt) (omega arith)

pub nanodegrees-rises : (e : Element) (m n : ℕ) → IsRising e → m ≤ n → n ≤ 180000000000 → resistance e (nanodegrees m) ≤ℚ resistance e (nanodegrees n)
nanodegrees-rises e m n rising h k = resistance-rises e (nanodegrees m) (nanodegrees n) rising (from_0 m) (nanodegrees-le m n h) (to_180 n k)

-- where 10^28 R passes 10^28 r between t and t + 1 microdegrees, t is the whole temperature
pub IsWholeTemp-found : (e : Element) (r t : ℕ) → IsRising e → t < 180000000 → scaled_resistance e (1000 * t) ≤ 10 ^ 28 * r → 10 ^ 28 * r < scaled_resistance e (1000 * (t + 1)) → IsWholeTemp e r t
IsWholeTemp-found e r t rising inside reached passed = record {
  range = omega arith;
  reached = le_same (resistance-same e (same_sym (microdegrees-same t))) (same_refl (whole r)) (at_most e (1000 * t) r 1 (lit< tt) rising (omega arith) (omega arith));
  greatest = λ s h k. greatest s h k (cases_lt t s);
}
  where
    clash : {a b c : ℕ} → a < b → b * 1 ≤ c → c ≡ a → ⊥
    clash h k l = omega arith

    greatest : (s : ℕ) → s ≤ 180000000 → resistance e (microdegrees s) ≤ℚ whole r → (t < s) ⊎ (s ≤ t) → s ≤ t
    greatest s h k (inr low) = low
    greatest s h k (inl high) =
        let before : resistance e (nanodegrees (1000 * (t + 1))) ≤ℚ resistance e (nanodegrees (1000 * s)) = nanodegrees-rises e (1000 * (t + 1)) (1000 * s) rising (omega arith) (omega arith) in
        let here : resistance e (nanodegrees (1000 * s)) ≤ℚ whole r = le_same (resistance-same e (microdegrees-same s)) (same_refl (whole r)) k in
        absurd (clash passed (of_at_most e (1000 * (t + 1)) r 1 (lit< tt) rising (omega arith) (≤ℚ_trans before here)) refl)

pub IsWholeTemp-unique : (e : Element) (r s t : ℕ) → IsWholeTemp e r s → IsWholeTemp e r t → s ≡ t
IsWholeTemp-unique e r s t h k = omega (arith, h.greatest t k.range k.reached, k.greatest s h.range h.reached)
