-- The whole number 10^28 R at whole nanodegrees, and comparisons by it.
use Rattle.std.proofs.Common.{◌≡◌, ℕ, ◌+◌, ◌-◌, ◌*◌, ◌^◌, ◌<◌, ◌≤◌, arith, lit<, sym, ◌∙◌, ℤ, pos}
use Rattle.number_model.specs.Fraction.{◌≤ℚ◌, ◌≈◌, IsRatio}
use Rattle.number_model.proofs.Same.{same_refl, same_sym, cancel}
use Rattle.number_model.specs.Enclosure.{nanodegrees}
use Rattle.platinum_model.specs.Element.{Element, resistance, scaled_resistance}
use Rattle.platinum_model.proofs.Order.{ratio, ratio-le, le-ratio, le_same}
use Rattle.platinum_model.proofs.Curve.{IsRising, bracket, resistance-ratio}

scaled_pos : 0 < 10 ^ 28
scaled_pos = lit< tt

-- R at n nanodegrees is this whole number over 10^28
pub resistance-nanodegrees : (e : Element) (n : ℕ) → IsRising e → n ≤ 180000000000
    → resistance e (nanodegrees n) ≈ ratio (scaled_resistance e n) (10 ^ 28) (lit< tt)
unfolding scaled_resistance
resistance-nanodegrees e n rising h =
    let same : bracket e.a_e10 e.b_e10 n (10 ^ 9) ≡ 10 ^ 28 + e.a_e10 * 10 ^ 9 * n - e.b_e10 * (n * n) = omega arith in
    let curve : resistance e (nanodegrees n) ≈ ratio (e.r0_uohm * bracket e.a_e10 e.b_e10 n (10 ^ 9)) (10 ^ 28) (lit< tt) =
    resistance-ratio e n (10 ^ 9) (lit< tt) (lit< tt) rising (omega arith) in
    rw same at curve

-- 10^28 R is this whole number at whole nanodegrees, and no other
pub scaled_resistance-ratio : (e : Element) (n : ℕ) → IsRising e → n ≤ 180000000000
    → IsRatio (pos (scaled_resistance e n)) (pos (10 ^ 28)) (resistance e (nanodegrees n))
scaled_resistance-ratio e n rising h = record { crossed = (resistance-nanodegrees e n rising h).crossed }

pub scaled_resistance-unique : (e : Element) (n : ℕ) (z : ℤ) → IsRising e → n ≤ 180000000000
    → IsRatio z (pos (10 ^ 28)) (resistance e (nanodegrees n)) → z ≡ pos (scaled_resistance e n)
scaled_resistance-unique e n z rising h k =
    cancel (resistance e (nanodegrees n)).den (resistance e (nanodegrees n)).positive
    (sym k.crossed ∙ (resistance-nanodegrees e n rising h).crossed)

pub at_most : (e : Element) (n p q : ℕ) (above : 0 < q) → IsRising e → n ≤ 180000000000
    → scaled_resistance e n * q ≤ 10 ^ 28 * p → resistance e (nanodegrees n) ≤ℚ ratio p q above
at_most e n p q above rising h k =
    le_same (same_sym (resistance-nanodegrees e n rising h)) (same_refl (ratio p q above))
    (ratio-le (scaled_resistance e n) (10 ^ 28) p q (lit< tt) above (omega arith))

pub of_at_most : (e : Element) (n p q : ℕ) (above : 0 < q) → IsRising e → n ≤ 180000000000
    → resistance e (nanodegrees n) ≤ℚ ratio p q above → scaled_resistance e n * q ≤ 10 ^ 28 * p
of_at_most e n p q above rising h k =
    omega (arith, le-ratio (scaled_resistance e n) (10 ^ 28) p q (lit< tt) above (le_same (resistance-nanodegrees e n rising h) (same_refl (ratio p q above)) k))

pub at_least : (e : Element) (n p q : ℕ) (above : 0 < q) → IsRising e → n ≤ 180000000000
    → 10 ^ 28 * p ≤ scaled_resistance e n * q → ratio p q above ≤ℚ resistance e (nanodegrees n)
at_least e n p q above rising h k =
    le_same (same_refl (ratio p q above)) (same_sym (resistance-nanodegrees e n rising h))
    (ratio-le p q (scaled_resistance e n) (10 ^ 28) above (lit< tt) (omega arith))

pub of_at_least : (e : Element) (n p q : ℕ) (above : 0 < q) → IsRising e → n ≤ 180000000000
    → ratio p q above ≤ℚ resistance e (nanodegrees n) → 10 ^ 28 * p ≤ scaled_resistance e n * q
of_at_least e n p q above rising h k =
    omega (arith, le-ratio p q (scaled_resistance e n) (10 ^ 28) above (lit< tt) (le_same (same_refl (ratio p q above)) (resistance-nanodegrees e n rising h) k))
