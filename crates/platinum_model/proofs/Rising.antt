-- The resistance rises from 0 to 180 °C, and one resistance above another shows a temperature above the other.
use Rattle.std.proofs.Common.{ℕ, ◌*◌, ◌<◌, ◌≤◌, arith, ℤ, pos, negsuc, ◌*ℤ◌, ◌≤ℤ◌}
use Rattle.std.proofs.lemmas.Int.{ints}
use native.Mathlib.Nat.{mul-le-mul_right, le_of_mul-le-mul_right}
use Rattle.number_model.specs.Fraction.{Fraction, ◌≤ℚ◌, whole}
use Rattle.platinum_model.specs.Element.{Element, resistance}
use Rattle.platinum_model.proofs.Curve.{IsRising, ratio_rises, ratio_reflects}

over : ℤ → (d : ℕ) → 0 < d → Fraction
over n d above = record { num = n; den = d; positive = above }

at_most_180 : (n d : ℕ) → (pos n *ℤ pos 1) ≤ℤ (pos 180 *ℤ pos d) → n ≤ 180 * d
at_most_180 n d h = omega (arith, ints)

cross : (m c n d : ℕ) → (pos m *ℤ pos d) ≤ℤ (pos n *ℤ pos c) → m * d ≤ n * c
cross m c n d h = omega (arith, ints)

cross_back : (m c n d : ℕ) → m * d ≤ n * c → (pos m *ℤ pos d) ≤ℤ (pos n *ℤ pos c)
cross_back m c n d h = omega (arith, ints)

no_low : (n d : ℕ) → (pos 0 *ℤ pos d) ≤ℤ (negsuc n *ℤ pos 1) → ⊥
no_low n d h = omega (arith, ints)

below_180 : (m c n d : ℕ) → 0 < d → m * d ≤ n * c → n ≤ 180 * d → m ≤ 180 * c
below_180 m c n d above h k =
    let scaled : m * d ≤ 180 * c * d = omega (arith, mul-le-mul_right c k) in
    le_of_mul-le-mul_right scaled above

rises : (e : Element) (a z : ℤ) (c d : ℕ) (c_pos : 0 < c) (d_pos : 0 < d) → IsRising e
    → (pos 0 *ℤ pos c) ≤ℤ (a *ℤ pos 1) → (a *ℤ pos d) ≤ℤ (z *ℤ pos c) → (z *ℤ pos 1) ≤ℤ (pos 180 *ℤ pos d)
    → resistance e (record { num = a; den = c; positive = c_pos }) ≤ℚ resistance e (record { num = z; den = d; positive = d_pos })
rises e (pos m) (pos n) c d c_pos d_pos rising low order high =
    let within : n ≤ 180 * d = at_most_180 n d high in
    ratio_rises e m c n d c_pos d_pos rising (below_180 m c n d d_pos (cross m c n d order) within) within (cross m c n d order)
rises e (pos m) (negsuc n) c d c_pos d_pos rising low order high = absurd (fall m c n d c_pos d_pos order)
  where
    fall : (m c n d : ℕ) → 0 < c → 0 < d → (pos m *ℤ pos d) ≤ℤ (negsuc n *ℤ pos c) → ⊥
    fall m c n d above above' h = omega (arith, ints)
rises e (negsuc m) z c d c_pos d_pos rising low order high = absurd (no_low m c low)

reflects : (e : Element) (a z : ℤ) (c d : ℕ) (c_pos : 0 < c) (d_pos : 0 < d) → IsRising e
    → (pos 0 *ℤ pos c) ≤ℤ (a *ℤ pos 1) → (a *ℤ pos 1) ≤ℤ (pos 180 *ℤ pos c)
    → (pos 0 *ℤ pos d) ≤ℤ (z *ℤ pos 1) → (z *ℤ pos 1) ≤ℤ (pos 180 *ℤ pos d)
    → resistance e (record { num = a; den = c; positive = c_pos }) ≤ℚ resistance e (record { num = z; den = d; positive = d_pos })
    → (a *ℤ pos d) ≤ℤ (z *ℤ pos c)
reflects e (pos m) (pos n) c d c_pos d_pos rising low high low' high' order =
    cross_back m c n d (ratio_reflects e n d m c d_pos c_pos rising (at_most_180 n d high') (at_most_180 m c high) order)
reflects e (pos m) (negsuc n) c d c_pos d_pos rising low high low' high' order = absurd (no_low n d low')
reflects e (negsuc m) z c d c_pos d_pos rising low high low' high' order = absurd (no_low m c low)

pub resistance-rises : (e : Element) (s t : Fraction) → IsRising e → whole 0 ≤ℚ s → s ≤ℚ t → t ≤ℚ whole 180 → resistance e s ≤ℚ resistance e t
resistance-rises e s t rising low order high = rises e s.num t.num s.den t.den s.positive t.positive rising low.crossed order.crossed high.crossed

pub resistance-reflects : (e : Element) (s t : Fraction) → IsRising e → whole 0 ≤ℚ s → s ≤ℚ whole 180 → whole 0 ≤ℚ t → t ≤ℚ whole 180
    → resistance e s ≤ℚ resistance e t → s ≤ℚ t
resistance-reflects e s t rising low high low' high' order = record {
  crossed = reflects e s.num t.num s.den t.den s.positive t.positive rising low.crossed high.crossed low'.crossed high'.crossed order;
}
