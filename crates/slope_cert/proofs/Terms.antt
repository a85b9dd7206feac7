-- One term: the quotient of its derivative by tau over two temperatures lies between its curvatures at the two.
use Rattle.std.proofs.Common.{◌≡◌, ℕ, ◌+◌, ◌*◌, ◌<◌, arith, ℤ, pos, neg_ℤ, ◌+ℤ◌, ◌*ℤ◌}
use Rattle.std.proofs.lemmas.Int.{ints}
use lib.IntN.{◌-ℤ◌}
use Rattle.number_model.specs.Fraction.{Fraction, ◌-ℚ◌, ◌*ℚ◌, ◌≈◌, power, inverse}
use Rattle.number_model.specs.Enclosure.{Holds}
use Rattle.number_model.proofs.Ints.{as_diff, same_diff, ring}
use Rattle.platinum_model.proofs.Order.{same_neg}
use Rattle.number_model.proofs.Powers.{same_mul_mul}
use Rattle.number_model.proofs.Same.{same_refl, same_sym, same_trans, same_mul, same_add, same_mul_assoc, Holds-same}
use Rattle.water_model.specs.Decimal.{decimal, integer, whole_power}
use Rattle.dec_tables.specs.declared.table.Term.{Term}
use Rattle.dec_tables.specs.Coefficients.{coefficient_of}
use Rattle.region1_algebra.specs.Terms.{value_of, tau_derivative_of}
use Rattle.water_model.proofs.Decimals.{times_integer}
use Rattle.region1_terms.proofs.Temperatures.{ratio}
use Rattle.slope_cert.specs.Curvature.{curvature_of}
use Rattle.slope_cert.proofs.Order.{Quotient, Quotient-same, Quotient-scaled}
use Rattle.slope_cert.proofs.Convex.{power_at, power_is, IsConvex, convex}

-- y1 = a / n and y2 = b / n are e / n apart, all above 0
pub record Apart (y1 y2 : Fraction) (a b e n : ℕ) : Type 0 where
  pub a_above : 0 < a
  pub b_above : 0 < b
  pub e_above : 0 < e
  pub n_above : 0 < n
  pub apart : a ≡ b + e
  pub first : y1 ≈ ratio a n n_above
  pub first_inverse : inverse y1 ≈ ratio n a a_above
  pub second : y2 ≈ ratio b n n_above
  pub second_inverse : inverse y2 ≈ ratio n b b_above

pub same_sub : {x x' y y' : Fraction} → x ≈ x' → y ≈ y' → (x -ℚ y) ≈ (x' -ℚ y')
same_sub h k = same_add h (same_neg k)

pub sub_scaled : (c x y : Fraction) → (c *ℚ x -ℚ c *ℚ y) ≈ (c *ℚ (x -ℚ y))
sub_scaled c x y = record { crossed = law c.num x.num y.num c.den x.den y.den }
  where
    law : (e a g : ℤ) (f b d : ℕ) → ((e *ℤ a) *ℤ pos (f * d) +ℤ neg_ℤ (e *ℤ g) *ℤ pos (f * b)) *ℤ pos (f * (b * d)) ≡ (e *ℤ (a *ℤ pos d +ℤ neg_ℤ g *ℤ pos b)) *ℤ pos ((f * b) * (f * d))
    law e a g f b d = rw (as_diff e, as_diff a, as_diff g) (simp ring (same_diff _ _ _ _ (omega arith)))

arrange : (d k x w : Fraction) → ((d *ℚ k) *ℚ x *ℚ w) ≈ ((d *ℚ x) *ℚ (k *ℚ w))
arrange d k x w = same_trans (same_mul_assoc (d *ℚ k) x w) (same_mul_mul d k x w)

-- -J (J - 1) n = (1 - J) (J n)
factors : (j k m : ℤ) → neg_ℤ k *ℤ (j *ℤ m) ≡ neg_ℤ (j *ℤ k *ℤ m)
factors j k m = rw (as_diff j, as_diff k, as_diff m) (simp ring (same_diff _ _ _ _ (omega arith)))

module _ (x y1 y2 : Fraction) (a b e n : ℕ) (w : Apart y1 y2 a b e n) (t : Term) where
  abbrev factor : Fraction
  factor = coefficient_of (tau_derivative_of t) *ℚ power x t.i

  abbrev slope_of : (c : ℕ) → 0 < c → Fraction
  slope_of c above = integer (neg_ℤ (t.j -ℤ pos 1)) *ℚ power_at c n above w.n_above (t.j -ℤ pos 2)

  curvature_is : (y : Fraction) (c : ℕ) (above : 0 < c) → whole_power y (t.j -ℤ pos 2) ≈ power_at c n above w.n_above (t.j -ℤ pos 2) → value_of x y (curvature_of t) ≈ (factor *ℚ slope_of c above)
  curvature_is y c above h =
      let k = neg_ℤ (t.j -ℤ pos 1) in
      let coefficient : (decimal (t.j *ℤ t.mantissa) t.exp10 *ℚ integer k) ≈ decimal (neg_ℤ (t.j *ℤ (t.j -ℤ pos 1) *ℤ t.mantissa)) t.exp10 =
      rw (← factors t.j (t.j -ℤ pos 1) t.mantissa) (times_integer (t.j *ℤ t.mantissa) t.exp10 k) in
      same_trans (same_mul (same_mul (same_sym coefficient) (same_refl (power x t.i))) h)
      (arrange (decimal (t.j *ℤ t.mantissa) t.exp10) (integer k) (power x t.i) (power_at c n above w.n_above (t.j -ℤ pos 2)))

  pub term_quotient : (lo hi : ℤ) → Holds 56 lo hi (value_of x y1 (curvature_of t)) → Holds 56 lo hi (value_of x y2 (curvature_of t))
      → Quotient 56 lo hi (value_of x y2 (tau_derivative_of t) -ℚ value_of x y1 (tau_derivative_of t)) (ratio e n w.n_above)
  term_quotient lo hi p q =
      let j = t.j -ℤ pos 1 in
      let before : (t.j -ℤ pos 2) +ℤ pos 1 ≡ t.j -ℤ pos 1 = omega (arith, ints) in
      let bounds : IsConvex a b e n w.a_above w.b_above w.n_above (t.j -ℤ pos 1) (t.j -ℤ pos 2) = convex a b e n w.a_above w.b_above w.n_above w.apart (t.j -ℤ pos 1) (t.j -ℤ pos 2) before in
      let powers : (value_of x y2 (tau_derivative_of t) -ℚ value_of x y1 (tau_derivative_of t)) ≈ (factor *ℚ (power_at b n w.b_above w.n_above j -ℚ power_at a n w.a_above w.n_above j)) =
      same_trans (sub_scaled factor (whole_power y2 j) (whole_power y1 j))
      (same_mul (same_refl factor) (same_sub (power_is y2 b n w.b_above w.n_above w.second w.second_inverse j) (power_is y1 a n w.a_above w.n_above w.first w.first_inverse j))) in
      Quotient-same (same_sym powers)
      (Quotient-scaled 56 lo hi factor (slope_of a w.a_above) (slope_of b w.b_above) _ e n w.n_above bounds.low bounds.high
      (Holds-same (curvature_is y1 a w.a_above (power_is y1 a n w.a_above w.n_above w.first w.first_inverse (t.j -ℤ pos 2))) p)
      (Holds-same (curvature_is y2 b w.b_above (power_is y2 b n w.b_above w.n_above w.second w.second_inverse (t.j -ℤ pos 2))) q))
