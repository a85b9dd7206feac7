-- The factors beside the sums, and a sum c0 + c1 y that is divided by tau.
use Rattle.std.proofs.Common.{◌≡◌, ℕ, zero, suc, ◌*◌, ◌<◌, ap, arith, lit<, ℤ, pos, negsuc, ◌*ℤ◌, ◌≤ℤ◌}
use Rattle.std.proofs.lemmas.Int.{ints}
use Rattle.number_model.specs.Fraction.{Fraction, ◌+ℚ◌, ◌*ℚ◌, ◌/ℚ◌, ◌≈◌, whole, part, inverse_of}
use Rattle.number_model.proofs.Ints.{as_diff, same_diff, ring}
use Rattle.number_model.proofs.Same.{same_refl, same_sym, same_trans, same_mul, same_add, same_mul_assoc, same_mul_comm, same_distrib}
use Rattle.number_model.proofs.Powers.{one_mul}
use Rattle.water_model.specs.Decimal.{decimal, minus}
use Rattle.water_model.specs.Water.{kelvin, tau_of, x_of, y_of, gas_constant, g_tau, enthalpy}
use Rattle.region1_algebra.specs.Forms.{volume_factor, heat_factor, u_of, r_of}
use Rattle.number_model.proofs.Laws.{add_comm, add_assoc, distrib_right, undo}

-- ---- tau * u = 1
unit_at : (num : ℤ) (den : ℕ) (above : 0 < den) (h : 0 < 1386) → pos 1 ≤ℤ num
    → ((whole 1386 *ℚ inverse_of num den) *ℚ (record { num = num; den = den; positive = above } *ℚ part 1386 h)) ≈ whole 1
unit_at (pos zero) den above h p = absurd (omega (arith, ints, p))
unit_at (pos (suc n)) den above h p = record { crossed = ap pos (omega arith) }
unit_at (negsuc n) den above h p = absurd (omega (arith, ints, p))

-- y * u + 1.222 * u = 1
pub unit : (t : Fraction) → pos 1 ≤ℤ (kelvin t).num → (r_of t +ℚ decimal (pos 1222) (minus 3) *ℚ u_of t) ≈ whole 1
unit t p = same_trans (undo (tau_of t) (decimal (pos 1222) (minus 3)) (u_of t)) (unit_at (kelvin t).num (kelvin t).den (kelvin t).positive (lit< tt) p)

-- (c0 + c1 y) u = k u + c1, where c0 = k + c c1 and y u + c u = 1
pub pair_joined : (c0 c1 k c y u : Fraction) → c0 ≈ (k +ℚ c *ℚ c1) → (y *ℚ u +ℚ c *ℚ u) ≈ whole 1
    → ((c0 +ℚ c1 *ℚ y) *ℚ u) ≈ (k *ℚ u +ℚ c1)
pair_joined c0 c1 k c y u split one =
    let first : (c0 *ℚ u) ≈ (k *ℚ u +ℚ c1 *ℚ (c *ℚ u)) =
    same_trans (same_mul split (same_refl u)) (same_trans (distrib_right k (c *ℚ c1) u)
    (same_add (same_refl (k *ℚ u)) (same_trans (same_mul (same_mul_comm c c1) (same_refl u)) (same_mul_assoc c1 c u)))) in
    let rest : (c1 *ℚ (c *ℚ u) +ℚ c1 *ℚ (y *ℚ u)) ≈ c1 =
    same_trans (same_sym (same_distrib c1 (c *ℚ u) (y *ℚ u))) (same_trans (same_mul (same_refl c1) (same_trans (add_comm (c *ℚ u) (y *ℚ u)) one)) (one_mul c1)) in
    same_trans (distrib_right c0 (c1 *ℚ y) u)
    (same_trans (same_add first (same_mul_assoc c1 y u))
    (same_trans (same_sym (add_assoc (k *ℚ u) (c1 *ℚ (c *ℚ u)) (c1 *ℚ (y *ℚ u)))) (same_add (same_refl (k *ℚ u)) rest)))

-- R K g / 16530 = (1386 R / 16530) (g (K / 1386))
pub regroup : (k g : Fraction) → (gas_constant *ℚ k *ℚ g /ℚ whole 16530) ≈ (volume_factor *ℚ (g *ℚ (k *ℚ part 1386 (lit< tt))))
regroup k g = record { crossed = law k.num g.num k.den g.den }
  where
    law : (a e : ℤ) (b d : ℕ) → (((pos 461526 *ℤ a) *ℤ e) *ℤ pos 1) *ℤ pos (16530000000 * (d * (b * 1386))) ≡ (pos 639675036 *ℤ (e *ℤ (a *ℤ pos 1))) *ℤ pos (((1000000 * b) * d) * (1 * 16530))
    law a e b d = rw (as_diff a, as_diff e) (simp ring (same_diff _ _ _ _ (omega arith)))

-- R * 1386
heat_factor_is : (g : Fraction) → (gas_constant *ℚ whole 1386 *ℚ g) ≈ (heat_factor *ℚ g)
heat_factor_is g = record { crossed = law g.num g.den }
  where
    law : (e : ℤ) (d : ℕ) → (pos (461526 * 1386) *ℤ e) *ℤ pos (1000000 * d) ≡ (pos 639675036 *ℤ e) *ℤ pos ((1000000 * 1) * d)
    law e d = rw (as_diff e) (simp ring (same_diff _ _ _ _ (omega arith)))

pub enthalpy_is : (p : ℕ) (t : Fraction) → (heat_factor *ℚ g_tau (x_of p) (y_of t)) ≈ enthalpy p t
unfolding enthalpy
enthalpy_is p t = same_sym (heat_factor_is (g_tau (x_of p) (y_of t)))
