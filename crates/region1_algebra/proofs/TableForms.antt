-- The forms of the volume and the enthalpy by tables are the published ones.
use Rattle.std.proofs.Common.{◌≡◌, ℕ, suc, ◌*◌, arith, lit<, ℤ, pos, neg_ℤ, ◌+ℤ◌, ◌*ℤ◌, ◌≤ℤ◌}
use Rattle.number_model.specs.Fraction.{Fraction, ◌+ℚ◌, ◌-ℚ◌, ◌*ℚ◌, ◌≈◌, whole, part, inverse}
use Rattle.number_model.proofs.Ints.{as_diff, same_diff, ring}
use Rattle.number_model.proofs.Same.{same_refl, same_sym, same_trans, same_mul, same_add, same_mul_assoc, same_mul_comm, same_distrib}
use Rattle.water_model.specs.Water.{kelvin, x_of, y_of, g_pi, volume, enthalpy}
use Rattle.table_model.specs.Tables.{volume_up, volume_down, polynomial}
use Rattle.region1_algebra.specs.Forms.{volume_factor, heat_factor, u_of, r_of}
use Rattle.region1_algebra.specs.TableForms.{y_offset, linear_of, higher_of, constant_of, table_volume, table_heat}
use Rattle.number_model.proofs.Laws.{add_comm, add_assoc, distrib_right, gather}
use Rattle.dec_tables.proofs.Horner.{polynomial_first}
use Rattle.region1_algebra.proofs.Tables.{pi_tables, tau_tables}
use Rattle.region1_algebra.proofs.Factors.{unit, pair_joined, regroup, enthalpy_is}

-- a = (a - b) + b
restored : (a b : Fraction) → a ≈ ((a -ℚ b) +ℚ b)
restored a b = record { crossed = law a.num b.num a.den b.den }
  where
    law : (a e : ℤ) (b d : ℕ) → a *ℤ pos ((b * d) * d) ≡ ((a *ℤ pos d +ℤ neg_ℤ e *ℤ pos b) *ℤ pos d +ℤ e *ℤ pos (b * d)) *ℤ pos b
    law a e b d = rw (as_diff a, as_diff e) (simp ring (same_diff _ _ _ _ (omega arith)))

-- (y / 4) c = (c / 4) y
moved : (y c : Fraction) → ((y *ℚ part 4 (lit< tt)) *ℚ c) ≈ ((c *ℚ part 4 (lit< tt)) *ℚ y)
moved y c = record { crossed = law y.num c.num y.den c.den }
  where
    law : (a e : ℤ) (b d : ℕ) → ((a *ℤ pos 1) *ℤ e) *ℤ pos ((d * 4) * b) ≡ ((e *ℤ pos 1) *ℤ a) *ℤ pos ((b * 4) * d)
    law a e b d = rw (as_diff a, as_diff e) (simp ring (same_diff _ _ _ _ (omega arith)))

arranged : (c b w d : Fraction) → ((c +ℚ (b +ℚ w)) +ℚ d) ≈ ((d +ℚ w) +ℚ (c +ℚ b))
arranged c b w d =
    same_trans (add_comm (c +ℚ (b +ℚ w)) d)
    (same_trans (same_add (same_refl d) (same_trans (add_assoc c b w) (add_comm (c +ℚ b) w))) (add_assoc d w (c +ℚ b)))

module _ (x y : Fraction) where
  up_split : polynomial (volume_up x) 18 (y *ℚ part 4 (lit< tt)) ≈ (volume_up x 0 +ℚ (linear_of x *ℚ y +ℚ higher_of x (y *ℚ part 4 (lit< tt)) *ℚ y))
  up_split =
      let q = y *ℚ part 4 (lit< tt) in
      let tail = polynomial (λ k. volume_up x (suc (suc k))) 16 q in
      let second : polynomial (λ k. volume_up x (suc k)) 17 q ≈ (volume_up x 1 +ℚ q *ℚ tail) =
      polynomial_first (λ k. volume_up x (suc k)) 16 q in
      let turned : (q *ℚ (q *ℚ tail)) ≈ (higher_of x q *ℚ y) =
      same_trans (moved y (q *ℚ tail)) (same_mul (same_mul (same_mul_comm q tail) (same_refl (part 4 (lit< tt)))) (same_refl y)) in
      same_trans (polynomial_first (volume_up x) 17 q)
      (same_add (same_refl (volume_up x 0))
      (same_trans (same_mul (same_refl q) second)
      (same_trans (same_distrib q (volume_up x 1) (q *ℚ tail))
      (same_add (moved y (volume_up x 1)) turned))))

  table_sum : (u : Fraction) → (y *ℚ u +ℚ y_offset *ℚ u) ≈ whole 1 → (g_pi x y *ℚ u) ≈ table_volume x y u (y *ℚ u)
  table_sum u one =
      let c0 = volume_up x 0 in
      let c1 = linear_of x in
      let down = polynomial (volume_down x) 42 (inverse y) in
      let high = higher_of x (y *ℚ part 4 (lit< tt)) in
      let sums : ((down +ℚ high *ℚ y) *ℚ u) ≈ (down *ℚ u +ℚ high *ℚ (y *ℚ u)) =
      same_trans (distrib_right down (high *ℚ y) u) (same_add (same_refl (down *ℚ u)) (same_mul_assoc high y u)) in
      same_trans (same_mul (same_trans (pi_tables x y) (same_trans (same_add up_split (same_refl down)) (arranged c0 (c1 *ℚ y) (high *ℚ y) down))) (same_refl u))
      (same_trans (distrib_right (down +ℚ high *ℚ y) (c0 +ℚ c1 *ℚ y) u)
      (same_trans (same_add sums (pair_joined c0 c1 (constant_of x) y_offset y u (restored c0 (y_offset *ℚ c1)) one))
      (same_trans (gather (down *ℚ u) (high *ℚ (y *ℚ u)) (constant_of x *ℚ u) c1)
      (same_add (same_add (same_refl c1) (same_sym (distrib_right (constant_of x) down u))) (same_refl (high *ℚ (y *ℚ u)))))))

pub volume_by_tables : (p : ℕ) (t : Fraction) → pos 1 ≤ℤ (kelvin t).num → (volume_factor *ℚ table_volume (x_of p) (y_of t) (u_of t) (r_of t)) ≈ volume p t
unfolding volume
volume_by_tables p t above =
    same_sym (same_trans (regroup (kelvin t) (g_pi (x_of p) (y_of t)))
    (same_mul (same_refl volume_factor) (table_sum (x_of p) (y_of t) (u_of t) (unit t above))))

pub enthalpy_by_tables : (p : ℕ) (t : Fraction) → (heat_factor *ℚ table_heat (x_of p) (y_of t)) ≈ enthalpy p t
enthalpy_by_tables p t = same_trans (same_mul (same_refl heat_factor) (same_sym (tau_tables (x_of p) (y_of t)))) (enthalpy_is p t)
