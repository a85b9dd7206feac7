-- The published sums as polynomials of y / 4 and of 1 / y.
use Rattle.std.proofs.Common.{◌≡◌, ◌≢◌, ℕ, zero, suc, ◌*◌, ◌^◌, arith, lit<, refl, ℤ, pos, negsuc, ◌*ℤ◌, List, [], ◌∷◌, Bool, true, false, cond, nat_lt}
use Rattle.std.proofs.lemmas.Int.{ints}
use Rattle.std.proofs.lemmas.Bool.{and_parts, ltb-true, cond-true, cond-false}
use Rattle.std.proofs.lemmas.Bool.Decides.{Decides-int_eq}
use Rattle.std.specs.Prelude.{◌&&◌}
use Rattle.std.specs.Ordering.{int_eq}
use lib.IntN.{◌-ℤ◌}
use Rattle.number_model.specs.Fraction.{Fraction, ◌+ℚ◌, ◌*ℚ◌, ◌≈◌, whole, part, power, inverse}
use Rattle.number_model.proofs.Ints.{as_diff, same_diff, ring}
use Rattle.number_model.proofs.Same.{same_refl, same_sym, same_trans, same_mul, same_add}
use Rattle.number_model.proofs.Powers.{power-mul, power-part}
use Rattle.water_model.specs.Decimal.{whole_power}
use Rattle.water_model.specs.Region1.{Row, region1}
use Rattle.water_model.specs.Water.{sum_over, g_pi, g_tau}
use Rattle.table_model.specs.Tables.{pi_factor, tau_factor, volume_up, volume_down, heat_up, heat_down, polynomial}
use Rattle.number_model.proofs.Laws.{zero_add, add_zero}
use Rattle.region1_algebra.proofs.Series.{polynomial_same, polynomial_none, polynomial_one, polynomial_sum, sum_add}
use Rattle.dec_tables.proofs.Sums.{sum_none}

-- the share of f y^j in the coefficients
abbrev up_share : Fraction → ℤ → ℕ → Fraction
up_share f j k = cond (int_eq j (pos k)) (f *ℚ whole (4 ^ k)) (whole 0)

abbrev down_share : Fraction → ℤ → ℕ → Fraction
down_share f j zero = whole 0
down_share f j (suc k) = cond (int_eq j (negsuc k)) f (whole 0)

eq_false : (j k : ℤ) → (j ≡ k → ⊥) → int_eq j k ≡ false
eq_false j k h = at (int_eq j k) (Decides-int_eq j k).0
  where
    at : (b : Bool) → (b ≡ true → j ≡ k) → b ≡ false
    at true d = absurd (h (d refl))
    at false d = refl

share_at : (j k : ℤ) (f : Fraction) → j ≡ k → cond (int_eq j k) f (whole 0) ≈ f
share_at j k f e = rw (cond-true (int_eq j k) f (whole 0) ((Decides-int_eq j k).1 e)) (same_refl f)

share_off : (j k : ℤ) (f : Fraction) → (j ≡ k → ⊥) → cond (int_eq j k) f (whole 0) ≈ whole 0
share_off j k f h = rw (cond-false (int_eq j k) f (whole 0) (eq_false j k h)) (same_refl (whole 0))

-- (f 4^n) (y / 4)^n = f y^n
quarters : (f y : Fraction) (n : ℕ) → ((f *ℚ whole (4 ^ n)) *ℚ power (y *ℚ part 4 (lit< tt)) n) ≈ (f *ℚ power y n)
quarters f y n =
    same_trans (same_mul (same_refl (f *ℚ whole (4 ^ n))) (same_trans (power-mul y (part 4 (lit< tt)) n) (same_mul (same_refl (power y n)) (power-part 4 n (lit< tt)))))
    (record { crossed = law f.num (power y n).num f.den (power y n).den (4 ^ n) })
  where
    law : (a c : ℤ) (b d q : ℕ) → ((a *ℤ pos q) *ℤ (c *ℤ pos 1)) *ℤ pos (b * d) ≡ (a *ℤ c) *ℤ pos ((b * 1) * (d * q))
    law a c b d q = rw (as_diff a, as_diff c) (simp ring (same_diff _ _ _ _ (omega arith)))

-- a row whose exponent the tables have
abbrev is_in : ℕ → ℕ → ℤ → Bool
is_in m n (pos a) = nat_lt a m
is_in m n (negsuc a) = nat_lt (suc a) n

row_tables : (m n : ℕ) (f y : Fraction) (j : ℤ) → is_in m n j ≡ true
    → (f *ℚ whole_power y j) ≈ (polynomial (up_share f j) m (y *ℚ part 4 (lit< tt)) +ℚ polynomial (down_share f j) n (inverse y))
unfolding whole_power
row_tables m n f y (pos a) h =
    let up : polynomial (up_share f (pos a)) m (y *ℚ part 4 (lit< tt)) ≈ ((f *ℚ whole (4 ^ a)) *ℚ power (y *ℚ part 4 (lit< tt)) a) =
    polynomial_one (up_share f (pos a)) (f *ℚ whole (4 ^ a)) m a (y *ℚ part 4 (lit< tt)) (ltb-true a m h) (share_at (pos a) (pos a) (f *ℚ whole (4 ^ a)) refl)
    (λ k d. share_off (pos a) (pos k) (f *ℚ whole (4 ^ k)) (λ e. omega (arith, ints, d, e))) in
    let none : (k : ℕ) → down_share f (pos a) k ≈ whole 0 = off in
    let down : polynomial (down_share f (pos a)) n (inverse y) ≈ whole 0 = polynomial_none (down_share f (pos a)) n (inverse y) (λ k b. off k) in
    same_sym (same_trans (same_add (same_trans up (quarters f y a)) down) (add_zero (f *ℚ power y a)))
  where
    off : (k : ℕ) → down_share f (pos a) k ≈ whole 0
    off zero = same_refl (whole 0)
    off (suc k) = share_off (pos a) (negsuc k) f (λ e. omega (arith, ints, e))
row_tables m n f y (negsuc a) h =
    let up : polynomial (up_share f (negsuc a)) m (y *ℚ part 4 (lit< tt)) ≈ whole 0 =
    polynomial_none (up_share f (negsuc a)) m (y *ℚ part 4 (lit< tt)) (λ k b. share_off (negsuc a) (pos k) (f *ℚ whole (4 ^ k)) (λ e. omega (arith, ints, e))) in
    let down : polynomial (down_share f (negsuc a)) n (inverse y) ≈ (f *ℚ power (inverse y) (suc a)) =
    polynomial_one (down_share f (negsuc a)) f n (suc a) (inverse y) (ltb-true (suc a) n h) (share_at (negsuc a) (negsuc a) f refl) off in
    same_sym (same_trans (same_add up down) (zero_add (f *ℚ power (inverse y) (suc a))))
  where
    off : (k : ℕ) → k ≢ suc a → down_share f (negsuc a) k ≈ whole 0
    off zero d = same_refl (whole 0)
    off (suc k) d = share_off (negsuc a) (negsuc k) f (λ e. omega (arith, ints, d, e))

module _ (m n : ℕ) (f : Row → Fraction) (j : Row → ℤ) where
  abbrev all_in : List Row → Bool
  all_in [] = true
  all_in (r ∷ rs) = is_in m n (j r) && all_in rs

  rows_tables : (y : Fraction) (rs : List Row) → all_in rs ≡ true
      → sum_over (λ r. f r *ℚ whole_power y (j r)) rs ≈ sum_over (λ r. polynomial (up_share (f r) (j r)) m (y *ℚ part 4 (lit< tt)) +ℚ polynomial (down_share (f r) (j r)) n (inverse y)) rs
  unfolding sum_over
  rows_tables y [] h = same_refl (whole 0)
  rows_tables y (r ∷ rs) h =
      let both = and_parts (is_in m n (j r)) (all_in rs) h in
      same_add (row_tables m n (f r) y (j r) both.0) (rows_tables y rs both.1)

  pub sum_tables : (up down : ℕ → Fraction) (y : Fraction) (rs : List Row) → all_in rs ≡ true
      → ((k : ℕ) → sum_over (λ r. up_share (f r) (j r) k) rs ≈ up k) → ((k : ℕ) → sum_over (λ r. down_share (f r) (j r) k) rs ≈ down k)
      → sum_over (λ r. f r *ℚ whole_power y (j r)) rs ≈ (polynomial up m (y *ℚ part 4 (lit< tt)) +ℚ polynomial down n (inverse y))
  sum_tables up down y rs h u d =
      same_trans (rows_tables y rs h)
      (same_trans (sum_add (λ r. polynomial (up_share (f r) (j r)) m (y *ℚ part 4 (lit< tt))) (λ r. polynomial (down_share (f r) (j r)) n (inverse y)) rs)
      (same_add
      (same_trans (same_sym (polynomial_sum (λ r. up_share (f r) (j r)) m (y *ℚ part 4 (lit< tt)) rs)) (polynomial_same _ up m (y *ℚ part 4 (lit< tt)) u))
      (same_trans (same_sym (polynomial_sum (λ r. down_share (f r) (j r)) n (inverse y) rs)) (polynomial_same _ down n (inverse y) d))))

down_zero : (f : Row → Fraction) (j : Row → ℤ) → sum_over (λ r. down_share (f r) (j r) 0) region1 ≈ whole 0
down_zero f j = sum_none (λ r. down_share (f r) (j r) 0) (λ r. same_refl (whole 0)) region1

module _ (x : Fraction) where
  volume_inside : all_in 18 42 (pi_factor x) (λ r. r.j) region1 ≡ true
  unfolding region1
  volume_inside = refl

  heat_inside : all_in 17 43 (tau_factor x) (λ r. r.j -ℤ pos 1) region1 ≡ true
  unfolding region1
  heat_inside = refl

  volume_falls : (k : ℕ) → sum_over (λ r. down_share (pi_factor x r) r.j k) region1 ≈ volume_down x k
  volume_falls zero = down_zero (pi_factor x) (λ r. r.j)
  volume_falls (suc k) = same_refl _

  heat_falls : (k : ℕ) → sum_over (λ r. down_share (tau_factor x r) (r.j -ℤ pos 1) k) region1 ≈ heat_down x k
  heat_falls zero = down_zero (tau_factor x) (λ r. r.j -ℤ pos 1)
  heat_falls (suc k) = same_refl _

  -- the derivative by the pressure
  pub pi_tables : (y : Fraction) → g_pi x y ≈ (polynomial (volume_up x) 18 (y *ℚ part 4 (lit< tt)) +ℚ polynomial (volume_down x) 42 (inverse y))
  pi_tables y = sum_tables 18 42 (pi_factor x) (λ r. r.j) (volume_up x) (volume_down x) y region1 volume_inside (λ k. same_refl _) volume_falls

  -- the derivative by the temperature
  pub tau_tables : (y : Fraction) → g_tau x y ≈ (polynomial (heat_up x) 17 (y *ℚ part 4 (lit< tt)) +ℚ polynomial (heat_down x) 43 (inverse y))
  tau_tables y = sum_tables 17 43 (tau_factor x) (λ r. r.j -ℤ pos 1) (heat_up x) (heat_down x) y region1 heat_inside (λ k. same_refl _) heat_falls
