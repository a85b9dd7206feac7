-- The ends of the coefficients of the volume's polynomials, from those of x / 8, and the ends of a polynomial.
use Rattle.std.proofs.Common.{◌≡◌, ℕ, zero, suc, ◌-◌, ◌*◌, ◌^◌, arith, ℤ, pos, negsuc, ◌*ℤ◌, List, [], ◌∷◌, Bool, true, false, cond}
use Rattle.std.specs.Ordering.{int_eq}
use Rattle.number_model.specs.Fraction.{Fraction, ◌*ℚ◌, ◌≈◌, neg_ℚ, power, whole}
use Rattle.number_model.proofs.Ints.{as_diff, same_diff, ring}
use Rattle.number_model.proofs.Same.{same_refl, same_trans, same_mul, Holds-same}
use Rattle.water_model.specs.Region1.{Row, region1}
use Rattle.water_model.specs.Water.{coefficient, sum_over}
use Rattle.table_model.specs.Tables.{eighth_of, pi_factor, volume_up, volume_down, polynomial}
use Rattle.dec_tables.proofs.Shares.{eighth_power}
use Rattle.region1_ranges.proofs.Ends.{Ends, Between, Between-nothing, Between-fraction, Between-plus, Between-times, Between-raised, nothing, of_fraction, plus, times, raised}

-- ---- one row: -n I x^(I - 1)
unfoldable pub row_ends : Ends → Row → Ends
row_ends e r = times (of_fraction ((neg_ℚ (coefficient r) *ℚ whole r.i) *ℚ whole (8 ^ (r.i - 1)))) (raised e (r.i - 1))

eighths : (c x : Fraction) (a : ℕ) → ((c *ℚ whole (8 ^ a)) *ℚ power (eighth_of x) a) ≈ (c *ℚ power x a)
eighths c x a =
    same_trans (same_mul (same_refl (c *ℚ whole (8 ^ a))) (eighth_power x a))
    (record { crossed = law c.num (power x a).num c.den (power x a).den (8 ^ a) })
  where
    law : (m e : ℤ) (b d p : ℕ) → ((m *ℤ pos p) *ℤ (e *ℤ pos 1)) *ℤ pos (b * d) ≡ (m *ℤ e) *ℤ pos ((b * 1) * (d * p))
    law m e b d p = rw (as_diff m, as_diff e) (simp ring (same_diff _ _ _ _ (omega arith)))

Between-row : (e : Ends) (x : Fraction) (r : Row) → Between e (eighth_of x) → Between (row_ends e r) (pi_factor x r)
unfolding row_ends
Between-row e x r p =
    let c = neg_ℚ (coefficient r) *ℚ whole r.i in
    record {
      holds = Holds-same (eighths c x (r.i - 1))
          (Between-times (of_fraction (c *ℚ whole (8 ^ (r.i - 1)))) (raised e (r.i - 1)) _ _ (Between-fraction (c *ℚ whole (8 ^ (r.i - 1)))) (Between-raised e (eighth_of x) (r.i - 1) p)).holds;
    }

-- ---- the sum over the rows where the test is true
unfoldable pub sum_where_ends : (Row → Bool) → (Row → Ends) → List Row → Ends
sum_where_ends test f [] = nothing
sum_where_ends test f (r ∷ rs) = plus (cond (test r) (f r) nothing) (sum_where_ends test f rs)

Between-where : (test : Row → Bool) (f : Row → Ends) (g : Row → Fraction) → ((r : Row) → Between (f r) (g r)) → (rs : List Row)
    → Between (sum_where_ends test f rs) (sum_over (λ r. cond (test r) (g r) (whole 0)) rs)
unfolding sum_where_ends sum_over
Between-where test f g h [] = Between-nothing
Between-where test f g h (r ∷ rs) = Between-plus (cond (test r) (f r) nothing) (sum_where_ends test f rs) _ _ (at (test r)) (Between-where test f g h rs)
  where
    at : (b : Bool) → Between (cond b (f r) nothing) (cond b (g r) (whole 0))
    at true = h r
    at false = Between-nothing

-- ---- the coefficients of y / 4 and of 1 / y
unfoldable pub up_ends : Ends → ℕ → Ends
up_ends e k = sum_where_ends (λ r. int_eq r.j (pos k)) (λ r. times (row_ends e r) (of_fraction (whole (4 ^ k)))) region1

pub Between-up : (e : Ends) (x : Fraction) (k : ℕ) → Between e (eighth_of x) → Between (up_ends e k) (volume_up x k)
unfolding up_ends
Between-up e x k p =
    Between-where (λ r. int_eq r.j (pos k)) (λ r. times (row_ends e r) (of_fraction (whole (4 ^ k)))) (λ r. pi_factor x r *ℚ whole (4 ^ k))
    (λ r. Between-times (row_ends e r) (of_fraction (whole (4 ^ k))) (pi_factor x r) (whole (4 ^ k)) (Between-row e x r p) (Between-fraction (whole (4 ^ k)))) region1

unfoldable pub down_ends : Ends → ℕ → Ends
down_ends e zero = nothing
down_ends e (suc n) = sum_where_ends (λ r. int_eq r.j (negsuc n)) (row_ends e) region1

pub Between-down : (e : Ends) (x : Fraction) (k : ℕ) → Between e (eighth_of x) → Between (down_ends e k) (volume_down x k)
unfolding down_ends
Between-down e x zero p = Between-nothing
Between-down e x (suc n) p = Between-where (λ r. int_eq r.j (negsuc n)) (row_ends e) (pi_factor x) (λ r. Between-row e x r p) region1

-- ---- polynomials
unfoldable pub polynomial_ends : (ℕ → Ends) → ℕ → Ends → Ends
polynomial_ends c zero z = nothing
polynomial_ends c (suc n) z = plus (polynomial_ends c n z) (times (c n) (raised z n))

pub Between-polynomial : (c : ℕ → Ends) (f : ℕ → Fraction) (n : ℕ) (z : Ends) (y : Fraction) → ((k : ℕ) → Between (c k) (f k)) → Between z y → Between (polynomial_ends c n z) (polynomial f n y)
unfolding polynomial_ends polynomial
Between-polynomial c f zero z y h p = Between-nothing
Between-polynomial c f (suc n) z y h p =
    Between-plus (polynomial_ends c n z) (times (c n) (raised z n)) _ _ (Between-polynomial c f n z y h p) (Between-times (c n) (raised z n) (f n) (power y n) (h n) (Between-raised z y n p))
