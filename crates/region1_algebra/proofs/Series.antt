-- Polynomials whose coefficients are sums with one share for each element of a list.
use Rattle.std.proofs.Common.{◌≡◌, ◌≢◌, ℕ, zero, suc, ◌<◌, arith, inl, inr, List, [], ◌∷◌}
use Rattle.std.proofs.lemmas.Bool.{cases_lt}
use Rattle.number_model.specs.Fraction.{Fraction, ◌+ℚ◌, ◌*ℚ◌, ◌≈◌, whole, power}
use Rattle.number_model.proofs.Same.{same_refl, same_sym, same_trans, same_mul, same_add}
use Rattle.water_model.specs.Water.{sum_over}
use Rattle.table_model.specs.Tables.{polynomial}
use Rattle.number_model.proofs.Laws.{zero_mul, zero_add, add_zero, add_comm, add_assoc, distrib_right}

-- (a + b) + (d + e) = (a + d) + (b + e)
pub add_across : (a b d e : Fraction) → ((a +ℚ b) +ℚ (d +ℚ e)) ≈ ((a +ℚ d) +ℚ (b +ℚ e))
add_across a b d e =
    same_trans (add_assoc (a +ℚ b) d e)
    (same_trans (same_add (same_trans (same_sym (add_assoc a b d)) (same_trans (same_add (same_refl a) (add_comm b d)) (add_assoc a d b))) (same_refl e))
    (same_sym (add_assoc (a +ℚ d) b e)))

pub polynomial_same : (a b : ℕ → Fraction) (n : ℕ) (z : Fraction) → ((k : ℕ) → a k ≈ b k) → polynomial a n z ≈ polynomial b n z
unfolding polynomial
polynomial_same a b zero z h = same_refl (whole 0)
polynomial_same a b (suc n) z h = same_add (polynomial_same a b n z h) (same_mul (h n) (same_refl (power z n)))

pub polynomial_none : (c : ℕ → Fraction) (n : ℕ) (z : Fraction) → ((k : ℕ) → k < n → c k ≈ whole 0) → polynomial c n z ≈ whole 0
unfolding polynomial
polynomial_none c zero z h = same_refl (whole 0)
polynomial_none c (suc n) z h =
    same_trans (same_add (polynomial_none c n z (λ k b. h k (omega (arith, b)))) (same_trans (same_mul (h n (omega arith)) (same_refl (power z n))) (zero_mul (power z n))))
    (zero_add (whole 0))

-- one coefficient alone
pub polynomial_one : (c : ℕ → Fraction) (g : Fraction) (n j : ℕ) (z : Fraction) → j < n → c j ≈ g → ((k : ℕ) → k ≢ j → c k ≈ whole 0) → polynomial c n z ≈ (g *ℚ power z j)
unfolding polynomial
polynomial_one c g zero j z few at none = absurd (omega (arith, few))
polynomial_one c g (suc n) j z few at none = elim (cases_lt j n) [
  | inl below ↦ (same_trans (same_add (polynomial_one c g n j z below at none) (same_trans (same_mul (none n (omega (arith, below))) (same_refl (power z n))) (zero_mul (power z n)))) (add_zero (g *ℚ power z j)))
  | inr above ↦ (let is : n ≡ j = omega (arith, few, above) in
      let last : (c n *ℚ power z n) ≈ (g *ℚ power z j) = rw is (same_mul at (same_refl (power z j))) in
      same_trans (same_add (polynomial_none c n z (λ k b. none k (omega (arith, b, is)))) last) (zero_add (g *ℚ power z j)))
]

pub polynomial_add : (a b : ℕ → Fraction) (n : ℕ) (z : Fraction) → polynomial (λ k. a k +ℚ b k) n z ≈ (polynomial a n z +ℚ polynomial b n z)
unfolding polynomial
polynomial_add a b zero z = same_sym (zero_add (whole 0))
polynomial_add a b (suc n) z =
    same_trans (same_add (polynomial_add a b n z) (distrib_right (a n) (b n) (power z n)))
    (add_across (polynomial a n z) (polynomial b n z) (a n *ℚ power z n) (b n *ℚ power z n))

-- the sums of shares are the coefficients of the sum of polynomials
pub polynomial_sum : {A : Type 0} (share : A → ℕ → Fraction) (n : ℕ) (z : Fraction) (rs : List A) → polynomial (λ k. sum_over (λ r. share r k) rs) n z ≈ sum_over (λ r. polynomial (share r) n z) rs
unfolding sum_over
polynomial_sum share n z [] = polynomial_none (λ k. whole 0) n z (λ k b. same_refl (whole 0))
polynomial_sum share n z (r ∷ rs) =
    same_trans (polynomial_add (share r) (λ k. sum_over (λ r. share r k) rs) n z)
    (same_add (same_refl (polynomial (share r) n z)) (polynomial_sum share n z rs))

pub sum_add : {A : Type 0} (f g : A → Fraction) (rs : List A) → sum_over (λ r. f r +ℚ g r) rs ≈ (sum_over f rs +ℚ sum_over g rs)
unfolding sum_over
sum_add f g [] = same_sym (zero_add (whole 0))
sum_add f g (r ∷ rs) =
    same_trans (same_add (same_refl (f r +ℚ g r)) (sum_add f g rs))
    (add_across (f r) (g r) (sum_over f rs) (sum_over g rs))
