-- Laws of sums and products of fractions.
use Rattle.std.proofs.Common.{◌≡◌, ℕ, ◌*◌, ap, ◌∙◌, arith, ℤ, pos, ◌+ℤ◌, ◌*ℤ◌, neg_ℤ}
use lib.IntN.{zero-*ℤ}
use Rattle.number_model.specs.Fraction.{Fraction, ◌+ℚ◌, ◌-ℚ◌, ◌*ℚ◌, ◌≈◌, whole}
use Rattle.number_model.proofs.Ints.{as_diff, same_diff, ring}
use Rattle.number_model.proofs.Same.{same_refl, same_sym, same_trans, same_mul, same_add, same_mul_comm, same_distrib}

pub zero_mul : (u : Fraction) → (whole 0 *ℚ u) ≈ whole 0
zero_mul u = record { crossed = ap (λ t. t *ℤ pos 1) (zero-*ℤ u.num) ∙ ap pos (none u.den) }
  where
    none : (b : ℕ) → 0 ≡ 0 * (1 * b)
    none b = omega arith

pub zero_add : (u : Fraction) → (whole 0 +ℚ u) ≈ u
zero_add u = record { crossed = law u.num u.den }
  where
    law : (a : ℤ) (b : ℕ) → (pos 0 *ℤ pos b +ℤ a *ℤ pos 1) *ℤ pos b ≡ a *ℤ pos (1 * b)
    law a b = rw (as_diff a) (simp ring (same_diff _ _ _ _ (omega arith)))

pub add_comm : (x y : Fraction) → (x +ℚ y) ≈ (y +ℚ x)
add_comm x y = record { crossed = law x.num y.num x.den y.den }
  where
    law : (a c : ℤ) (b d : ℕ) → (a *ℤ pos d +ℤ c *ℤ pos b) *ℤ pos (d * b) ≡ (c *ℤ pos b +ℤ a *ℤ pos d) *ℤ pos (b * d)
    law a c b d = rw (as_diff a, as_diff c) (simp ring (same_diff _ _ _ _ (omega arith)))

pub add_zero : (u : Fraction) → (u +ℚ whole 0) ≈ u
add_zero u = same_trans (add_comm u (whole 0)) (zero_add u)

pub add_assoc : (x y z : Fraction) → (x +ℚ (y +ℚ z)) ≈ ((x +ℚ y) +ℚ z)
add_assoc x y z = record { crossed = law x.num y.num z.num x.den y.den z.den }
  where
    law : (a c e : ℤ) (b d f : ℕ) → (a *ℤ pos (d * f) +ℤ (c *ℤ pos f +ℤ e *ℤ pos d) *ℤ pos b) *ℤ pos ((b * d) * f) ≡ ((a *ℤ pos d +ℤ c *ℤ pos b) *ℤ pos f +ℤ e *ℤ pos (b * d)) *ℤ pos (b * (d * f))
    law a c e b d f = rw (as_diff a, as_diff c, as_diff e) (simp ring (same_diff _ _ _ _ (omega arith)))

pub distrib_right : (x y u : Fraction) → ((x +ℚ y) *ℚ u) ≈ (x *ℚ u +ℚ y *ℚ u)
distrib_right x y u =
    same_trans (same_mul_comm (x +ℚ y) u) (same_trans (same_distrib u x y) (same_add (same_mul_comm u x) (same_mul_comm u y)))

-- moves in sums of four

-- (a + b) + (e + k) = (k + (e + a)) + b
pub gather : (a b e k : Fraction) → ((a +ℚ b) +ℚ (e +ℚ k)) ≈ ((k +ℚ (e +ℚ a)) +ℚ b)
gather a b e k =
    same_trans (add_comm (a +ℚ b) (e +ℚ k))
    (same_trans (add_assoc (e +ℚ k) a b)
    (same_add (same_trans (same_add (add_comm e k) (same_refl a)) (same_sym (add_assoc k e a))) (same_refl b)))

-- (t - c) u + c u = t u
pub undo : (t c u : Fraction) → ((t -ℚ c) *ℚ u +ℚ c *ℚ u) ≈ (t *ℚ u)
undo t c u =
    same_trans (same_sym (distrib_right (t -ℚ c) c u)) (same_mul back (same_refl u))
  where
    law : (a e : ℤ) (b d : ℕ) → ((a *ℤ pos d +ℤ neg_ℤ e *ℤ pos b) *ℤ pos d +ℤ e *ℤ pos (b * d)) *ℤ pos b ≡ a *ℤ pos ((b * d) * d)
    law a e b d = rw (as_diff a, as_diff e) (simp ring (same_diff _ _ _ _ (omega arith)))

    back : ((t -ℚ c) +ℚ c) ≈ t
    back = record { crossed = law t.num c.num t.den c.den }
