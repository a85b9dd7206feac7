-- Powers of fractions.
use Rattle.std.proofs.Common.{◌≡◌, ℕ, zero, suc, ◌+◌, ◌*◌, ◌^◌, ◌<◌, refl, arith, ℤ, pos, ◌*ℤ◌}
use Rattle.std.proofs.lemmas.Int.{ints}
use Rattle.std.proofs.Math.Nat.{add-zero, add-suc, mul-zero, mul-suc, one-le-pow, pow-zero, pow-suc}
use Rattle.number_model.specs.Fraction.{Fraction, ◌*ℚ◌, ◌≈◌, whole, part, power}
use Rattle.number_model.proofs.Ints.{as_diff, same_diff, ring}
use Rattle.number_model.proofs.Same.{same_refl, same_sym, same_trans, same_mul, same_mul_assoc}

pub one_mul : (x : Fraction) → (x *ℚ whole 1) ≈ x
one_mul x = record { crossed = law x.num x.den }
  where
    law : (a : ℤ) (b : ℕ) → (a *ℤ pos 1) *ℤ pos b ≡ a *ℤ pos (b * 1)
    law a b = rw (as_diff a) (simp ring (same_diff _ _ _ _ (omega arith)))

pub power-add : (x : Fraction) (m n : ℕ) → power x (m + n) ≈ (power x m *ℚ power x n)
unfolding power
power-add x m zero = rw add-zero (same_sym (one_mul (power x m)))
power-add x m (suc n) = rw add-suc (same_trans (same_mul (power-add x m n) (same_refl x)) (same_mul_assoc (power x m) (power x n) x))

pub same_power : {x y : Fraction} (n : ℕ) → x ≈ y → power x n ≈ power y n
unfolding power
same_power zero h = same_refl (whole 1)
same_power (suc n) h = same_mul (same_power n h) h

-- (x * y) * (z * w) = (x * z) * (y * w)
pub same_mul_mul : (x y z w : Fraction) → ((x *ℚ y) *ℚ (z *ℚ w)) ≈ ((x *ℚ z) *ℚ (y *ℚ w))
same_mul_mul x y z w = record { crossed = law x.num y.num z.num w.num x.den y.den z.den w.den }
  where
    law : (a c e g : ℤ) (b d f h : ℕ) → ((a *ℤ c) *ℤ (e *ℤ g)) *ℤ pos ((b * f) * (d * h)) ≡ ((a *ℤ e) *ℤ (c *ℤ g)) *ℤ pos ((b * d) * (f * h))
    law a c e g b d f h = rw (as_diff a, as_diff c, as_diff e, as_diff g) (simp ring (same_diff _ _ _ _ (omega arith)))

pub power-mul : (x y : Fraction) (n : ℕ) → power (x *ℚ y) n ≈ (power x n *ℚ power y n)
unfolding power
power-mul x y zero = same_sym (one_mul (whole 1))
power-mul x y (suc n) = same_trans (same_mul (power-mul x y n) (same_refl (x *ℚ y))) (same_mul_mul (power x n) (power y n) x y)

pub power-power : (x : Fraction) (m n : ℕ) → power (power x m) n ≈ power x (m * n)
unfolding power
power-power x m zero = rw mul-zero (same_refl (whole 1))
power-power x m (suc n) = rw mul-suc (same_trans (same_mul (power-power x m n) (same_refl (power x m))) (same_sym (power-add x (m * n) m)))

pub power-whole : (k n : ℕ) → power (whole k) n ≈ whole (k ^ n)
unfolding power
power-whole k zero = rw pow-zero (same_refl (whole 1))
power-whole k (suc n) = rw pow-suc (same_trans (same_mul (power-whole k n) (same_refl (whole k))) (record { crossed = omega (arith, ints) }))

pub power-part : (k n : ℕ) (above : 0 < k) → power (part k above) n ≈ part (k ^ n) (one-le-pow n k above)
unfolding power
power-part k zero above = record { crossed = omega (arith, ints, pow-zero k) }
power-part k (suc n) above = same_trans (same_mul (power-part k n above) (same_refl (part k above))) (record { crossed = omega (arith, ints, pow-suc k n) })

-- the power of a fraction that is not negative, as a fraction of naturals
pub power-pos : (a b n : ℕ) (above : 0 < b) → power (record { num = pos a; den = b; positive = above }) n ≈ (record { num = pos (a ^ n); den = b ^ n; positive = one-le-pow n b above })
unfolding power
power-pos a b zero above = record { crossed = omega (arith, ints, pow-zero a, pow-zero b) }
power-pos a b (suc n) above =
    same_trans (same_mul (power-pos a b n above) (same_refl (record { num = pos a; den = b; positive = above })))
    (record { crossed = law (a ^ n) (b ^ n) a b (a ^ suc n) (b ^ suc n) (pow-suc a n) (pow-suc b n) })
  where
    law : (p q a b r s : ℕ) → r ≡ p * a → s ≡ q * b → (pos p *ℤ pos a) *ℤ pos s ≡ pos r *ℤ pos (q * b)
    law p q a b r s e f = rw (e, f) refl
