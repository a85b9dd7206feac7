-- The powers of two that stand in the parts of a term cancel.
use Rattle.std.proofs.Common.{◌≡◌, ℕ, zero, suc, ◌+◌, ◌*◌, ◌^◌, ◌<◌, ◌≤◌, arith, lit<, ap, sym, ◌∙◌, refl, ℤ, pos, negsuc, ◌*ℤ◌, ◌≤ℤ◌, ◌<ℤ◌, unsigned_abs, false, true, nat_lt}
use lib.Signed.{le_z}
use Rattle.std.proofs.lemmas.Int.{ints}
use Rattle.std.proofs.lemmas.Bool.{lt-ltb, le-ltb, cond-true, cond-false}
use Rattle.std.proofs.lemmas.Nat.{pow-add, pow_pos}
use native.Mathlib.Nat.{one-le-pow}
use Rattle.number_model.specs.Fraction.{Fraction, ◌*ℚ◌, ◌≈◌, power, whole, part, inverse, times_ℚ}
use Rattle.number_model.proofs.Ints.{as_diff, same_diff, ring}
use Rattle.number_model.proofs.Same.{same_refl, same_trans, same_mul}
use Rattle.number_model.proofs.Powers.{power-mul, power-part}
use Rattle.water_model.specs.Decimal.{whole_power}
use Rattle.enclosure_sizes.specs.Size.{power_size, up_size}
use Rattle.region1_terms.specs.Variables.{y_size, z_size}
use Rattle.dec_tables.specs.Sizes.{unit_power_size}
use Rattle.dec_tables.proofs.Shares.{pow-mul, eighth_power}
use Rattle.region1_terms.specs.Monomial.{y_shift, y_power_size}

-- ---- powers of y
pub times_one : (p : Fraction) (e : ℕ) (above : 0 < e) → p ≈ times_ℚ p e e above
times_one p e above = record { crossed = law p.num p.den e }
  where
    law : (a : ℤ) (b e : ℕ) → a *ℤ pos (b * e) ≡ (a *ℤ pos e) *ℤ pos b
    law a b e = rw (as_diff a) (simp ring (same_diff _ _ _ _ (omega arith)))

-- the same shift by another name
same_shift : {q : Fraction} (p : Fraction) (e f : ℕ) → e ≡ f → q ≈ times_ℚ p (2 ^ 56) (2 ^ e) (pow_pos e) → q ≈ times_ℚ p (2 ^ 56) (2 ^ f) (pow_pos f)
same_shift {q} p e f h k = record { crossed = rw (← h) k.crossed }

times_part : (p : Fraction) (q f g : ℕ) (q_above : 0 < q) (g_above : 0 < g) → g ≡ f * q → (p *ℚ part q q_above) ≈ times_ℚ p f g g_above
times_part p q f g q_above g_above e = record { crossed = law p.num p.den }
  where
    law : (a : ℤ) (b : ℕ) → (a *ℤ pos 1) *ℤ pos (b * g) ≡ (a *ℤ pos f) *ℤ pos (b * q)
    law a b = rw (e, as_diff a) (simp ring (same_diff _ _ _ _ (omega arith)))

four_is : (n : ℕ) → 2 ^ (56 + 2 * n) ≡ 2 ^ 56 * 4 ^ n
four_is n = pow-add 2 56 (2 * n) ∙ ap (λ t. 2 ^ 56 * t) (pow-mul 2 2 n)

pub y_rising : (y : Fraction) (j : ℤ) (n : ℕ) → pos 0 ≤ℤ j → n ≡ unsigned_abs j → power (y *ℚ part 4 (lit< tt)) n ≈ times_ℚ (whole_power y j) (2 ^ 56) (2 ^ y_shift j) (pow_pos (y_shift j))
unfolding whole_power
y_rising y (pos m) n h e =
    rw e (same_trans (power-mul y (part 4 (lit< tt)) m)
    (same_trans (same_mul (same_refl (power y m)) (power-part 4 m (lit< tt)))
    (times_part (power y m) (4 ^ m) (2 ^ 56) (2 ^ (56 + 2 * m)) (one-le-pow m 4 (lit< tt)) (pow_pos (56 + 2 * m)) (four_is m))))
y_rising y (negsuc m) n h e = absurd (omega (arith, ints, h))

pub y_falling : (y : Fraction) (j : ℤ) (n : ℕ) → j <ℤ pos 0 → n ≡ unsigned_abs j → n < 29 → power (inverse y) n ≈ times_ℚ (whole_power y j) (2 ^ 56) (2 ^ y_shift j) (pow_pos (y_shift j))
unfolding whole_power
y_falling y (pos m) n h e few = absurd (omega (arith, ints, h))
y_falling y (negsuc m) n h e few =
    let shift : y_shift (negsuc m) ≡ 56 = cond-true (nat_lt m 28) 56 32 (lt-ltb m 28 (omega arith)) in
    rw e (same_shift (power (inverse y) (suc m)) 56 (y_shift (negsuc m)) (sym shift) (times_one (power (inverse y) (suc m)) (2 ^ 56) (pow_pos 56)))

pub y_raised : (y : Fraction) (j : ℤ) (n : ℕ) → j <ℤ pos 0 → n ≡ unsigned_abs j → 29 ≤ n → times_ℚ (power (inverse y) n) (2 ^ 56) (2 ^ 32) (pow_pos 32) ≈ times_ℚ (whole_power y j) (2 ^ 56) (2 ^ y_shift j) (pow_pos (y_shift j))
unfolding whole_power
y_raised y (pos m) n h e many = absurd (omega (arith, ints, h))
y_raised y (negsuc m) n h e many =
    let shift : y_shift (negsuc m) ≡ 32 = cond-false (nat_lt m 28) 56 32 (le-ltb m 28 (omega arith)) in
    rw e (same_shift (power (inverse y) (suc m)) 32 (y_shift (negsuc m)) (sym shift) (same_refl (times_ℚ (power (inverse y) (suc m)) (2 ^ 56) (2 ^ 32) (pow_pos 32))))

-- ---- their sizes
pub y_power_size-rising : (j : ℤ) (n : ℕ) → pos 0 ≤ℤ j → n ≡ unsigned_abs j → unit_power_size n y_size ≡ y_power_size j
y_power_size-rising (pos m) n h e = ap (λ k. unit_power_size k y_size) e
y_power_size-rising (negsuc m) n h e = absurd (omega (arith, ints, h))

pub y_power_size-falling : (j : ℤ) (n : ℕ) → j <ℤ pos 0 → n ≡ unsigned_abs j → n < 29 → unit_power_size n z_size ≡ y_power_size j
y_power_size-falling (pos m) n h e few = absurd (omega (arith, ints, h))
y_power_size-falling (negsuc m) n h e few =
    ap (λ k. unit_power_size k z_size) e ∙ sym (cond-true (nat_lt m 28) (unit_power_size (suc m) z_size) (up_size (2 ^ 24) (power_size (2 ^ 56) (suc m) z_size)) (lt-ltb m 28 (omega arith)))

pub y_power_size-raised : (j : ℤ) (n : ℕ) → j <ℤ pos 0 → n ≡ unsigned_abs j → 29 ≤ n → up_size (2 ^ 24) (power_size (2 ^ 56) n z_size) ≡ y_power_size j
y_power_size-raised (pos m) n h e many = absurd (omega (arith, ints, h))
y_power_size-raised (negsuc m) n h e many =
    ap (λ k. up_size (2 ^ 24) (power_size (2 ^ 56) k z_size)) e ∙ sym (cond-false (nat_lt m 28) (unit_power_size (suc m) z_size) (up_size (2 ^ 24) (power_size (2 ^ 56) (suc m) z_size)) (le-ltb m 28 (omega arith)))

-- ---- the whole term
eight_is : (i e up : ℕ) → up + 56 ≡ 3 * i + e → 2 ^ up * 2 ^ 56 ≡ 8 ^ i * 2 ^ e
eight_is i e up h = sym (pow-add 2 up 56) ∙ ap (λ k. 2 ^ k) h ∙ pow-add 2 (3 * i) e ∙ ap (λ t. t * 2 ^ e) (pow-mul 2 3 i)

arrange : (k x y : Fraction) (p q a b : ℕ) (a_above : 0 < a) (b_above : 0 < b) → p * q ≡ a * b → ((k *ℚ whole p) *ℚ ((x *ℚ part a a_above) *ℚ times_ℚ y q b b_above)) ≈ (k *ℚ x *ℚ y)
arrange k x y p q a b a_above b_above h = record {
  crossed = left k.num x.num y.num (k.den * x.den * y.den)
      ∙ ap (λ t. (k.num *ℤ x.num *ℤ y.num) *ℤ pos (t * (k.den * x.den * y.den))) h
      ∙ right k.num x.num y.num k.den x.den y.den;
}
  where
    left : (c e g : ℤ) (d : ℕ) → ((c *ℤ pos p) *ℤ ((e *ℤ pos 1) *ℤ (g *ℤ pos q))) *ℤ pos d ≡ (c *ℤ e *ℤ g) *ℤ pos (p * q * d)
    left c e g d = rw (as_diff c, as_diff e, as_diff g) (simp ring (same_diff _ _ _ _ (omega arith)))

    right : (c e g : ℤ) (l m n : ℕ) → (c *ℤ e *ℤ g) *ℤ pos (a * b * (l * m * n)) ≡ (c *ℤ e *ℤ g) *ℤ pos ((l * 1) * ((m * a) * (n * b)))
    right c e g l m n = ap (λ t. (c *ℤ e *ℤ g) *ℤ pos t) (omega arith)

pub term_same : (k x y : Fraction) (i e up : ℕ) → up + 56 ≡ 3 * i + e → ((k *ℚ whole (2 ^ up)) *ℚ (power (x *ℚ part 8 (lit< tt)) i *ℚ times_ℚ y (2 ^ 56) (2 ^ e) (pow_pos e))) ≈ (k *ℚ power x i *ℚ y)
term_same k x y i e up h =
    same_trans (same_mul (same_refl (k *ℚ whole (2 ^ up))) (same_mul (eighth_power x i) (same_refl (times_ℚ y (2 ^ 56) (2 ^ e) (pow_pos e)))))
    (arrange k (power x i) y (2 ^ up) (2 ^ 56) (8 ^ i) (2 ^ e) (one-le-pow i 8 (lit< tt)) (pow_pos e) (eight_is i e up h))

pub above_of : (z : ℤ) → le_z (pos 0) z ≡ true → pos 0 ≤ℤ z
above_of z h = grind (arith, ints)

pub below_of : (z : ℤ) → le_z (pos 0) z ≡ false → z <ℤ pos 0
below_of z h = grind (arith, ints)
