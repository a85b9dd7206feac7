-- One term in a coefficient: its condition, and the powers of two that cancel.
use Rattle.std.proofs.Common.{◌≡◌, ℕ, zero, suc, ◌+◌, ◌-◌, ◌*◌, ◌^◌, ◌<◌, ◌≤◌, subst, arith, lit<, ap, sym, ◌∙◌, ℤ, pos, ◌*ℤ◌, nat_le, nat_lt, true, unsigned_abs}
use Rattle.std.proofs.lemmas.Bool.{and_parts, leb-true, lt-ltb, le-ltb, cond-true, cond-false}
use Rattle.std.proofs.lemmas.Nat.{pow-add, pow_pos}
use Rattle.std.specs.Prelude.{IsTrue, ◌&&◌}
use native.Mathlib.Nat.{one-le-pow, pow-suc, pow-zero, mul-suc, mul-zero}
use Rattle.number_model.specs.Fraction.{Fraction, ◌*ℚ◌, ◌≈◌, power, whole, part, times_ℚ}
use Rattle.number_model.proofs.Ints.{as_diff, same_diff, ring}
use Rattle.number_model.proofs.Same.{same_refl, same_trans, same_mul}
use Rattle.number_model.proofs.Powers.{power-mul, power-part}
use Rattle.table_model.specs.Tables.{eighth_of}
use Rattle.dec_tables.specs.declared.table.Term.{Term}
use Rattle.dec_tables.specs.declared.part.Part.{Part}
use Rattle.dec_tables.specs.Coefficients.{coefficient_of}
use Rattle.dec_tables.specs.Parts.{scale_of, stands_at, factor_of, shift_of, share_of}
use Rattle.dec_tables.specs.Sizes.{fine_scale, raise_of, scaled_fits, factor_fits, share_fits}
use Rattle.number_model.specs.Enclosure.{Holds}

-- ---- what `factor_fits` tests
pub record FactorFits (s shift : ℕ) (t : Term) : Type 0 where
  pub few : shift ≤ 128
  pub i : t.i ≤ 64
  pub fits : IsTrue (scaled_fits (fine_scale t.i) s (raise_of shift t.i) t)

pub factor_parts : (s shift : ℕ) (t : Term) → IsTrue (factor_fits s shift t) → FactorFits s shift t
unfolding factor_fits
factor_parts s shift t h =
    let p = and_parts (nat_le shift 128 && nat_le t.i 64) (scaled_fits (fine_scale t.i) s (raise_of shift t.i) t) h in
    let q = and_parts (nat_le shift 128) (nat_le t.i 64) p.0 in
    record { few = leb-true _ _ q.0; i = leb-true _ _ q.1; fits = p.1 }

-- ---- the two scales
fine_low : (a : ℕ) → a < 20 → fine_scale a ≡ 56
fine_low a h = cond-true (nat_lt a 20) 56 46 (lt-ltb a 20 h)

fine_high : (a : ℕ) → 20 ≤ a → fine_scale a ≡ 46
fine_high a h = cond-false (nat_lt a 20) 56 46 (le-ltb a 20 h)

pub at_low : (P : ℕ → ℕ → Type 0) (shift a : ℕ) → a < 20 → P (fine_scale a) (raise_of shift a) → P 56 (3 * a + shift)
at_low P shift a h p =
    let r : raise_of shift a ≡ 3 * a + shift = ap (λ f. 3 * a + shift + f - 56) (fine_low a h) ∙ omega arith in
    subst (λ f. P f (3 * a + shift)) (fine_low a h) (subst (λ u. P (fine_scale a) u) r p)

pub at_high : (P : ℕ → ℕ → Type 0) (shift a : ℕ) → 20 ≤ a → P (fine_scale a) (raise_of shift a) → P 46 (3 * a + shift - 10)
at_high P shift a h p =
    let r : raise_of shift a ≡ 3 * a + shift - 10 = ap (λ f. 3 * a + shift + f - 56) (fine_high a h) ∙ omega arith in
    subst (λ f. P f (3 * a + shift - 10)) (fine_high a h) (subst (λ u. P (fine_scale a) u) r p)

-- ---- values
pub pow-mul : (a b n : ℕ) → a ^ (b * n) ≡ (a ^ b) ^ n
pow-mul a b zero = rw mul-zero (pow-zero a ∙ sym (pow-zero (a ^ b)))
pow-mul a b (suc n) = rw (mul-suc, pow-suc) (pow-add a (b * n) b ∙ ap (λ t. t * a ^ b) (pow-mul a b n))

pub eighth_power : (v : Fraction) (n : ℕ) → power (eighth_of v) n ≈ (power v n *ℚ part (8 ^ n) (one-le-pow n 8 (lit< tt)))
eighth_power v n = same_trans (power-mul v (part 8 (lit< tt)) n) (same_mul (same_refl (power v n)) (power-part 8 n (lit< tt)))

low_law : (k p : Fraction) (u b w : ℕ) (above : 0 < b) → u ≡ b * w → ((k *ℚ whole u) *ℚ (p *ℚ part b above)) ≈ ((k *ℚ p) *ℚ whole w)
low_law k p u b w above e = record { crossed = rw e (law k.num p.num k.den p.den) }
  where
    law : (c d : ℤ) (l m : ℕ) → ((c *ℤ pos (b * w)) *ℤ (d *ℤ pos 1)) *ℤ pos (l * m * 1) ≡ ((c *ℤ d) *ℤ pos w) *ℤ pos ((l * 1) * (m * b))
    law c d l m = rw (as_diff c, as_diff d) (simp ring (same_diff _ _ _ _ (omega arith)))

pub low_value : (k v : Fraction) (shift a : ℕ) → ((k *ℚ whole (2 ^ (3 * a + shift))) *ℚ power (eighth_of v) a) ≈ (k *ℚ power v a *ℚ whole (2 ^ shift))
low_value k v shift a =
    let two : 2 ^ (3 * a + shift) ≡ 8 ^ a * 2 ^ shift = pow-add 2 (3 * a) shift ∙ ap (λ t. t * 2 ^ shift) (pow-mul 2 3 a) in
    same_trans (same_mul (same_refl (k *ℚ whole (2 ^ (3 * a + shift)))) (eighth_power v a))
    (low_law k (power v a) (2 ^ (3 * a + shift)) (8 ^ a) (2 ^ shift) (one-le-pow a 8 (lit< tt)) two)

high_law : (k p : Fraction) (u b w q m : ℕ) (above : 0 < b) (over : 0 < m) → u * q ≡ b * w * m → ((k *ℚ whole u) *ℚ times_ℚ (p *ℚ part b above) q m over) ≈ ((k *ℚ p) *ℚ whole w)
high_law k p u b w q m above over e = record {
  crossed = left k.num p.num (k.den * p.den * 1) ∙ ap (λ t. (k.num *ℤ p.num) *ℤ pos (t * (k.den * p.den * 1))) e ∙ right k.num p.num k.den p.den;
}
  where
    left : (c d : ℤ) (l : ℕ) → ((c *ℤ pos u) *ℤ ((d *ℤ pos 1) *ℤ pos q)) *ℤ pos l ≡ (c *ℤ d) *ℤ pos (u * q * l)
    left c d l = rw (as_diff c, as_diff d) (simp ring (same_diff _ _ _ _ (omega arith)))

    right : (c d : ℤ) (l n : ℕ) → (c *ℤ d) *ℤ pos (b * w * m * (l * n * 1)) ≡ ((c *ℤ d) *ℤ pos w) *ℤ pos ((l * 1) * ((n * b) * m))
    right c d l n = rw (as_diff c, as_diff d) (simp ring (same_diff _ _ _ _ (omega arith)))

same_times : {x y : Fraction} (q m : ℕ) (over : 0 < m) → x ≈ y → times_ℚ x q m over ≈ times_ℚ y q m over
same_times {x} {y} q m over h = record { crossed = apart x.num y.den ∙ ap (λ t. t *ℤ pos (q * m)) h.crossed ∙ sym (apart y.num x.den) }
  where
    apart : (a : ℤ) (b : ℕ) → (a *ℤ pos q) *ℤ pos (b * m) ≡ (a *ℤ pos b) *ℤ pos (q * m)
    apart a b = rw (as_diff a) (simp ring (same_diff _ _ _ _ (omega arith)))

pub high_value : (k v : Fraction) (shift a : ℕ) → 20 ≤ a → ((k *ℚ whole (2 ^ (3 * a + shift - 10))) *ℚ times_ℚ (power (eighth_of v) a) (2 ^ 56) (2 ^ 46) (pow_pos 46)) ≈ (k *ℚ power v a *ℚ whole (2 ^ shift))
high_value k v shift a h =
    let up : 3 * a + shift ≡ (3 * a + shift - 10) + 10 = omega arith in
    let two : 2 ^ (3 * a + shift - 10) * 2 ^ 10 ≡ 8 ^ a * 2 ^ shift =
    sym (pow-add 2 (3 * a + shift - 10) 10) ∙ ap (λ n. 2 ^ n) (sym up) ∙ pow-add 2 (3 * a) shift ∙ ap (λ t. t * 2 ^ shift) (pow-mul 2 3 a) in
    let all : 2 ^ (3 * a + shift - 10) * 2 ^ 56 ≡ 8 ^ a * 2 ^ shift * 2 ^ 46 = omega (arith, two) in
    same_trans (same_mul (same_refl (k *ℚ whole (2 ^ (3 * a + shift - 10)))) (same_times (2 ^ 56) (2 ^ 46) (pow_pos 46) (eighth_power v a)))
    (high_law k (power v a) (2 ^ (3 * a + shift - 10)) (8 ^ a) (2 ^ shift) (2 ^ 56) (2 ^ 46) (one-le-pow a 8 (lit< tt)) (pow_pos 46) all)

-- ---- a term that stands in coefficient k, and one that doesn't
pub share_parts : (q : Part) (k : ℕ) (t : Term) → stands_at q k t.j ≡ true → IsTrue (share_fits q k t)
    → (unsigned_abs t.mantissa ≤ 2 ^ 53) × IsTrue (factor_fits (scale_of q) (shift_of q k) (factor_of q t))
unfolding share_fits
share_parts q k t e h =
    let fits = nat_le (unsigned_abs t.mantissa) (2 ^ 53) && factor_fits (scale_of q) (shift_of q k) (factor_of q t) in
    let p = and_parts (nat_le (unsigned_abs t.mantissa) (2 ^ 53)) (factor_fits (scale_of q) (shift_of q k) (factor_of q t)) (subst IsTrue (cond-true (stands_at q k t.j) fits true e) h) in
    (leb-true _ _ p.0, p.1)

pub there_held : (q : Part) (s k : ℕ) (t : Term) (v : Fraction) (lo hi : ℤ) → stands_at q k t.j ≡ true → Holds s lo hi (coefficient_of (factor_of q t) *ℚ power v (factor_of q t).i *ℚ whole (2 ^ shift_of q k)) → Holds s lo hi (share_of q v k t)
there_held q s k t v lo hi e h =
    subst (λ x. Holds s lo hi x) (sym (cond-true (stands_at q k t.j) (coefficient_of (factor_of q t) *ℚ power v (factor_of q t).i *ℚ whole (2 ^ shift_of q k)) (whole 0) e)) h
