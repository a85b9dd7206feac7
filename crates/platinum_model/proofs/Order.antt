-- Fractions of naturals, and their order.
use Rattle.std.proofs.Common.{◌≡◌, ℕ, ◌+◌, ◌*◌, ◌<◌, ◌≤◌, sym, ap, ◌∙◌, arith, lit<, ℤ, pos, ◌+ℤ◌, ◌*ℤ◌, neg_ℤ, ◌≤ℤ◌}
use Rattle.std.proofs.lemmas.Int.{ints}
use Rattle.number_model.specs.Fraction.{Fraction, ◌≤ℚ◌, ◌+ℚ◌, ◌-ℚ◌, neg_ℚ, ◌≈◌, whole}
use Rattle.number_model.proofs.Ints.{as_diff, same_diff, ring, mul-le_pos, le_of_mul-le_pos, recast, neg-*ℤ, pos-diff}
use Rattle.platinum_model.specs.Sample.{half}

swap : (a : ℤ) (m n : ℕ) → (a *ℤ pos m) *ℤ pos n ≡ (a *ℤ pos n) *ℤ pos m
swap a m n = rw (as_diff a) (simp ring (same_diff _ _ _ _ (omega arith)))

left_le : (x x' y : ℤ) (b b' d : ℕ) → 0 < b → x *ℤ pos b' ≡ x' *ℤ pos b → (x *ℤ pos d) ≤ℤ (y *ℤ pos b) → (x' *ℤ pos d) ≤ℤ (y *ℤ pos b')
left_le x x' y b b' d above e h =
    le_of_mul-le_pos b above (recast (mul-le_pos b' h) (swap x' d b ∙ ap (λ t. t *ℤ pos d) (sym e) ∙ swap x b' d) (swap y b' b))

right_le : (x y y' : ℤ) (b d d' : ℕ) → 0 < d → y *ℤ pos d' ≡ y' *ℤ pos d → (x *ℤ pos d) ≤ℤ (y *ℤ pos b) → (x *ℤ pos d') ≤ℤ (y' *ℤ pos b)
right_le x y y' b d d' above e h =
    le_of_mul-le_pos d above (recast (mul-le_pos d' h) (swap x d' d) (swap y' b d ∙ ap (λ t. t *ℤ pos b) (sym e) ∙ swap y d' b))

pub le_same : {x x' y y' : Fraction} → x ≈ x' → y ≈ y' → x ≤ℚ y → x' ≤ℚ y'
le_same {x} {x'} {y} {y'} e f h = record {
  crossed = right_le x'.num y.num y'.num x'.den y.den y'.den y.positive f.crossed
      (left_le x.num x'.num y.num x.den x'.den y.den x.positive e.crossed h.crossed);
}

-- p / q
abbrev pub ratio : (p q : ℕ) → 0 < q → Fraction
ratio p q above = record { num = pos p; den = q; positive = above }

pub ratio-le : (p q m n : ℕ) (above : 0 < q) (above' : 0 < n) → p * n ≤ m * q → ratio p q above ≤ℚ ratio m n above'
ratio-le p q m n above above' h = record { crossed = omega (arith, ints) }

pub le-ratio : (p q m n : ℕ) (above : 0 < q) (above' : 0 < n) → ratio p q above ≤ℚ ratio m n above' → p * n ≤ m * q
le-ratio p q m n above above' h = omega (arith, ints, h.crossed)

pub le_of_same : {x y : Fraction} → x ≈ y → x ≤ℚ y
le_of_same h = record { crossed = omega (arith, ints, h.crossed) }

pub same_neg : {x y : Fraction} → x ≈ y → neg_ℚ x ≈ neg_ℚ y
same_neg {x} {y} h = record { crossed = neg-*ℤ x.num (pos y.den) ∙ ap (λ t. neg_ℤ t) h.crossed ∙ sym (neg-*ℤ y.num (pos x.den)) }

-- one more, one less, half more and half less
pub ratio-one_more : (p q : ℕ) (above : 0 < q) → (ratio p q above +ℚ whole 1) ≈ ratio (p + q) q above
ratio-one_more p q above = record { crossed = omega (arith, ints) }

pub ratio-one_less : (p q : ℕ) (above : 0 < q) → (ratio (p + q) q above -ℚ whole 1) ≈ ratio p q above
ratio-one_less p q above = record { crossed = law (p + q) p q (omega arith) }
  where
    law : (s p q : ℕ) → s ≡ p + q → (pos s *ℤ pos 1 +ℤ neg_ℤ (pos 1) *ℤ pos q) *ℤ pos q ≡ pos p *ℤ pos (q * 1)
    law s p q e = rw (e) (simp ring (same_diff _ _ (p * (q * 1)) 0 (omega arith) ∙ sym (pos-diff (p * (q * 1)))))

pub half_more : (r : ℕ) → (whole r +ℚ half) ≈ ratio (2 * r + 1) 2 (lit< tt)
half_more r = record { crossed = omega (arith, ints) }

pub half_less : (r : ℕ) → (whole (r + 1) -ℚ half) ≈ ratio (2 * r + 1) 2 (lit< tt)
half_less r = record { crossed = omega (arith, ints) }
