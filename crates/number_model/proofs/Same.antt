-- Fractions that are equal by their cross products.
use Rattle.std.proofs.Common.{◌≡◌, ℕ, ◌*◌, ◌^◌, ◌<◌, refl, sym, ap, ◌∙◌, arith, ℤ, pos, ◌+ℤ◌, ◌*ℤ◌, ◌≤ℤ◌}
use Rattle.std.proofs.lemmas.Int.{ints}
use Rattle.number_model.specs.Fraction.{Fraction, ◌+ℚ◌, ◌*ℚ◌, ◌≈◌}
use Rattle.number_model.specs.Enclosure.{Holds}
use Rattle.number_model.proofs.Ints.{*ℤ_swap, as_diff, same_diff, ring, mul-le_pos, le_of_mul-le_pos, recast, antisym}

le_same : {a b : ℤ} → a ≡ b → a ≤ℤ b
le_same e = omega (arith, ints)

pub cancel : {a b : ℤ} (n : ℕ) → 0 < n → a *ℤ pos n ≡ b *ℤ pos n → a ≡ b
cancel n h e = antisym (le_of_mul-le_pos n h (le_same e)) (le_of_mul-le_pos n h (le_same (sym e)))

pub same_refl : (x : Fraction) → x ≈ x
same_refl x = record { crossed = refl }

pub same_sym : {x y : Fraction} → x ≈ y → y ≈ x
same_sym h = record { crossed = sym h.crossed }

pub same_trans : {x y z : Fraction} → x ≈ y → y ≈ z → x ≈ z
same_trans {x} {y} {z} h k = record {
  crossed = cancel y.den y.positive
      (*ℤ_swap x.num z.den y.den ∙ ap (λ t. t *ℤ pos z.den) h.crossed ∙ *ℤ_swap y.num x.den z.den ∙ ap (λ t. t *ℤ pos x.den) k.crossed ∙ *ℤ_swap z.num y.den x.den);
}

product_of : (a b : ℤ) (m n : ℕ) → (a *ℤ b) *ℤ pos (m * n) ≡ (a *ℤ pos m) *ℤ (b *ℤ pos n)
product_of a b m n = rw (as_diff a, as_diff b) (simp ring (same_diff _ _ _ _ (omega arith)))

pub same_mul : {x x' y y' : Fraction} → x ≈ x' → y ≈ y' → (x *ℚ y) ≈ (x' *ℚ y')
same_mul {x} {x'} {y} {y'} h k = record {
  crossed = product_of x.num y.num x'.den y'.den
      ∙ ap (λ t. t *ℤ (y.num *ℤ pos y'.den)) h.crossed ∙ ap (λ t. (x'.num *ℤ pos x.den) *ℤ t) k.crossed
      ∙ sym (product_of x'.num y'.num x.den y.den);
}

sum_of : (a c : ℤ) (b d b' d' : ℕ) → (a *ℤ pos d +ℤ c *ℤ pos b) *ℤ pos (b' * d') ≡ (a *ℤ pos b') *ℤ pos (d * d') +ℤ (c *ℤ pos d') *ℤ pos (b * b')
sum_of a c b d b' d' = rw (as_diff a, as_diff c) (simp ring (same_diff _ _ _ _ (omega arith)))

turned : (a c : ℤ) (b d b' d' : ℕ) → (a *ℤ pos b) *ℤ pos (d * d') +ℤ (c *ℤ pos d) *ℤ pos (b * b') ≡ (a *ℤ pos d' +ℤ c *ℤ pos b') *ℤ pos (b * d)
turned a c b d b' d' = rw (as_diff a, as_diff c) (simp ring (same_diff _ _ _ _ (omega arith)))

pub same_add : {x x' y y' : Fraction} → x ≈ x' → y ≈ y' → (x +ℚ y) ≈ (x' +ℚ y')
same_add {x} {x'} {y} {y'} h k = record {
  crossed = sum_of x.num y.num x.den y.den x'.den y'.den
      ∙ ap (λ t. t *ℤ pos (y.den * y'.den) +ℤ (y.num *ℤ pos y'.den) *ℤ pos (x.den * x'.den)) h.crossed
      ∙ ap (λ t. (x'.num *ℤ pos x.den) *ℤ pos (y.den * y'.den) +ℤ t *ℤ pos (x.den * x'.den)) k.crossed
      ∙ turned x'.num y'.num x.den y.den x'.den y'.den;
}

pub same_mul_comm : (x y : Fraction) → (x *ℚ y) ≈ (y *ℚ x)
same_mul_comm x y = record { crossed = law x.num y.num x.den y.den }
  where
    law : (a c : ℤ) (b d : ℕ) → (a *ℤ c) *ℤ pos (d * b) ≡ (c *ℤ a) *ℤ pos (b * d)
    law a c b d = rw (as_diff a, as_diff c) (simp ring (same_diff _ _ _ _ (omega arith)))

pub same_mul_assoc : (x y z : Fraction) → ((x *ℚ y) *ℚ z) ≈ (x *ℚ (y *ℚ z))
same_mul_assoc x y z = record { crossed = law x.num y.num z.num x.den y.den z.den }
  where
    law : (a c e : ℤ) (b d f : ℕ) → ((a *ℤ c) *ℤ e) *ℤ pos (b * (d * f)) ≡ (a *ℤ (c *ℤ e)) *ℤ pos ((b * d) * f)
    law a c e b d f = rw (as_diff a, as_diff c, as_diff e) (simp ring (same_diff _ _ _ _ (omega arith)))

pub same_distrib : (x y z : Fraction) → (x *ℚ (y +ℚ z)) ≈ (x *ℚ y +ℚ x *ℚ z)
same_distrib x y z = record { crossed = law x.num y.num z.num x.den y.den z.den }
  where
    law : (a c e : ℤ) (b d f : ℕ) → (a *ℤ (c *ℤ pos f +ℤ e *ℤ pos d)) *ℤ pos ((b * d) * (b * f)) ≡ ((a *ℤ c) *ℤ pos (b * f) +ℤ (a *ℤ e) *ℤ pos (b * d)) *ℤ pos (b * (d * f))
    law a c e b d f = rw (as_diff a, as_diff c, as_diff e) (simp ring (same_diff _ _ _ _ (omega arith)))

low_same : (s xd yd : ℕ) (l x y : ℤ) → 0 < xd → x *ℤ pos yd ≡ y *ℤ pos xd → (l *ℤ pos xd) ≤ℤ (x *ℤ pos s) → (l *ℤ pos yd) ≤ℤ (y *ℤ pos s)
low_same s xd yd l x y above e h =
    le_of_mul-le_pos xd above (recast (mul-le_pos yd h) (*ℤ_swap l yd xd) (*ℤ_swap y s xd ∙ ap (λ t. t *ℤ pos s) (sym e) ∙ *ℤ_swap x yd s))

high_same : (s xd yd : ℕ) (l x y : ℤ) → 0 < xd → x *ℤ pos yd ≡ y *ℤ pos xd → (x *ℤ pos s) ≤ℤ (l *ℤ pos xd) → (y *ℤ pos s) ≤ℤ (l *ℤ pos yd)
high_same s xd yd l x y above e h =
    le_of_mul-le_pos xd above (recast (mul-le_pos yd h) (*ℤ_swap y s xd ∙ ap (λ t. t *ℤ pos s) (sym e) ∙ *ℤ_swap x yd s) (*ℤ_swap l yd xd))

pub Holds-same : {s : ℕ} {l h : ℤ} {x y : Fraction} → x ≈ y → Holds s l h x → Holds s l h y
Holds-same {s} {l} {h} {x} {y} e p = record {
  low = record { crossed = low_same (2 ^ s) x.den y.den l x.num y.num x.positive e.crossed p.low.crossed };
  high = record { crossed = high_same (2 ^ s) x.den y.den h x.num y.num x.positive e.crossed p.high.crossed };
}
