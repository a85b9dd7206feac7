-- The order of fractions, and what a quotient lies between.
use Rattle.std.proofs.Common.{◌≡◌, ℕ, ◌*◌, ◌^◌, ◌<◌, arith, ℤ, pos, negsuc, ◌+ℤ◌, ◌*ℤ◌, ◌≤ℤ◌}
use Rattle.std.proofs.lemmas.Int.{ints}
use Rattle.number_model.specs.Fraction.{Fraction, ◌≤ℚ◌, ◌+ℚ◌, ◌*ℚ◌, ◌≈◌, whole}
use Rattle.number_model.specs.Enclosure.{scaled, Holds}
use Rattle.number_model.proofs.Ints.{as_diff, same_diff, ring, mul-le_pos, mul-le_neg, recast}
use Rattle.number_model.proofs.Order.{≤ℚ_trans}
use Rattle.platinum_model.proofs.Order.{le_same}
use Rattle.number_model.proofs.Same.{same_refl, same_sym, same_mul_assoc}
use Rattle.region1_terms.proofs.Temperatures.{ratio}

-- ---- the order
pub le_add : {x x' y y' : Fraction} → x ≤ℚ x' → y ≤ℚ y' → (x +ℚ y) ≤ℚ (x' +ℚ y')
le_add {x} {x'} {y} {y'} h k = record { crossed = law x.num x'.num y.num y'.num x.den x'.den y.den y'.den h.crossed k.crossed }
  where
    law : (a a' c c' : ℤ) (b b' d d' : ℕ) → (a *ℤ pos b') ≤ℤ (a' *ℤ pos b) → (c *ℤ pos d') ≤ℤ (c' *ℤ pos d)
        → ((a *ℤ pos d +ℤ c *ℤ pos b) *ℤ pos (b' * d')) ≤ℤ ((a' *ℤ pos d' +ℤ c' *ℤ pos b') *ℤ pos (b * d))
    law a a' c c' b b' d d' h k =
        let h' : ((a *ℤ pos b') *ℤ pos (d * d')) ≤ℤ ((a' *ℤ pos b) *ℤ pos (d * d')) = mul-le_pos (d * d') h in
        let k' : ((c *ℤ pos d') *ℤ pos (b * b')) ≤ℤ ((c' *ℤ pos d) *ℤ pos (b * b')) = mul-le_pos (b * b') k in
        let both : ((a *ℤ pos b') *ℤ pos (d * d') +ℤ (c *ℤ pos d') *ℤ pos (b * b')) ≤ℤ ((a' *ℤ pos b) *ℤ pos (d * d') +ℤ (c' *ℤ pos d) *ℤ pos (b * b')) = omega (arith, ints) in
        recast both
        (rw (as_diff a, as_diff c) (simp ring (same_diff _ _ _ _ (omega arith))))
        (rw (as_diff a', as_diff c') (simp ring (same_diff _ _ _ _ (omega arith))))

pub le_mul_right : {x y : Fraction} (n m : ℕ) (above : 0 < m) → x ≤ℚ y → (x *ℚ ratio n m above) ≤ℚ (y *ℚ ratio n m above)
le_mul_right {x} {y} n m above h = record { crossed = law x.num y.num x.den y.den h.crossed }
  where
    law : (a c : ℤ) (b d : ℕ) → (a *ℤ pos d) ≤ℤ (c *ℤ pos b) → ((a *ℤ pos n) *ℤ pos (d * m)) ≤ℤ ((c *ℤ pos n) *ℤ pos (b * m))
    law a c b d h =
        recast (mul-le_pos (n * m) h) (rw (as_diff a) (simp ring (same_diff _ _ _ _ (omega arith)))) (rw (as_diff c) (simp ring (same_diff _ _ _ _ (omega arith))))

-- a factor above 0 keeps the order, one below 0 turns it round
le_scaled : (n e b d : ℕ) (a c : ℤ) → (a *ℤ pos d) ≤ℤ (c *ℤ pos b) → ((pos n *ℤ a) *ℤ pos (e * d)) ≤ℤ ((pos n *ℤ c) *ℤ pos (e * b))
le_scaled n e b d a c h =
    recast (mul-le_pos (n * e) h) (rw (as_diff a) (simp ring (same_diff _ _ _ _ (omega arith)))) (rw (as_diff c) (simp ring (same_diff _ _ _ _ (omega arith))))

le_turned : (n e b d : ℕ) (a c : ℤ) → (a *ℤ pos d) ≤ℤ (c *ℤ pos b) → ((negsuc n *ℤ c) *ℤ pos (e * b)) ≤ℤ ((negsuc n *ℤ a) *ℤ pos (e * d))
le_turned n e b d a c h =
    recast (mul-le_pos e (mul-le_neg n h))
    (rw (as_diff (negsuc n), as_diff c) (simp ring (same_diff _ _ _ _ (omega arith))))
    (rw (as_diff (negsuc n), as_diff a) (simp ring (same_diff _ _ _ _ (omega arith))))

-- ---- n / d lies from lo / 2^s to hi / 2^s, for d of at least 0
pub record Quotient (s : ℕ) (lo hi : ℤ) (n d : Fraction) : Type 0 where
  pub low : (scaled s lo *ℚ d) ≤ℚ n
  pub high : n ≤ℚ (scaled s hi *ℚ d)

pub Quotient-same : {s : ℕ} {lo hi : ℤ} {n n' d : Fraction} → n ≈ n' → Quotient s lo hi n d → Quotient s lo hi n' d
Quotient-same {s} {lo} {hi} {n} {n'} {d} e q = record { low = le_same (same_refl (scaled s lo *ℚ d)) e q.low; high = le_same e (same_refl (scaled s hi *ℚ d)) q.high }

split : (s : ℕ) (l m : ℤ) (d : Fraction) → (scaled s l *ℚ d +ℚ scaled s m *ℚ d) ≈ (scaled s (l +ℤ m) *ℚ d)
split s l m d = record { crossed = law (2 ^ s) d.den l m d.num }
  where
    law : (u b : ℕ) (l m a : ℤ) → (((l *ℤ a) *ℤ pos (u * b)) +ℤ ((m *ℤ a) *ℤ pos (u * b))) *ℤ pos (u * b) ≡ ((l +ℤ m) *ℤ a) *ℤ pos ((u * b) * (u * b))
    law u b l m a = rw (as_diff l, as_diff m, as_diff a) (simp ring (same_diff _ _ _ _ (omega arith)))

pub Quotient-add : (s : ℕ) (l h m k : ℤ) (n n' d : Fraction) → Quotient s l h n d → Quotient s m k n' d → Quotient s (l +ℤ m) (h +ℤ k) (n +ℚ n') d
Quotient-add s l h m k n n' d p q = record {
  low = le_same (split s l m d) (same_refl (n +ℚ n')) (le_add p.low q.low);
  high = le_same (same_refl (n +ℚ n')) (split s h k d) (le_add p.high q.high);
}

pub Quotient-none : (s : ℕ) (d : Fraction) → Quotient s (pos 0) (pos 0) (whole 0) d
Quotient-none s d = record { low = record { crossed = law d.num (2 ^ s * d.den) }; high = record { crossed = law' d.num (2 ^ s * d.den) } }
  where
    law : (a : ℤ) (b : ℕ) → ((pos 0 *ℤ a) *ℤ pos 1) ≤ℤ (pos 0 *ℤ pos b)
    law (pos a) b = omega (arith, ints)
    law (negsuc a) b = omega (arith, ints)

    law' : (a : ℤ) (b : ℕ) → (pos 0 *ℤ pos b) ≤ℤ ((pos 0 *ℤ a) *ℤ pos 1)
    law' (pos a) b = omega (arith, ints)
    law' (negsuc a) b = omega (arith, ints)

-- the quotient itself, of a divisor above 0
pub Quotient-holds : (s : ℕ) (lo hi : ℤ) (x : Fraction) (n m : ℕ) (above : 0 < m) (n_above : 0 < n) → Quotient s lo hi x (ratio n m above) → Holds s lo hi (x *ℚ ratio m n n_above)
Quotient-holds s lo hi x n m above n_above q = record {
  low = record { crossed = recast q.low.crossed (left lo x.den) (right x.num (2 ^ s)) };
  high = record { crossed = recast q.high.crossed (right x.num (2 ^ s)) (left hi x.den) };
}
  where
    left : (l : ℤ) (b : ℕ) → l *ℤ pos (b * n) ≡ (l *ℤ pos n) *ℤ pos b
    left l b = rw (as_diff l) (simp ring (same_diff _ _ _ _ (omega arith)))

    right : (a : ℤ) (u : ℕ) → (a *ℤ pos m) *ℤ pos u ≡ a *ℤ pos (u * m)
    right a u = rw (as_diff a) (simp ring (same_diff _ _ _ _ (omega arith)))

-- c times a quotient that lies between a and b, where c a and c b lie between the ends
pub Quotient-scaled : (s : ℕ) (lo hi : ℤ) (c a b u : Fraction) (n m : ℕ) (above : 0 < m)
    → (a *ℚ ratio n m above) ≤ℚ u → u ≤ℚ (b *ℚ ratio n m above) → Holds s lo hi (c *ℚ a) → Holds s lo hi (c *ℚ b)
    → Quotient s lo hi (c *ℚ u) (ratio n m above)
Quotient-scaled s lo hi c a b u n m above under over at_a at_b = by_sign c.num c.den c.positive at_a at_b
  where
    by_sign : (z : ℤ) (e : ℕ) (e_above : 0 < e) → Holds s lo hi (record { num = z; den = e; positive = e_above } *ℚ a) → Holds s lo hi (record { num = z; den = e; positive = e_above } *ℚ b)
        → Quotient s lo hi (record { num = z; den = e; positive = e_above } *ℚ u) (ratio n m above)
    by_sign (pos z) e e_above p q =
        let k : Fraction = record { num = pos z; den = e; positive = e_above } in
        let d : Fraction = ratio n m above in
        record {
          low = ≤ℚ_trans (le_mul_right n m above p.low) (le_same (same_sym (same_mul_assoc k a d)) (same_refl (k *ℚ u)) (record { crossed = le_scaled z e (a *ℚ d).den u.den (a *ℚ d).num u.num under.crossed }));
          high = ≤ℚ_trans (le_same (same_refl (k *ℚ u)) (same_sym (same_mul_assoc k b d)) (record { crossed = le_scaled z e u.den (b *ℚ d).den u.num (b *ℚ d).num over.crossed })) (le_mul_right n m above q.high);
        }
    by_sign (negsuc z) e e_above p q =
        let k : Fraction = record { num = negsuc z; den = e; positive = e_above } in
        let d : Fraction = ratio n m above in
        record {
          low = ≤ℚ_trans (le_mul_right n m above q.low) (le_same (same_sym (same_mul_assoc k b d)) (same_refl (k *ℚ u)) (record { crossed = le_turned z e u.den (b *ℚ d).den u.num (b *ℚ d).num over.crossed }));
          high = ≤ℚ_trans (le_same (same_refl (k *ℚ u)) (same_sym (same_mul_assoc k a d)) (record { crossed = le_turned z e (a *ℚ d).den u.den (a *ℚ d).num u.num under.crossed })) (le_mul_right n m above p.high);
        }
