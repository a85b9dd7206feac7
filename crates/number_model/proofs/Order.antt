-- The order of fractions.
use Rattle.std.proofs.Common.{◌≡◌, ℕ, ◌*◌, ◌<◌, sym, refl, arith, ℤ, pos, negsuc, ◌*ℤ◌, ◌≤ℤ◌}
use Rattle.std.proofs.lemmas.Int.{ints, by_lt_z}
use Rattle.std.proofs.lemmas.Cmp.{int_ranked, by_ranked}
use Rattle.std.specs.Ordering.{int_cmp}
use Rattle.std.specs.declared.cmp.Ordering.TheVariants.{Less, Equal, Greater}
use Rattle.std.proofs.Math.Nat.{mul-pos}
use lib.Signed.{◌<ℤ◌, ≤ℤ_refl}
use Rattle.number_model.specs.Fraction.{Fraction, ◌≤ℚ◌, IsRatio, IsOrder}
use Rattle.number_model.proofs.Ints.{*ℤ_swap, as_diff, same_diff, ring, mul-le_pos, le_of_mul-le_pos, recast, ≤ℤ_trans}
use Rattle.number_model.proofs.Same.{cancel}

-- x as it is written
pub IsRatio-written : (a b : ℤ) (x : Fraction) → x.num ≡ a → pos x.den ≡ b → IsRatio a b x
IsRatio-written a b x e f = record { crossed = rw (← e, ← f) refl }

pub ≤ℚ_refl : (x : Fraction) → x ≤ℚ x
≤ℚ_refl x = record { crossed = ≤ℤ_refl (x.num *ℤ pos x.den) }

pub ≤ℚ_trans : {x y z : Fraction} → x ≤ℚ y → y ≤ℚ z → x ≤ℚ z
≤ℚ_trans {x} {y} {z} h k = record {
  crossed = le_of_mul-le_pos y.den y.positive
      (≤ℤ_trans (recast (mul-le_pos z.den h.crossed) (*ℤ_swap x.num z.den y.den) refl) (recast (mul-le_pos x.den k.crossed) (*ℤ_swap y.num x.den z.den) (*ℤ_swap z.num x.den y.den)));
}

-- p / u = q / v = m / k for positive k and m
below : {p q u v : ℤ} (k m : ℕ) → 0 < k → 0 < m → p *ℤ pos k ≡ u *ℤ pos m → q *ℤ pos k ≡ v *ℤ pos m → p <ℤ q → u <ℤ v
below {p} {q} {u} {v} k m above over e f h =
    by_lt_z u v (λ lt. lt)
    (λ le. let back : q ≤ℤ p = le_of_mul-le_pos k above (recast (mul-le_pos m le) f e) in absurd (omega (arith, ints)))

same : {p q u v : ℤ} (k m : ℕ) → 0 < m → p *ℤ pos k ≡ u *ℤ pos m → q *ℤ pos k ≡ v *ℤ pos m → p ≡ q → u ≡ v
same {p} {q} {u} {v} k m over e f h = cancel m over (let g : p *ℤ pos k ≡ q *ℤ pos k = rw h refl in rw (← e, ← f) g)

cmp_less : (u v : ℤ) → u <ℤ v → int_cmp u v ≡ Less
cmp_less u v h = by_ranked _ _ _ (int_cmp u v) (int_ranked u v _ refl) (λ e p. e) (λ e p. absurd (omega (arith, ints))) (λ e p. absurd (omega (arith, ints)))

cmp_equal : (u v : ℤ) → u ≡ v → int_cmp u v ≡ Equal
cmp_equal u v h = by_ranked _ _ _ (int_cmp u v) (int_ranked u v _ refl) (λ e p. absurd (omega (arith, ints))) (λ e p. e) (λ e p. absurd (omega (arith, ints)))

cmp_greater : (u v : ℤ) → v <ℤ u → int_cmp u v ≡ Greater
cmp_greater u v h = by_ranked _ _ _ (int_cmp u v) (int_ranked u v _ refl) (λ e p. absurd (omega (arith, ints))) (λ e p. absurd (omega (arith, ints))) (λ e p. e)

-- the cross products have the order of the fractions
IsOrder-naturals : (a c : ℤ) (b d : ℕ) (x y : Fraction) → 0 < b → 0 < d → IsRatio a (pos b) x → IsRatio c (pos d) y → IsOrder (int_cmp (a *ℤ pos d) (c *ℤ pos b)) x y
IsOrder-naturals a c b d x y above over p q =
    let u = a *ℤ pos d in
    let v = c *ℤ pos b in
    let k = b * d in
    let m = x.den * y.den in
    let k_above : 0 < k = mul-pos above over in
    let m_above : 0 < m = mul-pos x.positive y.positive in
    let left : (x.num *ℤ pos y.den) *ℤ pos k ≡ u *ℤ pos m = scaled_left x.num a b d x.den y.den p.crossed in
    let right : (y.num *ℤ pos x.den) *ℤ pos k ≡ v *ℤ pos m = scaled_right y.num c b d x.den y.den q.crossed in
    record {
      less = (λ e. record { crossed = below m k m_above k_above (sym left) (sym right) (int_ranked u v Less (sym e)) }, λ h. cmp_less u v (below k m k_above m_above left right h.crossed));
      equal = (λ e. record { crossed = same m k k_above (sym left) (sym right) (int_ranked u v Equal (sym e)) }, λ h. cmp_equal u v (same k m m_above left right h.crossed));
      greater = (λ e. record { crossed = below m k m_above k_above (sym right) (sym left) (int_ranked u v Greater (sym e)) }, λ h. cmp_greater u v (below k m k_above m_above right left h.crossed));
    }
  where
    scaled_left : (n a : ℤ) (b d e f : ℕ) → n *ℤ pos b ≡ a *ℤ pos e → (n *ℤ pos f) *ℤ pos (b * d) ≡ (a *ℤ pos d) *ℤ pos (e * f)
    scaled_left n a b d e f h =
        let turned : (n *ℤ pos f) *ℤ pos (b * d) ≡ (n *ℤ pos b) *ℤ pos (f * d) = rw (as_diff n) (simp ring (same_diff _ _ _ _ (omega arith))) in
        let turned' : (a *ℤ pos d) *ℤ pos (e * f) ≡ (a *ℤ pos e) *ℤ pos (f * d) = rw (as_diff a) (simp ring (same_diff _ _ _ _ (omega arith))) in
        rw (turned, turned', h) refl

    scaled_right : (n c : ℤ) (b d e f : ℕ) → n *ℤ pos d ≡ c *ℤ pos f → (n *ℤ pos e) *ℤ pos (b * d) ≡ (c *ℤ pos b) *ℤ pos (e * f)
    scaled_right n c b d e f h =
        let turned : (n *ℤ pos e) *ℤ pos (b * d) ≡ (n *ℤ pos d) *ℤ pos (e * b) = rw (as_diff n) (simp ring (same_diff _ _ _ _ (omega arith))) in
        let turned' : (c *ℤ pos b) *ℤ pos (e * f) ≡ (c *ℤ pos f) *ℤ pos (e * b) = rw (as_diff c) (simp ring (same_diff _ _ _ _ (omega arith))) in
        rw (turned, turned', h) refl

pub IsOrder-crossed : (a b c d : ℤ) (x y : Fraction) → pos 1 ≤ℤ b → pos 1 ≤ℤ d → IsRatio a b x → IsRatio c d y → IsOrder (int_cmp (a *ℤ d) (c *ℤ b)) x y
IsOrder-crossed a (pos b) c (pos d) x y h k p q = IsOrder-naturals a c b d x y (omega (arith, ints)) (omega (arith, ints)) p q
IsOrder-crossed a (negsuc b) c d x y h k p q = absurd (omega (arith, ints, h))
IsOrder-crossed a (pos b) c (negsuc d) x y h k p q = absurd (omega (arith, ints, k))
