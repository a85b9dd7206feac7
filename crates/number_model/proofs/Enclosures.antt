-- What the operations on enclosures keep.
use Rattle.std.proofs.Common.{zero, suc, ◌≡◌, ℕ, ◌*◌, ◌^◌, ◌<◌, refl, sym, arith, unsigned_abs, ℤ, pos, negsuc, neg_ℤ, ◌+ℤ◌, ◌-ℤ◌, ◌*ℤ◌, ◌≤ℤ◌}
use Rattle.std.proofs.lemmas.Int.{ints}
use Rattle.std.proofs.lemmas.Nat.{pow_pos}
use lib.Signed.{≤ℤ_refl}
use Rattle.number_model.specs.Rounding.{floor_div, ceil_div}
use Rattle.number_model.specs.Fraction.{Fraction, ◌≤ℚ◌, IsRatio, ◌+ℚ◌, ◌-ℚ◌, ◌*ℚ◌, ◌/ℚ◌, neg_ℚ, times_ℚ}
use Rattle.number_model.specs.Enclosure.{scaled, Holds}
use Rattle.number_model.proofs.Ints.{*ℤ_swap, neg-*ℤ, flip_le, as_diff, same_diff, ring, ≤ℤ_trans, mul-le_pos, le_of_mul-le_pos, recast, between_low, between_high}
use Rattle.number_model.proofs.Roundings.{floor_by, ceil_by}
use Rattle.number_model.proofs.Same.{Holds-same}
use Rattle.number_model.proofs.Order.{≤ℚ_trans}

-- l / s + m / d is at most a / b + c / d, and so on for the upper ends
add_le : (s b d : ℕ) (l a m c : ℤ) → (l *ℤ pos b) ≤ℤ (a *ℤ pos s) → (m *ℤ pos d) ≤ℤ (c *ℤ pos s) → ((l +ℤ m) *ℤ pos (b * d)) ≤ℤ ((a *ℤ pos d +ℤ c *ℤ pos b) *ℤ pos s)
add_le s b d l a m c h k =
    let h' : ((l *ℤ pos b) *ℤ pos d) ≤ℤ ((a *ℤ pos s) *ℤ pos d) = mul-le_pos d h in
    let k' : ((m *ℤ pos d) *ℤ pos b) ≤ℤ ((c *ℤ pos s) *ℤ pos b) = mul-le_pos b k in
    let both : ((l *ℤ pos b) *ℤ pos d +ℤ (m *ℤ pos d) *ℤ pos b) ≤ℤ ((a *ℤ pos s) *ℤ pos d +ℤ (c *ℤ pos s) *ℤ pos b) = omega (arith, ints) in
    recast both
    (rw (as_diff l, as_diff m) (simp ring (same_diff _ _ _ _ (omega arith))))
    (rw (as_diff a, as_diff c) (simp ring (same_diff _ _ _ _ (omega arith))))

add_ge : (s b d : ℕ) (l a m c : ℤ) → (a *ℤ pos s) ≤ℤ (l *ℤ pos b) → (c *ℤ pos s) ≤ℤ (m *ℤ pos d) → ((a *ℤ pos d +ℤ c *ℤ pos b) *ℤ pos s) ≤ℤ ((l +ℤ m) *ℤ pos (b * d))
add_ge s b d l a m c h k =
    let h' : ((a *ℤ pos s) *ℤ pos d) ≤ℤ ((l *ℤ pos b) *ℤ pos d) = mul-le_pos d h in
    let k' : ((c *ℤ pos s) *ℤ pos b) ≤ℤ ((m *ℤ pos d) *ℤ pos b) = mul-le_pos b k in
    let both : ((a *ℤ pos s) *ℤ pos d +ℤ (c *ℤ pos s) *ℤ pos b) ≤ℤ ((l *ℤ pos b) *ℤ pos d +ℤ (m *ℤ pos d) *ℤ pos b) = omega (arith, ints) in
    recast both
    (rw (as_diff a, as_diff c) (simp ring (same_diff _ _ _ _ (omega arith))))
    (rw (as_diff l, as_diff m) (simp ring (same_diff _ _ _ _ (omega arith))))

pub Holds-add : (s : ℕ) (l h m k : ℤ) (x y : Fraction) → Holds s l h x → Holds s m k y → Holds s (l +ℤ m) (h +ℤ k) (x +ℚ y)
Holds-add s l h m k x y p q = record {
  low = record { crossed = add_le (2 ^ s) x.den y.den l x.num m y.num p.low.crossed q.low.crossed };
  high = record { crossed = add_ge (2 ^ s) x.den y.den h x.num k y.num p.high.crossed q.high.crossed };
}

pub Holds-neg : (s : ℕ) (l h : ℤ) (x : Fraction) → Holds s l h x → Holds s (neg_ℤ h) (neg_ℤ l) (neg_ℚ x)
Holds-neg s l h x p = record {
  low = record { crossed = recast (flip_le p.high.crossed) (neg-*ℤ h (pos x.den)) (neg-*ℤ x.num (pos (2 ^ s))) };
  high = record { crossed = recast (flip_le p.low.crossed) (neg-*ℤ x.num (pos (2 ^ s))) (neg-*ℤ l (pos x.den)) };
}

-- m at scale 2^s is at most each product of ends
mul_low : (s b d : ℕ) (m l h l' h' a c : ℤ) → 0 < s
    → (m *ℤ pos s) ≤ℤ (l *ℤ l') → (m *ℤ pos s) ≤ℤ (h *ℤ l') → (m *ℤ pos s) ≤ℤ (l *ℤ h') → (m *ℤ pos s) ≤ℤ (h *ℤ h')
    → (l *ℤ pos b) ≤ℤ (a *ℤ pos s) → (a *ℤ pos s) ≤ℤ (h *ℤ pos b)
    → (l' *ℤ pos d) ≤ℤ (c *ℤ pos s) → (c *ℤ pos s) ≤ℤ (h' *ℤ pos d)
    → (m *ℤ pos (b * d)) ≤ℤ ((a *ℤ c) *ℤ pos s)
mul_low s b d m l h l' h' a c above ll hl lh hh xl xh yl yh =
    let at_low : ((m *ℤ pos s) *ℤ pos b) ≤ℤ ((a *ℤ pos s) *ℤ l') =
    between_low _ l' (l *ℤ pos b) (h *ℤ pos b) (a *ℤ pos s)
    (recast (mul-le_pos b ll) refl (rw (as_diff l, as_diff l') (simp ring (same_diff _ _ _ _ (omega arith)))))
    (recast (mul-le_pos b hl) refl (rw (as_diff h, as_diff l') (simp ring (same_diff _ _ _ _ (omega arith)))))
    xl xh in
    let at_high : ((m *ℤ pos s) *ℤ pos b) ≤ℤ ((a *ℤ pos s) *ℤ h') =
    between_low _ h' (l *ℤ pos b) (h *ℤ pos b) (a *ℤ pos s)
    (recast (mul-le_pos b lh) refl (rw (as_diff l, as_diff h') (simp ring (same_diff _ _ _ _ (omega arith)))))
    (recast (mul-le_pos b hh) refl (rw (as_diff h, as_diff h') (simp ring (same_diff _ _ _ _ (omega arith)))))
    xl xh in
    let whole : (((m *ℤ pos s) *ℤ pos b) *ℤ pos d) ≤ℤ ((c *ℤ pos s) *ℤ (a *ℤ pos s)) =
    between_low _ (a *ℤ pos s) (l' *ℤ pos d) (h' *ℤ pos d) (c *ℤ pos s)
    (recast (mul-le_pos d at_low) refl (rw (as_diff a, as_diff l') (simp ring (same_diff _ _ _ _ (omega arith)))))
    (recast (mul-le_pos d at_high) refl (rw (as_diff a, as_diff h') (simp ring (same_diff _ _ _ _ (omega arith)))))
    yl yh in
    le_of_mul-le_pos s above
    (recast whole
    (rw (as_diff m) (simp ring (same_diff _ _ _ _ (omega arith))))
    (rw (as_diff a, as_diff c) (simp ring (same_diff _ _ _ _ (omega arith)))))

-- m at scale 2^s is at least each product of ends
mul_high : (s b d : ℕ) (m l h l' h' a c : ℤ) → 0 < s
    → (l *ℤ l') ≤ℤ (m *ℤ pos s) → (h *ℤ l') ≤ℤ (m *ℤ pos s) → (l *ℤ h') ≤ℤ (m *ℤ pos s) → (h *ℤ h') ≤ℤ (m *ℤ pos s)
    → (l *ℤ pos b) ≤ℤ (a *ℤ pos s) → (a *ℤ pos s) ≤ℤ (h *ℤ pos b)
    → (l' *ℤ pos d) ≤ℤ (c *ℤ pos s) → (c *ℤ pos s) ≤ℤ (h' *ℤ pos d)
    → ((a *ℤ c) *ℤ pos s) ≤ℤ (m *ℤ pos (b * d))
mul_high s b d m l h l' h' a c above ll hl lh hh xl xh yl yh =
    let at_low : ((a *ℤ pos s) *ℤ l') ≤ℤ ((m *ℤ pos s) *ℤ pos b) =
    between_high _ l' (l *ℤ pos b) (h *ℤ pos b) (a *ℤ pos s)
    (recast (mul-le_pos b ll) (rw (as_diff l, as_diff l') (simp ring (same_diff _ _ _ _ (omega arith)))) refl)
    (recast (mul-le_pos b hl) (rw (as_diff h, as_diff l') (simp ring (same_diff _ _ _ _ (omega arith)))) refl)
    xl xh in
    let at_high : ((a *ℤ pos s) *ℤ h') ≤ℤ ((m *ℤ pos s) *ℤ pos b) =
    between_high _ h' (l *ℤ pos b) (h *ℤ pos b) (a *ℤ pos s)
    (recast (mul-le_pos b lh) (rw (as_diff l, as_diff h') (simp ring (same_diff _ _ _ _ (omega arith)))) refl)
    (recast (mul-le_pos b hh) (rw (as_diff h, as_diff h') (simp ring (same_diff _ _ _ _ (omega arith)))) refl)
    xl xh in
    let whole : ((c *ℤ pos s) *ℤ (a *ℤ pos s)) ≤ℤ (((m *ℤ pos s) *ℤ pos b) *ℤ pos d) =
    between_high _ (a *ℤ pos s) (l' *ℤ pos d) (h' *ℤ pos d) (c *ℤ pos s)
    (recast (mul-le_pos d at_low) (rw (as_diff a, as_diff l') (simp ring (same_diff _ _ _ _ (omega arith)))) refl)
    (recast (mul-le_pos d at_high) (rw (as_diff a, as_diff h') (simp ring (same_diff _ _ _ _ (omega arith)))) refl)
    yl yh in
    le_of_mul-le_pos s above
    (recast whole
    (rw (as_diff a, as_diff c) (simp ring (same_diff _ _ _ _ (omega arith))))
    (rw (as_diff m) (simp ring (same_diff _ _ _ _ (omega arith)))))

-- m and k, at the scale 2^s, enclose the four products of the ends l, h and l', h'
pub record Encloses4 (s : ℕ) (m k l h l' h' : ℤ) : Type 0 where
  pub ll : ((m *ℤ pos s) ≤ℤ (l *ℤ l')) × ((l *ℤ l') ≤ℤ (k *ℤ pos s))
  pub hl : ((m *ℤ pos s) ≤ℤ (h *ℤ l')) × ((h *ℤ l') ≤ℤ (k *ℤ pos s))
  pub lh : ((m *ℤ pos s) ≤ℤ (l *ℤ h')) × ((l *ℤ h') ≤ℤ (k *ℤ pos s))
  pub hh : ((m *ℤ pos s) ≤ℤ (h *ℤ h')) × ((h *ℤ h') ≤ℤ (k *ℤ pos s))

pub Holds-mul : (s : ℕ) (m k l h l' h' : ℤ) (x y : Fraction) → Encloses4 (2 ^ s) m k l h l' h' → Holds s l h x → Holds s l' h' y → Holds s m k (x *ℚ y)
Holds-mul s m k l h l' h' x y e p q = record {
  low = record { crossed = mul_low (2 ^ s) x.den y.den m l h l' h' x.num y.num (pow_pos s) e.ll.0 e.hl.0 e.lh.0 e.hh.0 p.low.crossed p.high.crossed q.low.crossed q.high.crossed };
  high = record { crossed = mul_high (2 ^ s) x.den y.den k l h l' h' x.num y.num (pow_pos s) e.ll.1 e.hl.1 e.lh.1 e.hh.1 p.low.crossed p.high.crossed q.low.crossed q.high.crossed };
}

-- the same, for an answer that is known by an equation
pub Holds-add_is : (s : ℕ) (l h m k a b : ℤ) (x y : Fraction) → a ≡ l +ℤ m → b ≡ h +ℤ k → Holds s l h x → Holds s m k y → Holds s a b (x +ℚ y)
Holds-add_is s l h m k a b x y e f p q = rw (e, f) (Holds-add s l h m k x y p q)

pub Holds-sub_is : (s : ℕ) (l h m k a b : ℤ) (x y : Fraction) → a ≡ l -ℤ k → b ≡ h -ℤ m → Holds s l h x → Holds s m k y → Holds s a b (x -ℚ y)
Holds-sub_is s l h m k a b x y e f p q = rw (e, f) (Holds-add s l h (neg_ℤ k) (neg_ℤ m) x (neg_ℚ y) p (Holds-neg s m k y q))

pub Holds-mul_is : (s : ℕ) (m k l h l' h' a b : ℤ) (x y : Fraction) → a ≡ m → b ≡ k → Encloses4 (2 ^ s) m k l h l' h' → Holds s l h x → Holds s l' h' y → Holds s a b (x *ℚ y)
Holds-mul_is s m k l h l' h' a b x y e f g p q = rw (e, f) (Holds-mul s m k l h l' h' x y g p q)

relabel_le : (s t b : ℕ) (l a : ℤ) → (l *ℤ pos b) ≤ℤ (a *ℤ pos s) → (l *ℤ pos (b * t)) ≤ℤ ((a *ℤ pos s) *ℤ pos t)
relabel_le s t b l a h = recast (mul-le_pos t h) (rw (as_diff l) (simp ring (same_diff _ _ _ _ (omega arith)))) refl

relabel_ge : (s t b : ℕ) (l a : ℤ) → (a *ℤ pos s) ≤ℤ (l *ℤ pos b) → ((a *ℤ pos s) *ℤ pos t) ≤ℤ (l *ℤ pos (b * t))
relabel_ge s t b l a h = recast (mul-le_pos t h) refl (rw (as_diff l) (simp ring (same_diff _ _ _ _ (omega arith))))

-- the same mantissas at another scale
pub Holds-relabel : (s t : ℕ) (l h : ℤ) (x : Fraction) → Holds s l h x → Holds t l h (times_ℚ x (2 ^ s) (2 ^ t) (pow_pos t))
Holds-relabel s t l h x p = record {
  low = record { crossed = relabel_le (2 ^ s) (2 ^ t) x.den l x.num p.low.crossed };
  high = record { crossed = relabel_ge (2 ^ s) (2 ^ t) x.den h x.num p.high.crossed };
}

-- other mantissas at the scale t: l' / t is at most l / s, and h' / t at least h / s
rescale_le : (s t b : ℕ) (l l' a : ℤ) → 0 < s → (l' *ℤ pos s) ≤ℤ (l *ℤ pos t) → (l *ℤ pos b) ≤ℤ (a *ℤ pos s) → (l' *ℤ pos b) ≤ℤ (a *ℤ pos t)
rescale_le s t b l l' a above h k =
    let h' : ((l' *ℤ pos s) *ℤ pos b) ≤ℤ ((l *ℤ pos t) *ℤ pos b) = mul-le_pos b h in
    let k' : ((l *ℤ pos b) *ℤ pos t) ≤ℤ ((a *ℤ pos s) *ℤ pos t) = mul-le_pos t k in
    let m : (l *ℤ pos t) *ℤ pos b ≡ (l *ℤ pos b) *ℤ pos t = rw (as_diff l) (simp ring (same_diff _ _ _ _ (omega arith))) in
    le_of_mul-le_pos s above
    (recast (≤ℤ_trans (recast h' refl (sym m)) k')
    (rw (as_diff l') (simp ring (same_diff _ _ _ _ (omega arith))))
    (rw (as_diff a) (simp ring (same_diff _ _ _ _ (omega arith)))))

rescale_ge : (s t b : ℕ) (h h' a : ℤ) → 0 < s → (h *ℤ pos t) ≤ℤ (h' *ℤ pos s) → (a *ℤ pos s) ≤ℤ (h *ℤ pos b) → (a *ℤ pos t) ≤ℤ (h' *ℤ pos b)
rescale_ge s t b h h' a above p k =
    let p' : ((h *ℤ pos t) *ℤ pos b) ≤ℤ ((h' *ℤ pos s) *ℤ pos b) = mul-le_pos b p in
    let k' : ((a *ℤ pos s) *ℤ pos t) ≤ℤ ((h *ℤ pos b) *ℤ pos t) = mul-le_pos t k in
    let m : (h *ℤ pos b) *ℤ pos t ≡ (h *ℤ pos t) *ℤ pos b = rw (as_diff h) (simp ring (same_diff _ _ _ _ (omega arith))) in
    le_of_mul-le_pos s above
    (recast (≤ℤ_trans (recast k' refl (sym m)) p')
    (rw (as_diff a) (simp ring (same_diff _ _ _ _ (omega arith))))
    (rw (as_diff h') (simp ring (same_diff _ _ _ _ (omega arith)))))

pub Holds-rescale : (s t : ℕ) (l h l' h' : ℤ) (x : Fraction) → (l' *ℤ pos (2 ^ s)) ≤ℤ (l *ℤ pos (2 ^ t)) → (h *ℤ pos (2 ^ t)) ≤ℤ (h' *ℤ pos (2 ^ s)) → Holds s l h x → Holds t l' h' x
Holds-rescale s t l h l' h' x low high p = record {
  low = record { crossed = rescale_le (2 ^ s) (2 ^ t) x.den l l' x.num (pow_pos s) low p.low.crossed };
  high = record { crossed = rescale_ge (2 ^ s) (2 ^ t) x.den h h' x.num (pow_pos s) high p.high.crossed };
}

-- a / b, rounded down and up at the scale 2^s
Holds-quotient : (s b : ℕ) (a : ℤ) (above : 0 < b) → Holds s (floor_div (a *ℤ pos (2 ^ s)) b) (ceil_div (a *ℤ pos (2 ^ s)) b) (record { num = a; den = b; positive = above })
Holds-quotient s b a above = record {
  low = record { crossed = floor_by _ _ b above (≤ℤ_refl (a *ℤ pos (2 ^ s))) };
  high = record { crossed = ceil_by (a *ℤ pos (2 ^ s)) (a *ℤ pos (2 ^ s)) b above (≤ℤ_refl (a *ℤ pos (2 ^ s))) };
}

pub Holds-ratio : (s : ℕ) (a b : ℤ) (x : Fraction) → pos 1 ≤ℤ b → IsRatio a b x → Holds s (floor_div (a *ℤ pos (2 ^ s)) (unsigned_abs b)) (ceil_div (a *ℤ pos (2 ^ s)) (unsigned_abs b)) x
Holds-ratio s a (pos b) x h p =
    let above : 0 < b = omega (arith, ints) in
    Holds-same {x = record { num = a; den = b; positive = above }} (record { crossed = sym p.crossed }) (Holds-quotient s b a above)
Holds-ratio s a (negsuc b) x h p = absurd (omega (arith, ints, h))

-- m / 2^s itself

-- rounded outwards at another scale
pub Holds-scale : (s t : ℕ) (l h : ℤ) (x : Fraction) → Holds s l h x → Holds t (floor_div (l *ℤ pos (2 ^ t)) (2 ^ s)) (ceil_div (h *ℤ pos (2 ^ t)) (2 ^ s)) x
Holds-scale s t l h x p = Holds-rescale s t l h _ _ x (floor_by _ _ (2 ^ s) (pow_pos s) (≤ℤ_refl (l *ℤ pos (2 ^ t)))) (ceil_by (h *ℤ pos (2 ^ t)) (h *ℤ pos (2 ^ t)) (2 ^ s) (pow_pos s) (≤ℤ_refl (h *ℤ pos (2 ^ t)))) p

by_end : (v m : ℤ) (d : ℕ) → (v *ℤ pos d) *ℤ m ≡ (v *ℤ m) *ℤ pos d
by_end v m d = rw (as_diff v, as_diff m) (simp ring (same_diff _ _ _ _ (omega arith)))

turned : (c s : ℕ) (m : ℤ) → (m *ℤ pos c) *ℤ pos s ≡ (pos c *ℤ pos s) *ℤ m
turned c s m = rw (as_diff m) (simp ring (same_diff _ _ _ _ (omega arith)))

apart : (m : ℤ) (b c : ℕ) → m *ℤ pos (b * c) ≡ (m *ℤ pos c) *ℤ pos b
apart m b c = rw (as_diff m) (simp ring (same_diff _ _ _ _ (omega arith)))

positive_product : (l : ℤ) (d : ℕ) → pos 1 ≤ℤ l → 0 < d → pos 1 ≤ℤ (l *ℤ pos d)
positive_product l d h k = let p : (pos 1 *ℤ pos d) ≤ℤ (l *ℤ pos d) = mul-le_pos d h in omega (arith, ints)

-- m is at most each of the quotients l / v at the ends v of the divisor
div_low : (s b d c : ℕ) (m l l' h' a : ℤ) → 0 < s → (l' *ℤ m) ≤ℤ (l *ℤ pos s) → (h' *ℤ m) ≤ℤ (l *ℤ pos s)
    → (l *ℤ pos b) ≤ℤ (a *ℤ pos s) → (l' *ℤ pos d) ≤ℤ (pos c *ℤ pos s) → (pos c *ℤ pos s) ≤ℤ (h' *ℤ pos d)
    → (m *ℤ pos (b * c)) ≤ℤ ((a *ℤ pos d) *ℤ pos s)
div_low s b d c m l l' h' a above low high x yl yh =
    let at : ((pos c *ℤ pos s) *ℤ m) ≤ℤ ((l *ℤ pos s) *ℤ pos d) =
    between_high ((l *ℤ pos s) *ℤ pos d) m (l' *ℤ pos d) (h' *ℤ pos d) (pos c *ℤ pos s)
    (recast (mul-le_pos d low) (by_end l' m d) refl) (recast (mul-le_pos d high) (by_end h' m d) refl) yl yh in
    let short : (m *ℤ pos c) ≤ℤ (l *ℤ pos d) = le_of_mul-le_pos s above (recast at (turned c s m) (*ℤ_swap l d s)) in
    recast (≤ℤ_trans (recast (mul-le_pos b short) refl (*ℤ_swap l b d)) (mul-le_pos d x)) (apart m b c) (*ℤ_swap a d s)

-- m is at least each of the quotients h / v at the ends v of the divisor
div_high : (s b d c : ℕ) (m h l' h' a : ℤ) → 0 < s → (h *ℤ pos s) ≤ℤ (l' *ℤ m) → (h *ℤ pos s) ≤ℤ (h' *ℤ m)
    → (a *ℤ pos s) ≤ℤ (h *ℤ pos b) → (l' *ℤ pos d) ≤ℤ (pos c *ℤ pos s) → (pos c *ℤ pos s) ≤ℤ (h' *ℤ pos d)
    → ((a *ℤ pos d) *ℤ pos s) ≤ℤ (m *ℤ pos (b * c))
div_high s b d c m h l' h' a above low high x yl yh =
    let at : ((h *ℤ pos s) *ℤ pos d) ≤ℤ ((pos c *ℤ pos s) *ℤ m) =
    between_low ((h *ℤ pos s) *ℤ pos d) m (l' *ℤ pos d) (h' *ℤ pos d) (pos c *ℤ pos s)
    (recast (mul-le_pos d low) refl (by_end l' m d)) (recast (mul-le_pos d high) refl (by_end h' m d)) yl yh in
    let short : (h *ℤ pos d) ≤ℤ (m *ℤ pos c) = le_of_mul-le_pos s above (recast at (*ℤ_swap h d s) (turned c s m)) in
    recast (≤ℤ_trans (mul-le_pos d x) (recast (mul-le_pos b short) (*ℤ_swap h b d) refl)) (*ℤ_swap a d s) (apart m b c)

-- a and b, at the scale 2^s, enclose the quotients of the ends l, h by the ends l', h'
pub record EnclosesQuotients (s : ℕ) (a b l h l' h' : ℤ) : Type 0 where
  pub low_low : (l' *ℤ a) ≤ℤ (l *ℤ pos s)
  pub low_high : (h' *ℤ a) ≤ℤ (l *ℤ pos s)
  pub high_low : (h *ℤ pos s) ≤ℤ (l' *ℤ b)
  pub high_high : (h *ℤ pos s) ≤ℤ (h' *ℤ b)

-- by the numerator of the divisor, which is above 0
holds_div : (s : ℕ) (a b l h l' h' : ℤ) (x : Fraction) (num : ℤ) (den : ℕ) (positive : 0 < den) → pos 1 ≤ℤ l' → EnclosesQuotients (2 ^ s) a b l h l' h' → Holds s l h x
    → Holds s l' h' (record { num = num; den = den; positive = positive }) → Holds s a b (x /ℚ record { num = num; den = den; positive = positive })
holds_div s a b l h l' h' x (pos zero) den positive above e p q = absurd (omega (arith, ints, q.low.crossed, positive_product l' den above positive))
holds_div s a b l h l' h' x (pos (suc c)) den positive above e p q = record {
  low = record { crossed = div_low (2 ^ s) x.den den (suc c) a l l' h' x.num (pow_pos s) e.low_low e.low_high p.low.crossed q.low.crossed q.high.crossed };
  high = record { crossed = div_high (2 ^ s) x.den den (suc c) b h l' h' x.num (pow_pos s) e.high_low e.high_high p.high.crossed q.low.crossed q.high.crossed };
}
holds_div s a b l h l' h' x (negsuc c) den positive above e p q = absurd (omega (arith, ints, q.low.crossed, positive_product l' den above positive, pow_pos s))

pub Holds-div : (s : ℕ) (a b l h l' h' : ℤ) (x y : Fraction) → pos 1 ≤ℤ l' → EnclosesQuotients (2 ^ s) a b l h l' h' → Holds s l h x → Holds s l' h' y → Holds s a b (x /ℚ y)
Holds-div s a b l h l' h' x y above e p q = holds_div s a b l h l' h' x y.num y.den y.positive above e p q

-- ends further out

-- what lies between x and z lies between the lower end of x and the upper end of z
pub Holds-between : (s : ℕ) (l h l' h' : ℤ) (x y z : Fraction) → x ≤ℚ y → y ≤ℚ z → Holds s l h x → Holds s l' h' z → Holds s l h' y
Holds-between s l h l' h' x y z below above p q = record { low = ≤ℚ_trans p.low below; high = ≤ℚ_trans above q.high }
