-- The quotients that the ends hold.
use Rattle.std.proofs.Common.{◌≡◌, ℕ, zero, suc, ◌+◌, ◌*◌, ◌^◌, ◌<◌, refl, sym, subst, arith, unsigned_abs, lit<, ℤ, pos, negsuc, neg_ℤ, ◌+ℤ◌, ◌*ℤ◌, ◌≤ℤ◌}
use Rattle.std.proofs.lemmas.Int.{ints}
use Rattle.std.proofs.lemmas.Nat.{pow_pos}
use Rattle.std.proofs.Math.Nat.{mul-pos}
use lib.Signed.{≤ℤ_refl}
use Rattle.number_model.specs.Fraction.{Fraction, ◌≈◌, ◌-ℚ◌, ◌*ℚ◌, ◌/ℚ◌, times_ℚ, whole, inverse, inverse_of}
use Rattle.number_model.specs.Enclosure.{Holds, SpanHolds}
use Rattle.number_model.specs.Rounding.{floor_div, ceil_div}
use Rattle.number_model.proofs.Ints.{as_diff, same_diff, ring, ≤ℤ_trans, mul-le_pos, recast, *ℤ_swap}
use Rattle.number_model.proofs.Roundings.{floor_by, ceil_by}
use Rattle.number_model.proofs.Same.{Holds-same, same_refl, same_sym, same_trans, same_mul}
use Rattle.number_model.proofs.Enclosures.{Holds-relabel, Holds-div, EnclosesQuotients}
use Rattle.platinum_model.specs.Element.{microdegrees}
use Rattle.heat_model.specs.Heat.{LiesBetween}
use Rattle.heat_coeff.specs.Quotients.{least_floor, greatest_ceil}
use Rattle.heat_coeff.proofs.Quotients.{least_floor-below, greatest_ceil-above}

-- x 2^48 k / (y 2^56 m)
abbrev scaled_quotient : (k m : ℕ) (x y : Fraction) → Fraction
scaled_quotient k m x y = (times_ℚ x (2 ^ 48) (2 ^ 0) (pow_pos 0) *ℚ whole k) /ℚ (times_ℚ y (2 ^ 56) (2 ^ 0) (pow_pos 0) *ℚ whole m)

Holds-times : (n : ℕ) (l h : ℤ) (x : Fraction) → Holds 0 l h x → Holds 0 (l *ℤ pos n) (h *ℤ pos n) (x *ℚ whole n)
Holds-times n l h x p = record {
  low = record { crossed = recast (mul-le_pos n p.low.crossed) (moved l x.den) (moved' x.num) };
  high = record { crossed = recast (mul-le_pos n p.high.crossed) (moved' x.num) (moved h x.den) };
}
  where
    moved : (l : ℤ) (d : ℕ) → (l *ℤ pos n) *ℤ pos (d * 1) ≡ (l *ℤ pos d) *ℤ pos n
    moved l d = rw (as_diff l) (simp ring (same_diff _ _ _ _ (omega arith)))

    moved' : (a : ℤ) → (a *ℤ pos n) *ℤ pos (2 ^ 0) ≡ (a *ℤ pos (2 ^ 0)) *ℤ pos n
    moved' a = *ℤ_swap a n (2 ^ 0)

commuted : (m : ℕ) (a : ℤ) → pos m *ℤ a ≡ a *ℤ pos m
commuted m a = rw (as_diff a) (simp ring (same_diff _ _ _ _ (omega arith)))

over_one : (n : ℤ) → n *ℤ pos (2 ^ 0) ≡ n
over_one n = omega (arith, ints)

-- p times a quotient by p that is rounded down or up
below_by : (q n : ℤ) (p : ℕ) → 0 < p → q ≤ℤ floor_div n p → (pos p *ℤ q) ≤ℤ (n *ℤ pos (2 ^ 0))
below_by q n p h k = recast (≤ℤ_trans (mul-le_pos p k) (floor_by n n p h (≤ℤ_refl n))) (commuted p q) (over_one n)

above_by : (q n : ℤ) (p : ℕ) → 0 < p → ceil_div n p ≤ℤ q → (n *ℤ pos (2 ^ 0)) ≤ℤ (pos p *ℤ q)
above_by q n p h k = recast (≤ℤ_trans (ceil_by n n p h (≤ℤ_refl n)) (mul-le_pos p k)) (over_one n) (commuted p q)

ends_enclose : (n l : ℤ) (p q : ℕ) → 0 < p → 0 < q → EnclosesQuotients (2 ^ 0) (least_floor n p q) (greatest_ceil l p q) n l (pos p) (pos q)
ends_enclose n l p q h k =
    let low = least_floor-below n p q in
    let high = greatest_ceil-above l p q in
    record {
      low_low = below_by _ n p h low.0;
      low_high = below_by _ n q k low.1;
      high_low = above_by _ l p h high.0;
      high_high = above_by _ l q k high.1;
    }

Holds-quotient : (k m a b : ℕ) (dlo dhi : ℤ) (x y : Fraction) → 0 < m → 0 < a → 0 < b → Holds 48 dlo dhi x → Holds 56 (pos a) (pos b) y
    → Holds 0 (least_floor (dlo *ℤ pos k) (a * m) (b * m)) (greatest_ceil (dhi *ℤ pos k) (a * m) (b * m)) (scaled_quotient k m x y)
Holds-quotient k m a b dlo dhi x y m_above a_above b_above p q =
    let am : 0 < a * m = mul-pos a_above m_above in
    let bm : 0 < b * m = mul-pos b_above m_above in
    Holds-div 0 _ _ _ _ _ _ _ _ (omega (arith, ints, am)) (ends_enclose (dlo *ℤ pos k) (dhi *ℤ pos k) (a * m) (b * m) am bm)
    (Holds-times k dlo dhi _ (Holds-relabel 48 0 dlo dhi x p))
    (Holds-times m (pos a) (pos b) _ (Holds-relabel 56 0 (pos a) (pos b) y q))

LiesBetween-held : (lo hi : ℤ) (x : Fraction) → Holds 0 lo hi x → LiesBetween lo hi x
LiesBetween-held lo hi x p = record { low = record { crossed = p.low.crossed }; high = record { crossed = p.high.crossed } }

-- ---- the quotient as the definitions write it
inverse_positive : (n d : ℕ) (h : 0 < n) → inverse_of (pos n) d ≈ (record { num = pos d; den = n; positive = h })
inverse_positive zero d h = absurd (omega arith)
inverse_positive (suc n) d h = record { crossed = refl }

litre_is : (x : Fraction) (c yd : ℕ) (positive : 0 < yd) → 0 < c
    → scaled_quotient 256000 1 x (record { num = pos c; den = yd; positive = positive }) ≈ ((whole 1000 *ℚ x) /ℚ (record { num = pos c; den = yd; positive = positive }))
litre_is x c yd positive h =
    let scaled = inverse_positive (c * 2 ^ 56 * 1) (yd * 1 * 1) (mul-pos (mul-pos h (lit< tt)) (lit< tt)) in
    same_trans (same_mul (same_refl (times_ℚ x (2 ^ 48) (2 ^ 0) (pow_pos 0) *ℚ whole 256000)) scaled)
    (same_trans (record { crossed = law x.num x.den c yd })
    (same_sym (same_mul (same_refl (whole 1000 *ℚ x)) (inverse_positive c yd h))))
  where
    law : (a : ℤ) (b c d : ℕ) → (((a *ℤ pos (2 ^ 48)) *ℤ pos 256000) *ℤ pos (d * 1 * 1)) *ℤ pos (1 * b * c) ≡ ((pos 1000 *ℤ a) *ℤ pos d) *ℤ pos (b * 2 ^ 0 * 1 * (c * 2 ^ 56 * 1))
    law a b c d = rw (as_diff a) (simp ring (same_diff _ _ _ _ (omega arith)))

-- the difference of two temperatures that are m microdegrees apart
difference_inverse : (tf tr m : ℕ) (h : 0 < m) → tf ≡ tr + m → inverse (microdegrees tf -ℚ microdegrees tr) ≈ (record { num = pos 1000000000000; den = m * 1000000; positive = mul-pos h (lit< tt) })
difference_inverse tf tr m h e =
    let apart : pos tf *ℤ pos 1000000 +ℤ neg_ℤ (pos tr) *ℤ pos 1000000 ≡ pos (m * 1000000) = omega (arith, ints, e) in
    subst (λ z. inverse_of z 1000000000000 ≈ (record { num = pos 1000000000000; den = m * 1000000; positive = mul-pos h (lit< tt) })) (sym apart) (inverse_positive (m * 1000000) 1000000000000 (mul-pos h (lit< tt)))

factor_is : (x : Fraction) (c yd : ℕ) (positive : 0 < yd) (tf tr m : ℕ) → 0 < c → 0 < m → tf ≡ tr + m
    → scaled_quotient 256000000000000 m x (record { num = pos c; den = yd; positive = positive })
    ≈ (whole 1000000 *ℚ ((whole 1 /ℚ (record { num = pos c; den = yd; positive = positive }) *ℚ x) /ℚ (microdegrees tf -ℚ microdegrees tr)))
factor_is x c yd positive tf tr m h k e =
    let scaled = inverse_positive (c * 2 ^ 56 * m) (yd * 1 * 1) (mul-pos (mul-pos h (lit< tt)) k) in
    same_trans (same_mul (same_refl (times_ℚ x (2 ^ 48) (2 ^ 0) (pow_pos 0) *ℚ whole 256000000000000)) scaled)
    (same_trans (record { crossed = law x.num x.den c yd })
    (same_sym
    (same_mul (same_refl (whole 1000000))
    (same_mul (same_mul (same_mul (same_refl (whole 1)) (inverse_positive c yd h)) (same_refl x)) (difference_inverse tf tr m k e)))))
  where
    law : (a : ℤ) (b c d : ℕ) → (((a *ℤ pos (2 ^ 48)) *ℤ pos 256000000000000) *ℤ pos (d * 1 * 1)) *ℤ pos (1 * (1 * c * b * (m * 1000000)))
        ≡ (pos 1000000 *ℤ (((pos 1 *ℤ pos d) *ℤ a) *ℤ pos 1000000000000)) *ℤ pos (b * 2 ^ 0 * 1 * (c * 2 ^ 56 * m))
    law a b c d = rw (as_diff a) (simp ring (same_diff _ _ _ _ (omega arith)))

-- a number that is held by ends above 0 lies above 0
held_positive : (a h : ℤ) (num : ℤ) (den : ℕ) (positive : 0 < den) → pos 1 ≤ℤ a → Holds 56 a h (record { num = num; den = den; positive = positive }) → pos 1 ≤ℤ num
held_positive a h num den positive above p =
    let t : (pos 1 *ℤ pos den) ≤ℤ (a *ℤ pos den) = mul-le_pos den above in
    omega (arith, ints, t, p.low.crossed, positive)

holds_quotient : (k m : ℕ) (vlo vhi dlo dhi : ℤ) (x y : Fraction) → 0 < m → pos 1 ≤ℤ vlo → vlo ≤ℤ vhi → Holds 48 dlo dhi x → Holds 56 vlo vhi y
    → Holds 0 (least_floor (dlo *ℤ pos k) (unsigned_abs vlo * m) (unsigned_abs vhi * m)) (greatest_ceil (dhi *ℤ pos k) (unsigned_abs vlo * m) (unsigned_abs vhi * m)) (scaled_quotient k m x y)
holds_quotient k m (pos a) (pos b) dlo dhi x y m_above above rising p q =
    Holds-quotient k m a b dlo dhi x y m_above (omega (arith, ints, above)) (omega (arith, ints, above, rising)) p q
holds_quotient k m (pos a) (negsuc b) dlo dhi x y m_above above rising p q = absurd (omega (arith, ints, rising))
holds_quotient k m (negsuc a) vhi dlo dhi x y m_above above rising p q = absurd (omega (arith, ints, above))

litre_held : (vlo vhi dlo dhi : ℤ) (x : Fraction) (num : ℤ) (den : ℕ) (positive : 0 < den) → pos 1 ≤ℤ vlo → pos 1 ≤ℤ num → vlo ≤ℤ vhi → Holds 48 dlo dhi x → Holds 56 vlo vhi (record { num = num; den = den; positive = positive })
    → LiesBetween (least_floor (dlo *ℤ pos 256000) (unsigned_abs vlo * 1) (unsigned_abs vhi * 1)) (greatest_ceil (dhi *ℤ pos 256000) (unsigned_abs vlo * 1) (unsigned_abs vhi * 1)) ((whole 1000 *ℚ x) /ℚ (record { num = num; den = den; positive = positive }))
litre_held vlo vhi dlo dhi x (pos c) den positive above y_above rising p q =
    LiesBetween-held _ _ _ (Holds-same (litre_is x c den positive (omega (arith, ints, y_above))) (holds_quotient 256000 1 vlo vhi dlo dhi x _ (lit< tt) above rising p q))
litre_held vlo vhi dlo dhi x (negsuc c) den positive above y_above rising p q = absurd (omega (arith, ints, y_above))

pub litre_between : (vlo vhi dlo dhi : ℤ) (x y : Fraction) → pos 1 ≤ℤ vlo → vlo ≤ℤ vhi → Holds 48 dlo dhi x → Holds 56 vlo vhi y
    → LiesBetween (least_floor (dlo *ℤ pos 256000) (unsigned_abs vlo * 1) (unsigned_abs vhi * 1)) (greatest_ceil (dhi *ℤ pos 256000) (unsigned_abs vlo * 1) (unsigned_abs vhi * 1)) ((whole 1000 *ℚ x) /ℚ y)
litre_between vlo vhi dlo dhi x y above rising p q =
    litre_held vlo vhi dlo dhi x y.num y.den y.positive above (held_positive vlo vhi y.num y.den y.positive above q) rising p q

factor_held : (tf tr m : ℕ) (vlo vhi dlo dhi : ℤ) (x : Fraction) (num : ℤ) (den : ℕ) (positive : 0 < den) → 0 < m → tf ≡ tr + m → pos 1 ≤ℤ vlo → pos 1 ≤ℤ num → vlo ≤ℤ vhi → Holds 48 dlo dhi x → Holds 56 vlo vhi (record { num = num; den = den; positive = positive })
    → LiesBetween (least_floor (dlo *ℤ pos 256000000000000) (unsigned_abs vlo * m) (unsigned_abs vhi * m)) (greatest_ceil (dhi *ℤ pos 256000000000000) (unsigned_abs vlo * m) (unsigned_abs vhi * m)) (whole 1000000 *ℚ ((whole 1 /ℚ (record { num = num; den = den; positive = positive }) *ℚ x) /ℚ (microdegrees tf -ℚ microdegrees tr)))
factor_held tf tr m vlo vhi dlo dhi x (pos c) den positive m_above e above y_above rising p q =
    LiesBetween-held _ _ _ (Holds-same (factor_is x c den positive tf tr m (omega (arith, ints, y_above)) m_above e) (holds_quotient 256000000000000 m vlo vhi dlo dhi x _ m_above above rising p q))
factor_held tf tr m vlo vhi dlo dhi x (negsuc c) den positive m_above e above y_above rising p q = absurd (omega (arith, ints, y_above))

pub factor_between : (tf tr m : ℕ) (vlo vhi dlo dhi : ℤ) (x y : Fraction) → 0 < m → tf ≡ tr + m → pos 1 ≤ℤ vlo → vlo ≤ℤ vhi → Holds 48 dlo dhi x → Holds 56 vlo vhi y
    → LiesBetween (least_floor (dlo *ℤ pos 256000000000000) (unsigned_abs vlo * m) (unsigned_abs vhi * m)) (greatest_ceil (dhi *ℤ pos 256000000000000) (unsigned_abs vlo * m) (unsigned_abs vhi * m)) (whole 1000000 *ℚ ((whole 1 /ℚ y *ℚ x) /ℚ (microdegrees tf -ℚ microdegrees tr)))
factor_between tf tr m vlo vhi dlo dhi x y m_above e above rising p q =
    factor_held tf tr m vlo vhi dlo dhi x y.num y.den y.positive m_above e above (held_positive vlo vhi y.num y.den y.positive above q) rising p q

pub SpanHolds-point : (lo hi t : ℕ) → lo ≡ t * 1000 → hi ≡ t * 1000 → SpanHolds lo hi (microdegrees t)
SpanHolds-point lo hi t e f = record { low = record { crossed = omega (arith, ints, e) }; high = record { crossed = omega (arith, ints, f) } }
