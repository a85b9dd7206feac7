-- Segments whose slopes lie above 0 join: the enthalpy rises over all of them.
use Rattle.std.proofs.Common.{◌≡◌, ℕ, zero, suc, ◌+◌, ◌-◌, ◌*◌, ◌/◌, ◌^◌, ◌<◌, ◌≤◌, arith, refl, sym, inl, inr, ◌⊎◌, unsigned_abs, ℤ, pos, negsuc, neg_ℤ, ◌+ℤ◌, ◌*ℤ◌, ◌≤ℤ◌}
use Rattle.std.proofs.lemmas.Int.{ints, by_lt_z}
use Rattle.std.proofs.lemmas.Bool.{cases_lt}
use lib.Signed.{◌<ℤ◌}
use native.Mathlib.Nat.{mul-pos, mul-le-mul_right, lt-div-mul-add, div-mul-le_self, div-lt_iff_lt-mul}
use Rattle.number_model.specs.Fraction.{Fraction, ◌≤ℚ◌, ◌<ℚ◌, ◌-ℚ◌, ◌*ℚ◌, whole, inverse_of}
use Rattle.number_model.proofs.Ints.{*ℤ_swap, neg-*ℤ, mul-le_pos, le_of_mul-le_pos, recast, ≤ℤ_trans}
use Rattle.number_model.proofs.Order.{≤ℚ_refl, ≤ℚ_trans}
use Rattle.water_model.specs.Decimal.{integer}
use Rattle.water_model.specs.Water.{enthalpy}
use Rattle.slope_model.specs.Slope.{enthalpy_slope, IsInSegment, EachSegmentRises, EnthalpyRises}

-- ---- a quotient above 0
factor_above : (l a z : ℤ) (b d : ℕ) → 0 < b → pos 1 ≤ℤ l → pos 1 ≤ℤ z
    → (b_above : 0 < b) → integer l ≤ℚ (whole (10 ^ 9) *ℚ (record { num = a; den = b; positive = b_above } *ℚ inverse_of z d)) → pos 0 <ℤ a
factor_above l a (pos zero) b d above h k b_above p = absurd (omega (arith, ints, k))
factor_above l a (pos (suc n)) b d above h k b_above p =
    by_lt_z (pos 0) a (λ lt. lt)
    (λ le.
    let none : (a *ℤ pos d) ≤ℤ (pos 0 *ℤ pos d) = mul-le_pos d le in
    let some : (pos 1 *ℤ pos (1 * (b * suc n))) ≤ℤ (l *ℤ pos (1 * (b * suc n))) = mul-le_pos (1 * (b * suc n)) h in
    let size : 0 < b * suc n = mul-pos above (omega arith) in
    absurd (omega (arith, ints, none, some, size, p.crossed)))
factor_above l a (negsuc n) b d above h k b_above p = absurd (omega (arith, ints, k))

-- x < y, from and to the sign of y - x
pub difference_above : (x y : Fraction) → x <ℚ y → pos 1 ≤ℤ (y -ℚ x).num
difference_above x y h = law (x.num *ℤ pos y.den) (y.num *ℤ pos x.den) (neg_ℤ x.num *ℤ pos y.den) (neg-*ℤ x.num (pos y.den)) h.crossed
  where
    law : (u v w : ℤ) → w ≡ neg_ℤ u → u <ℤ v → pos 1 ≤ℤ (v +ℤ w)
    law u v w e h = omega (arith, ints, e, h)

above_difference : (x y : Fraction) → pos 0 <ℤ (y -ℚ x).num → x <ℚ y
above_difference x y h = record { crossed = law (x.num *ℤ pos y.den) (y.num *ℤ pos x.den) (neg_ℤ x.num *ℤ pos y.den) (neg-*ℤ x.num (pos y.den)) h }
  where
    law : (u v w : ℤ) → w ≡ neg_ℤ u → pos 0 <ℤ (v +ℤ w) → u <ℤ v
    law u v w e h = omega (arith, ints, e, h)

pub <ℚ_trans : {x y z : Fraction} → x <ℚ y → y <ℚ z → x <ℚ z
<ℚ_trans {x} {y} {z} h k =
    record {
      crossed = by_lt_z (x.num *ℤ pos z.den) (z.num *ℤ pos x.den) (λ lt. lt)
          (λ le.
          let a : ((z.num *ℤ pos x.den) *ℤ pos y.den) ≤ℤ ((x.num *ℤ pos z.den) *ℤ pos y.den) = mul-le_pos y.den le in
          let b : ((y.num *ℤ pos z.den) *ℤ pos x.den) ≤ℤ ((z.num *ℤ pos y.den) *ℤ pos x.den) = mul-le_pos x.den (below_le k.crossed) in
          let c : ((y.num *ℤ pos x.den) *ℤ pos z.den) ≤ℤ ((x.num *ℤ pos y.den) *ℤ pos z.den) =
          ≤ℤ_trans (recast b (*ℤ_swap y.num x.den z.den) refl) (≤ℤ_trans (recast a (*ℤ_swap z.num y.den x.den) refl) (recast (same_le refl) refl (*ℤ_swap x.num y.den z.den))) in
          absurd (clash h.crossed (le_of_mul-le_pos z.den z.positive c)));
    }
  where
    below_le : {a b : ℤ} → a <ℤ b → a ≤ℤ b
    below_le h = omega (arith, ints)

    same_le : {a b : ℤ} → a ≡ b → a ≤ℤ b
    same_le h = omega (arith, ints)

    clash : {a b : ℤ} → a <ℤ b → b ≤ℤ a → ⊥
    clash h k = omega (arith, ints)

module _ (p : ℕ) (rises : EachSegmentRises p) where
  within : (i : ℕ) → i < 180 → (t1 t2 : Fraction) → IsInSegment i t1 → IsInSegment i t2 → t1 <ℚ t2 → enthalpy p t1 <ℚ enthalpy p t2
  unfolding enthalpy_slope
  within i few t1 t2 s1 s2 less =
      let r = rises i few in
      let change = enthalpy p t2 -ℚ enthalpy p t1 in
      above_difference (enthalpy p t1) (enthalpy p t2)
      (factor_above r.0 change.num (t2 -ℚ t1).num change.den (t2 -ℚ t1).den change.positive r.2 (difference_above t1 t2 less) change.positive (r.3 t1 t2 s1 s2 less).low)

  from_whole : (n a : ℕ) → a + n ≤ 180 → (t : Fraction) → whole a <ℚ t → t ≤ℚ whole (a + n) → enthalpy p (whole a) <ℚ enthalpy p t
  from_whole zero a few t low high = absurd (none a t.num t.den low.crossed high.crossed)
    where
      none : (a : ℕ) (z : ℤ) (d : ℕ) → (pos a *ℤ pos d) <ℤ (z *ℤ pos 1) → (z *ℤ pos 1) ≤ℤ (pos (a + 0) *ℤ pos d) → ⊥
      none a z d h k = omega (arith, ints, h, k)
  from_whole (suc n) a few t low high =
      by_lt_z (pos (a + 1) *ℤ pos t.den) (t.num *ℤ pos 1)
      (λ past.
      <ℚ_trans (within a (omega (arith, few)) (whole a) (whole (a + 1)) (first_in a) (last_in a) (record { crossed = omega (arith, ints) }))
      (from_whole n (a + 1) (omega (arith, few)) t (record { crossed = past }) (record { crossed = further a n t.num t.den high.crossed })))
      (λ inside. within a (omega (arith, few)) (whole a) t (first_in a) (record { low = record { crossed = below_le low.crossed }; high = record { crossed = inside } }) low)
    where
      below_le : {a b : ℤ} → a <ℤ b → a ≤ℤ b
      below_le h = omega (arith, ints)

      further : (a n : ℕ) (z : ℤ) (d : ℕ) → (z *ℤ pos 1) ≤ℤ (pos (a + suc n) *ℤ pos d) → (z *ℤ pos 1) ≤ℤ (pos (a + 1 + n) *ℤ pos d)
      further a n z d h = omega (arith, ints, h)

      first_in : (a : ℕ) → IsInSegment a (whole a)
      first_in a = record { low = record { crossed = omega (arith, ints) }; high = record { crossed = omega (arith, ints) } }

      last_in : (a : ℕ) → IsInSegment a (whole (a + 1))
      last_in a = record { low = record { crossed = omega (arith, ints) }; high = record { crossed = omega (arith, ints) } }

-- ---- the segment of a temperature that lies below another
below_le : {a b : ℤ} → a <ℤ b → a ≤ℤ b
below_le h = omega (arith, ints)

not_negative : (z : ℤ) (d : ℕ) → (pos 0 *ℤ pos d) ≤ℤ (z *ℤ pos 1) → z ≡ pos (unsigned_abs z)
not_negative (pos n) d h = refl
not_negative (negsuc n) d h = absurd (omega (arith, ints, h))

few_segments : (m d e : ℕ) (y : ℤ) → 0 < d → (pos m *ℤ pos e) <ℤ (y *ℤ pos d) → (y *ℤ pos 1) ≤ℤ (pos 180 *ℤ pos e) → m / d < 180
few_segments m d e y above h k =
    (div-lt_iff_lt-mul above).1
    (below_180 (cases_lt m (180 * d)))
  where
    scaled : (y *ℤ pos d) ≤ℤ (pos (180 * e) *ℤ pos d)
    scaled = mul-le_pos d (recast k (sym (one y)) refl)
      where
        one : (y : ℤ) → y *ℤ pos 1 ≡ y
        one (pos n) = omega (arith, ints)
        one (negsuc n) = omega (arith, ints)

    below_180 : (m < 180 * d) ⊎ (180 * d ≤ m) → m < 180 * d
    below_180 (inl lt) = lt
    below_180 (inr le) = absurd (omega (arith, ints, h, scaled, mul-le-mul_right e le))

segment_low : (m d : ℕ) (z : ℤ) → z ≡ pos m → (pos (m / d) *ℤ pos d) ≤ℤ (z *ℤ pos 1)
segment_low m d z e = rw e (omega (arith, ints, div-mul-le_self m d))

segment_high : (m d : ℕ) (z : ℤ) → 0 < d → z ≡ pos m → (z *ℤ pos 1) <ℤ (pos (m / d + 1) *ℤ pos d)
segment_high m d z above e = rw e (omega (arith, ints, lt-div-mul-add {a = m} above))

pub joins : (p : ℕ) → EachSegmentRises p → EnthalpyRises p
joins p rises t1 t2 low high less =
    let m = unsigned_abs t1.num in
    let i = unsigned_abs t1.num / t1.den in
    let num : t1.num ≡ pos (unsigned_abs t1.num) = not_negative t1.num t1.den low.crossed in
    let few : unsigned_abs t1.num / t1.den < 180 = few_segments m t1.den t2.den t2.num t1.positive (rw num at less.crossed) high.crossed in
    let above : whole i ≤ℚ t1 = record { crossed = segment_low m t1.den t1.num num } in
    let under : t1 <ℚ whole (i + 1) = record { crossed = segment_high m t1.den t1.num t1.positive num } in
    let first : IsInSegment i t1 = record { low = above; high = record { crossed = below_le under.crossed } } in
    let next : whole i ≤ℚ whole (i + 1) = record { crossed = omega (arith, ints) } in
    by_lt_z (pos (i + 1) *ℤ pos t2.den) (t2.num *ℤ pos 1)
    (λ past.
    let rest : i + 1 + (180 - (i + 1)) ≡ 180 = omega (arith, few) in
    <ℚ_trans (within p rises i few t1 (whole (i + 1)) first (record { low = next; high = ≤ℚ_refl (whole (i + 1)) }) under)
    (from_whole p rises (180 - (i + 1)) (i + 1) (omega (arith, rest)) t2 (record { crossed = past }) (rw rest high)))
    (λ inside. within p rises i few t1 t2 first (record { low = ≤ℚ_trans above (record { crossed = below_le less.crossed }); high = record { crossed = inside } }) less)
