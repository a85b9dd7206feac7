-- The reduced variables as ratios of whole numbers, and how they run with the temperature.
use Rattle.std.proofs.Common.{◌≡◌, ℕ, zero, suc, ◌+◌, ◌-◌, ◌*◌, ◌^◌, ◌<◌, ◌≤◌, arith, lit<, lit≤, ap, sym, subst, ◌∙◌, refl, ℤ, pos, negsuc, neg_ℤ, ◌*ℤ◌, ◌+ℤ◌, ◌≤ℤ◌, unsigned_abs}
use Rattle.std.proofs.Common.{inl, inr}
use Rattle.std.proofs.lemmas.Bool.{cases_lt}
use Rattle.std.proofs.lemmas.Int.{ints}
use lib.IntN.{◌-ℤ◌}
use native.Mathlib.Nat.{mul-le-mul_right, mul-le-mul_left, mul-pos, mul-le-mul, le_of_mul-le-mul_right, div-mul-le_self, lt-div-mul-add}
use Rattle.number_model.specs.Fraction.{Fraction, ◌≤ℚ◌, ◌≈◌, neg_ℚ, ◌*ℚ◌, whole, part, inverse, inverse_of}
use Rattle.number_model.specs.Enclosure.{Holds, SpanHolds}
use Rattle.number_model.specs.Rounding.{floor_div, ceil_div}
use Rattle.number_model.proofs.Ints.{recast, ≤ℤ_trans, le_of_mul-le_pos, neg-*ℤ}
use Rattle.number_model.proofs.Order.{IsRatio-written, ≤ℚ_trans}
use Rattle.number_model.proofs.Roundings.{le-floor_div, ceil_div-le}
use Rattle.number_model.proofs.Same.{same_refl, same_sym, same_trans, same_mul, same_add, Holds-same}
use Rattle.number_model.proofs.Enclosures.{Holds-ratio}
use Rattle.interval_num.specs.Ends.{quotient_floor, quotient_ceil}
use Rattle.water_model.specs.Decimal.{decimal, minus}
use Rattle.water_model.specs.Water.{kelvin, tau_of, x_of, y_of}
use Rattle.region1_algebra.specs.Forms.{u_of, r_of}
use Rattle.enclosure_sizes.specs.Size.{Sized, parts}
use Rattle.region1_terms.specs.Variables.{x_size, u_size, r_size, y_size, z_size}

-- ---- ratios of naturals
abbrev pub ratio : (n d : ℕ) → 0 < d → Fraction
ratio n d above = record { num = pos n; den = d; positive = above }

Holds-between : (s : ℕ) (l h l' h' : ℤ) (x y z : Fraction) → x ≤ℚ y → y ≤ℚ z → Holds s l h x → Holds s l' h' z → Holds s l h' y
Holds-between s l h l' h' x y z a b p q = record { low = ≤ℚ_trans p.low a; high = ≤ℚ_trans b q.high }

-- a ratio between two others lies between their rounded ends
pub Holds-hull : (A1 B1 A2 B2 A B : ℕ) → 0 < B1 → 0 < B2 → (above : 0 < B) → A1 * B ≤ A * B1 → A * B2 ≤ A2 * B
    → Holds 56 (quotient_floor 56 (pos A1) (pos B1)) (quotient_ceil 56 (pos A2) (pos B2)) (ratio A B above)
Holds-hull A1 B1 A2 B2 A B above1 above2 above low high =
    Holds-between 56 _ (quotient_ceil 56 (pos A1) (pos B1)) (quotient_floor 56 (pos A2) (pos B2)) _ (ratio A1 B1 above1) (ratio A B above) (ratio A2 B2 above2)
    (record { crossed = omega (arith, ints, low) }) (record { crossed = omega (arith, ints, high) })
    (Holds-ratio 56 (pos A1) (pos B1) (ratio A1 B1 above1) (omega (arith, ints)) (IsRatio-written (pos A1) (pos B1) (ratio A1 B1 above1) refl refl))
    (Holds-ratio 56 (pos A2) (pos B2) (ratio A2 B2 above2) (omega (arith, ints)) (IsRatio-written (pos A2) (pos B2) (ratio A2 B2 above2) refl refl))

-- ---- the width of a hull
apart_by : (p q r t l y c d : ℕ) → (l + (y + 2)) * p ≤ r + p → t ≤ (l + 1) * q → r * q ≤ t * p + c * d → y * (p * q) ≤ c * d
apart_by p q r t l y c d h m apart = omega (arith, mul-le-mul_right q h, mul-le-mul_right p m)

slope_of : (p q r t l y c d k e Q : ℕ) → (l + (y + 2)) * p ≤ r + p → t ≤ (l + 1) * q → r * q ≤ t * p + c * d → 0 < Q → Q ≤ p * q → c * k ≤ e * Q → y * k ≤ e * d
slope_of p q r t l y c d k e Q h m apart above small enough =
    let near : y * (p * q) ≤ c * d = apart_by p q r t l y c d h m apart in
    le_of_mul-le-mul_right {m = y * k} {k = Q} (omega (arith, mul-le-mul_right k near, mul-le-mul_left (y * k) small, mul-le-mul_right d enough)) above

pub floor_near : (z : ℤ) (D : ℕ) → 0 < D → z ≤ℤ ((floor_div z D *ℤ pos D) +ℤ pos D)
floor_near (pos a) D h = omega (arith, ints, lt-div-mul-add {a = a} h)
floor_near (negsuc a) D h = omega (arith, ints, div-mul-le_self a D)

pub ceil_near : (z : ℤ) (D : ℕ) → 0 < D → (ceil_div z D *ℤ pos D) ≤ℤ (z +ℤ pos D)
ceil_near z D h =
    let near : neg_ℤ z ≤ℤ ((floor_div (neg_ℤ z) D *ℤ pos D) +ℤ pos D) = floor_near (neg_ℤ z) D h in
    let back : neg_ℤ (floor_div (neg_ℤ z) D *ℤ pos D) ≤ℤ (z +ℤ pos D) = omega (arith, ints, near) in
    recast back (neg-*ℤ (floor_div (neg_ℤ z) D) (pos D)) refl

gap_width : (l h : ℤ) (k e d : ℕ) → pos 0 ≤ℤ l → l ≤ℤ h → ((y : ℕ) → h ≡ (l +ℤ pos (y + 2)) → y * k ≤ e * d) → ((h -ℤ l) *ℤ pos k) ≤ℤ pos (2 * k + e * d)
gap_width (pos l) (pos h) k e d low order each =
    let is : pos h -ℤ pos l ≡ pos (h - l) = omega (arith, ints, order) in
    let bound : (h - l) * k ≤ 2 * k + e * d = elim (cases_lt h (l + 2)) [
      | inl near ↦ (let small : h - l ≤ 2 = omega arith in omega (arith, mul-le-mul_right k small))
      | inr far ↦ (let step = each (h - l - 2) (omega (arith, ints, far)) in let sum : h - l ≡ (h - l - 2) + 2 = omega arith in rw sum (omega (arith, step)))
    ] in
    rw is (omega (arith, ints, bound))
gap_width (pos l) (negsuc h) k e d low order each = absurd (omega (arith, ints, order))
gap_width (negsuc l) h k e d low order each = absurd (omega (arith, ints, low))

-- the conditions on the ratios at the two ends of a span that is d wide
pub record IsSpread (A1 B1 A2 B2 C d m e Q : ℕ) : Type 0 where
  pub low : 0 < B1
  pub high : 0 < B2
  pub order : A1 * B2 ≤ A2 * B1
  pub apart : A2 * B1 ≤ A1 * B2 + C * d
  pub most : A2 * 2 ^ 56 ≤ m * B2
  pub above : 0 < Q
  pub least : Q ≤ B2 * B1
  pub slope : C * 2 ^ 56 * parts ≤ e * Q

pub ordered_ends : (A1 B1 A2 B2 : ℕ) → 0 < B1 → 0 < B2 → A1 * B2 ≤ A2 * B1 → quotient_floor 56 (pos A1) (pos B1) ≤ℤ quotient_ceil 56 (pos A2) (pos B2)
ordered_ends A1 B1 A2 B2 above1 above2 order =
    let held = Holds-hull A1 B1 A2 B2 A1 B1 above1 above2 above1 (omega arith) order in
    le_of_mul-le_pos B1 above1 (≤ℤ_trans held.low.crossed (recast held.high.crossed refl refl))

pub hull_low : (A B : ℕ) → 0 < B → pos 0 ≤ℤ quotient_floor 56 (pos A) (pos B)
hull_low A B above = le-floor_div (pos 0) (pos A *ℤ pos (2 ^ 56)) B above (omega (arith, ints))

pub Sized-hull : (A1 B1 A2 B2 C d m e Q : ℕ) → IsSpread A1 B1 A2 B2 C d m e Q
    → Sized m (2 * parts) e d (quotient_floor 56 (pos A1) (pos B1)) (quotient_ceil 56 (pos A2) (pos B2))
Sized-hull A1 B1 A2 B2 C d m e Q w =
    let l = quotient_floor 56 (pos A1) (pos B1) in
    let h = quotient_ceil 56 (pos A2) (pos B2) in
    let low : pos 0 ≤ℤ quotient_floor 56 (pos A1) (pos B1) = hull_low A1 B1 w.low in
    let under : pos (A1 * 2 ^ 56) ≤ℤ ((quotient_floor 56 (pos A1) (pos B1) *ℤ pos B1) +ℤ pos B1) = floor_near (pos A1 *ℤ pos (2 ^ 56)) B1 w.low in
    let over : (quotient_ceil 56 (pos A2) (pos B2) *ℤ pos B2) ≤ℤ (pos (A2 * 2 ^ 56) +ℤ pos B2) = ceil_near (pos A2 *ℤ pos (2 ^ 56)) B2 w.high in
    record {
      low = omega (arith, ints, low);
      high = ceil_div-le (pos m) (pos A2 *ℤ pos (2 ^ 56)) B2 w.high (omega (arith, ints, w.most));
      width = gap_width l h parts e d low (ordered_ends A1 B1 A2 B2 w.low w.high w.order)
          (λ y is. far l y low is under over);
    }
  where
    far : (l : ℤ) (y : ℕ) → pos 0 ≤ℤ l → quotient_ceil 56 (pos A2) (pos B2) ≡ (l +ℤ pos (y + 2)) → pos (A1 * 2 ^ 56) ≤ℤ ((l *ℤ pos B1) +ℤ pos B1)
        → (quotient_ceil 56 (pos A2) (pos B2) *ℤ pos B2) ≤ℤ (pos (A2 * 2 ^ 56) +ℤ pos B2) → y * parts ≤ e * d
    far (negsuc l) y low is under over = absurd (omega (arith, ints, low))
    far (pos l) y low is under over =
        let over' = rw is at over in
        slope_of B2 B1 (A2 * 2 ^ 56) (A1 * 2 ^ 56) l y (C * 2 ^ 56) d parts e Q
        (omega (arith, ints, over')) (omega (arith, ints, under)) (omega (arith, mul-le-mul_right (2 ^ 56) w.apart)) w.above w.least w.slope

-- ---- the temperature a / b in °C: k / (100 b) kelvin, and n = 138600000 b - 1222 k
pub record IsAt (b k n : ℕ) : Type 0 where
  pub rest : n + 1222 * k ≡ 138600000 * b
  pub k_above : 0 < k
  pub n_above : 0 < n

pub same_inverse : (x : Fraction) (n d : ℕ) (d_above : 0 < d) (n_above : 0 < n) → x ≈ ratio n d d_above → inverse x ≈ ratio d n n_above
same_inverse x n d d_above n_above h = at x.num x.den x.positive h.crossed
  where
    at : (a : ℤ) (b : ℕ) → 0 < b → a *ℤ pos d ≡ pos n *ℤ pos b → inverse_of a b ≈ ratio d n n_above
    at (pos zero) b above e = absurd (omega (arith, ints, e, mul-pos n_above above))
    at (pos (suc m)) b above e = record { crossed = omega (arith, ints, e) }
    at (negsuc m) b above e = absurd (omega (arith, ints, e, mul-pos n_above above))

module _ (a b k n : ℕ) (above : 0 < b) (w : IsAt b k n) (kelvin_at : k ≡ 100 * a + 27315 * b) where
  kelvin_is : kelvin (ratio a b above) ≈ ratio k (100 * b) (mul-pos (lit< tt) above)
  kelvin_is = rw kelvin_at (record { crossed = ap pos (omega arith) })

  pub u_is : u_of (ratio a b above) ≈ ratio k (138600 * b) (mul-pos (lit< tt) above)
  u_is = rw kelvin_at (record { crossed = ap pos (omega arith) })

  pub tau_is : tau_of (ratio a b above) ≈ ratio (138600 * b) k w.k_above
  tau_is =
      same_trans (same_mul (same_refl (whole 1386)) (same_inverse (kelvin (ratio a b above)) k (100 * b) (mul-pos (lit< tt) above) w.k_above kelvin_is))
      (record { crossed = ap pos (omega arith) })

  pub y_is : y_of (ratio a b above) ≈ ratio n (1000 * k) (mul-pos (lit< tt) w.k_above)
  y_is =
      let num : pos (138600 * b) *ℤ pos 1000 +ℤ (negsuc 1221 *ℤ pos k) ≡ pos n = omega (arith, ints, w.rest) in
      same_trans (same_add tau_is (same_refl (neg_ℚ (decimal (pos 1222) (minus 3)))))
      (record { crossed = ap (λ z. z *ℤ pos (1000 * k)) num ∙ ap (λ z. pos n *ℤ pos z) (turn k) })
    where
      turn : (k : ℕ) → 1000 * k ≡ k * 1000
      turn k = omega arith

  pub y_quarter_is : (y_of (ratio a b above) *ℚ part 4 (lit< tt)) ≈ ratio n (4000 * k) (mul-pos (lit< tt) w.k_above)
  y_quarter_is = same_trans (same_mul y_is (same_refl (part 4 (lit< tt)))) (record { crossed = ap pos (omega arith) })

  pub inverse_y_is : inverse (y_of (ratio a b above)) ≈ ratio (1000 * k) n w.n_above
  inverse_y_is = same_inverse (y_of (ratio a b above)) n (1000 * k) (mul-pos (lit< tt) w.k_above) w.n_above y_is

  pub r_is : r_of (ratio a b above) ≈ ratio n (138600000 * b) (mul-pos (lit< tt) above)
  r_is = same_trans (same_mul y_is u_is) (record { crossed = ap pos (omega arith) })

-- ---- two temperatures, of which the first is at most the second
pub record Runs (k n b l m c : ℕ) : Type 0 where
  pub rises : k * c ≤ l * b
  pub falls : m * b ≤ n * c
  pub turns : k * m ≤ l * n

pub runs : (k n b l m c : ℕ) → n + 1222 * k ≡ 138600000 * b → m + 1222 * l ≡ 138600000 * c → k * c ≤ l * b → Runs k n b l m c
runs k n b l m c e f order = record {
  rises = order;
  falls = omega (arith, order, ap (λ t. t * c) e, ap (λ t. t * b) f);
  turns = omega (arith, order, ap (λ t. l * t) e, ap (λ t. k * t) f);
}

-- a temperature of a span
pub record IsIn (lo hi : ℕ) (t : Fraction) (a : ℕ) : Type 0 where
  pub num : t.num ≡ pos a
  pub low : lo * t.den ≤ a * 1000000000
  pub high : a * 1000000000 ≤ hi * t.den

pub in_span : (lo hi : ℕ) (t : Fraction) → SpanHolds lo hi t → IsIn lo hi t (unsigned_abs t.num)
in_span lo hi t s =
    let num : t.num ≡ pos (unsigned_abs t.num) = sign t.num t.den t.positive lo s.low.crossed in
    record { num = num; low = omega (arith, ints, s.low.crossed, num); high = omega (arith, ints, s.high.crossed, num) }
  where
    sign : (z : ℤ) (d : ℕ) → 0 < d → (lo : ℕ) → (pos lo *ℤ pos d) ≤ℤ (z *ℤ pos 1000000000) → z ≡ pos (unsigned_abs z)
    sign (pos n) d above lo h = refl
    sign (negsuc n) d above lo h = absurd (omega (arith, ints, h))

-- the same with factors on both sides
by_factor : (f g x y b : ℕ) → x * b ≤ y * g → x * (f * b) ≤ y * (f * g)
by_factor f g x y b h = omega (arith, mul-le-mul_left f h)

by_factor_back : (f g x y b : ℕ) → y * g ≤ x * b → y * (f * g) ≤ x * (f * b)
by_factor_back f g x y b h = omega (arith, mul-le-mul_left f h)

turned : (f k m l n : ℕ) → k * m ≤ l * n → m * (f * k) ≤ n * (f * l)
turned f k m l n h = omega (arith, mul-le-mul_left f h)

turned_back : (f k m l n : ℕ) → k * m ≤ l * n → m * (f * k) ≤ n * (f * l)
turned_back f k m l n h = omega (arith, mul-le-mul_left f h)

by_thousand : (k m l n : ℕ) → k * m ≤ l * n → (1000 * k) * m ≤ (1000 * l) * n
by_thousand k m l n h = omega (arith, h)

widened : (f N U M T G d : ℕ) → N * U ≡ M * T + G * d → N * (f * U) ≤ M * (f * T) + f * G * d
widened f N U M T G d e = omega (arith, ap (λ t. f * t) e)

widened_back : (f N U M T G d : ℕ) → N * U ≡ M * T + G * d → (f * U) * N ≤ (f * T) * M + f * G * d
widened_back f N U M T G d e = omega (arith, ap (λ t. f * t) e)

-- the temperature n nanodegrees, by 10^7 times its kelvins
nano_is : (n : ℕ) → n ≤ 180000000000 → IsAt 10000000 (273150000000 + n) (1386000000000000 - 1222 * (273150000000 + n))
nano_is n h = record { rest = omega arith; k_above = omega arith; n_above = omega arith }

module _ (lo hi : ℕ) (order : lo ≤ hi) (top : hi ≤ 180000000000) (t : Fraction) (s : SpanHolds lo hi t) where
  pub t_is : t ≡ ratio (unsigned_abs t.num) t.den t.positive
  t_is = let z : ℤ → Fraction = λ z. record { num = z; den = t.den; positive = t.positive } in ap z (in_span lo hi t s).num

  pub is_at : IsAt t.den (100 * unsigned_abs t.num + 27315 * t.den) (138600000 * t.den - 1222 * (100 * unsigned_abs t.num + 27315 * t.den))
  is_at =
      let i = in_span lo hi t s in
      let small : hi * t.den ≤ 180000000000 * t.den = mul-le-mul_right t.den top in
      let under : unsigned_abs t.num ≤ 180 * t.den = omega (arith, i.high, small) in
      record { rest = omega (arith, under); k_above = omega (arith, t.positive); n_above = omega (arith, under, t.positive) }

  pub from_low : Runs (273150000000 + lo) (1386000000000000 - 1222 * (273150000000 + lo)) 10000000 (100 * unsigned_abs t.num + 27315 * t.den) (138600000 * t.den - 1222 * (100 * unsigned_abs t.num + 27315 * t.den)) t.den
  from_low = runs _ _ _ _ _ _ (nano_is lo (omega arith)).rest is_at.rest (omega (arith, (in_span lo hi t s).low))

  pub to_high : Runs (100 * unsigned_abs t.num + 27315 * t.den) (138600000 * t.den - 1222 * (100 * unsigned_abs t.num + 27315 * t.den)) t.den (273150000000 + hi) (1386000000000000 - 1222 * (273150000000 + hi)) 10000000
  to_high = runs _ _ _ _ _ _ is_at.rest (nano_is hi top).rest (omega (arith, (in_span lo hi t s).high))

  pub u_holds : Holds 56 (quotient_floor 56 (pos (273150000000 + lo)) (pos 1386000000000)) (quotient_ceil 56 (pos (273150000000 + hi)) (pos 1386000000000)) (u_of t)
  u_holds =
      let P : Fraction → Type 0 = λ x. Holds 56 (quotient_floor 56 (pos (273150000000 + lo)) (pos 1386000000000)) (quotient_ceil 56 (pos (273150000000 + hi)) (pos 1386000000000)) (u_of x) in
      subst P (sym t_is) (Holds-same (same_sym (u_is (unsigned_abs t.num) t.den _ _ t.positive is_at refl))
      (Holds-hull (273150000000 + lo) 1386000000000 (273150000000 + hi) 1386000000000 _ _ (lit< tt) (lit< tt) _ (by_factor 138600 10000000 _ _ _ from_low.rises) (by_factor_back 138600 10000000 _ _ _ to_high.rises)))

  pub r_holds : Holds 56 (quotient_floor 56 (pos (1386000000000000 - 1222 * (273150000000 + hi))) (pos 1386000000000000)) (quotient_ceil 56 (pos (1386000000000000 - 1222 * (273150000000 + lo))) (pos 1386000000000000)) (r_of t)
  r_holds =
      let P : Fraction → Type 0 = λ x. Holds 56 (quotient_floor 56 (pos (1386000000000000 - 1222 * (273150000000 + hi))) (pos 1386000000000000)) (quotient_ceil 56 (pos (1386000000000000 - 1222 * (273150000000 + lo))) (pos 1386000000000000)) (r_of x) in
      subst P (sym t_is) (Holds-same (same_sym (r_is (unsigned_abs t.num) t.den _ _ t.positive is_at refl))
      (Holds-hull (1386000000000000 - 1222 * (273150000000 + hi)) 1386000000000000 (1386000000000000 - 1222 * (273150000000 + lo)) 1386000000000000 _ _ (lit< tt) (lit< tt) _ (by_factor 138600000 10000000 _ _ _ to_high.falls) (by_factor_back 138600000 10000000 _ _ _ from_low.falls)))

  pub y_holds : Holds 56 (quotient_floor 56 (pos (1386000000000000 - 1222 * (273150000000 + hi))) (pos (4000 * (273150000000 + hi)))) (quotient_ceil 56 (pos (1386000000000000 - 1222 * (273150000000 + lo))) (pos (4000 * (273150000000 + lo)))) (y_of t *ℚ part 4 (lit< tt))
  y_holds =
      let P : Fraction → Type 0 = λ x. Holds 56 (quotient_floor 56 (pos (1386000000000000 - 1222 * (273150000000 + hi))) (pos (4000 * (273150000000 + hi)))) (quotient_ceil 56 (pos (1386000000000000 - 1222 * (273150000000 + lo))) (pos (4000 * (273150000000 + lo)))) (y_of x *ℚ part 4 (lit< tt)) in
      subst P (sym t_is) (Holds-same (same_sym (y_quarter_is (unsigned_abs t.num) t.den _ _ t.positive is_at refl))
      (Holds-hull (1386000000000000 - 1222 * (273150000000 + hi)) (4000 * (273150000000 + hi)) (1386000000000000 - 1222 * (273150000000 + lo)) (4000 * (273150000000 + lo)) _ _ (omega arith) (omega arith) _ (turned 4000 _ _ _ _ to_high.turns) (turned_back 4000 _ _ _ _ from_low.turns)))

  pub z_holds : Holds 56 (quotient_floor 56 (pos (1000 * (273150000000 + lo))) (pos (1386000000000000 - 1222 * (273150000000 + lo)))) (quotient_ceil 56 (pos (1000 * (273150000000 + hi))) (pos (1386000000000000 - 1222 * (273150000000 + hi)))) (inverse (y_of t))
  z_holds =
      let P : Fraction → Type 0 = λ x. Holds 56 (quotient_floor 56 (pos (1000 * (273150000000 + lo))) (pos (1386000000000000 - 1222 * (273150000000 + lo)))) (quotient_ceil 56 (pos (1000 * (273150000000 + hi))) (pos (1386000000000000 - 1222 * (273150000000 + hi)))) (inverse (y_of x)) in
      subst P (sym t_is) (Holds-same (same_sym (inverse_y_is (unsigned_abs t.num) t.den _ _ t.positive is_at refl))
      (Holds-hull (1000 * (273150000000 + lo)) (1386000000000000 - 1222 * (273150000000 + lo)) (1000 * (273150000000 + hi)) (1386000000000000 - 1222 * (273150000000 + hi)) _ _ (omega (arith, top, order)) (omega (arith, top)) _ (by_thousand _ _ _ _ from_low.turns) (by_thousand _ _ _ _ to_high.turns)))

-- ---- the sizes
apart_ends : (T U N M G d : ℕ) → N + 1222 * T ≡ G → M + 1222 * U ≡ G → U ≡ T + d → N * U ≡ M * T + G * d
apart_ends T U N M G d e f g = omega (arith, ap (λ t. t * U) e, ap (λ t. t * T) f, ap (λ t. G * t) g)

module _ (lo hi : ℕ) (order : lo ≤ hi) (top : hi ≤ 180000000000) where
  ends_run : Runs (273150000000 + lo) (1386000000000000 - 1222 * (273150000000 + lo)) 10000000 (273150000000 + hi) (1386000000000000 - 1222 * (273150000000 + hi)) 10000000
  ends_run = runs _ _ _ _ _ _ (nano_is lo (omega arith)).rest (nano_is hi top).rest (omega arith)

  pub u_spread : IsSpread (273150000000 + lo) 1386000000000 (273150000000 + hi) 1386000000000 1386000000000 (hi - lo) u_size.most u_size.per (1386000000000 * 1386000000000)
  u_spread = record { low = lit< tt; high = lit< tt; order = omega arith; apart = omega arith; most = omega arith; above = lit< tt; least = lit≤ tt; slope = lit≤ tt }

  pub r_spread : IsSpread (1386000000000000 - 1222 * (273150000000 + hi)) 1386000000000000 (1386000000000000 - 1222 * (273150000000 + lo)) 1386000000000000 (1222 * 1386000000000000) (hi - lo) r_size.most r_size.per (1386000000000000 * 1386000000000000)
  r_spread = record { low = lit< tt; high = lit< tt; order = omega arith; apart = omega arith; most = omega arith; above = lit< tt; least = lit≤ tt; slope = lit≤ tt }

  spread : (1386000000000000 - 1222 * (273150000000 + lo)) * (273150000000 + hi) ≡ (1386000000000000 - 1222 * (273150000000 + hi)) * (273150000000 + lo) + 1386000000000000 * (hi - lo)
  spread = apart_ends (273150000000 + lo) (273150000000 + hi) _ _ 1386000000000000 (hi - lo) (omega arith) (omega arith) (omega arith)

  pub y_spread : IsSpread (1386000000000000 - 1222 * (273150000000 + hi)) (4000 * (273150000000 + hi)) (1386000000000000 - 1222 * (273150000000 + lo)) (4000 * (273150000000 + lo)) (4000 * 1386000000000000) (hi - lo) y_size.most y_size.per ((4000 * 273150000000) * (4000 * 273150000000))
  y_spread = record {
    low = omega arith;
    high = omega arith;
    order = turned 4000 _ _ _ _ ends_run.turns;
    apart = widened 4000 _ _ _ _ 1386000000000000 (hi - lo) spread;
    most = omega arith;
    above = lit< tt;
    least =
        let one : 4000 * 273150000000 ≤ 4000 * (273150000000 + lo) = omega arith in
        let two : 4000 * 273150000000 ≤ 4000 * (273150000000 + hi) = omega arith in
        mul-le-mul one two;
    slope = lit≤ tt;
  }

  pub z_spread : IsSpread (1000 * (273150000000 + lo)) (1386000000000000 - 1222 * (273150000000 + lo)) (1000 * (273150000000 + hi)) (1386000000000000 - 1222 * (273150000000 + hi)) (1000 * 1386000000000000) (hi - lo) z_size.most z_size.per (832250700000000 * 832250700000000)
  z_spread = record {
    low = omega arith;
    high = omega arith;
    order = by_thousand _ _ _ _ ends_run.turns;
    apart = widened_back 1000 _ _ _ _ 1386000000000000 (hi - lo) spread;
    most = omega arith;
    above = lit< tt;
    least =
        let one : 832250700000000 ≤ 1386000000000000 - 1222 * (273150000000 + hi) = omega arith in
        let two : 832250700000000 ≤ 1386000000000000 - 1222 * (273150000000 + lo) = omega arith in
        mul-le-mul one two;
    slope = lit≤ tt;
  }

-- ---- the pressure
pub x_holds : (p : ℕ) → p ≤ 4000 → Holds 56 (quotient_floor 56 (pos (117363 - p)) (pos 132240)) (quotient_ceil 56 (pos (117363 - p)) (pos 132240)) (x_of p *ℚ part 8 (lit< tt))
x_holds p h = Holds-ratio 56 (pos (117363 - p)) (pos 132240) (x_of p *ℚ part 8 (lit< tt)) (omega (arith, ints)) (record { crossed = omega (arith, ints) })

pub x_spread : (p d : ℕ) → 1100 ≤ p → p ≤ 4000 → IsSpread (117363 - p) 132240 (117363 - p) 132240 0 d x_size.most x_size.per 1
x_spread p d low high = record { low = lit< tt; high = lit< tt; order = omega arith; apart = omega arith; most = omega arith; above = lit< tt; least = lit≤ tt; slope = lit≤ tt }

-- any pressure from 1,100 to 4,000 kPa
pub x_within : (p : ℕ) → 1100 ≤ p → p ≤ 4000 → Holds 56 (quotient_floor 56 (pos 113363) (pos 132240)) (quotient_ceil 56 (pos 116263) (pos 132240)) (x_of p *ℚ part 8 (lit< tt))
x_within p low high =
    Holds-same {x = ratio (117363 - p) 132240 (lit< tt)} (record { crossed = omega (arith, ints) })
    (Holds-hull 113363 132240 116263 132240 (117363 - p) 132240 (lit< tt) (lit< tt) (lit< tt) (omega arith) (omega arith))
