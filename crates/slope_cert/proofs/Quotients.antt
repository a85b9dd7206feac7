-- The slope of the enthalpy as R tau1 tau2 times the quotient of the differences of g_tau and y.
use Rattle.std.proofs.Common.{◌≡◌, ℕ, ◌+◌, ◌-◌, ◌*◌, ◌<◌, ◌≤◌, arith, lit<, lit≤, ap, sym, subst, refl, unsigned_abs, ℤ, pos, neg_ℤ, ◌+ℤ◌, ◌*ℤ◌, ◌≤ℤ◌}
use Rattle.std.proofs.lemmas.Int.{ints}
use native.Mathlib.Nat.{mul-pos, mul-le-mul}
use Rattle.number_model.specs.Fraction.{Fraction, ◌<ℚ◌, ◌-ℚ◌, ◌*ℚ◌, ◌/ℚ◌, ◌≈◌, inverse}
use Rattle.number_model.specs.Enclosure.{Holds, SpanHolds}
use lib.Signed.{◌<ℤ◌}
use Rattle.number_model.specs.Rounding.{IsWithin}
use Rattle.number_model.proofs.Ints.{as_diff, same_diff, pos-diff, ring, ≤ℤ_trans}
use Rattle.number_model.proofs.Same.{same_refl, same_sym, same_trans, same_mul, Holds-same}
use Rattle.water_model.specs.Water.{tau_of, x_of, y_of, gas_constant, g_tau, enthalpy}
use Rattle.region1_algebra.specs.Forms.{heat_factor}
use Rattle.region1_algebra.proofs.Factors.{enthalpy_is}
use Rattle.region1_terms.proofs.Temperatures.{ratio, same_inverse, Holds-hull, IsSpread, in_span, t_is, is_at, from_low, to_high, tau_is, y_is, inverse_y_is}
use Rattle.interval_num.specs.Ends.{quotient_floor, quotient_ceil}
use Rattle.enclosure_sizes.specs.Size.{SizedBy}
use Rattle.slope_cert.specs.Sizes.{tau_size, gas_constant_size}
use Rattle.slope_model.specs.Slope.{enthalpy_slope}
use Rattle.slope_cert.proofs.Terms.{Apart, same_sub, sub_scaled}

-- at t °C, with t = m / d: 100 d times the kelvins, and 100 d times 1000 y of them
abbrev pub kelvins : Fraction → ℕ
kelvins t = 100 * unsigned_abs t.num + 27315 * t.den

abbrev pub rest : Fraction → ℕ
rest t = 138600000 * t.den - 1222 * kelvins t

-- t2 - t1 = rise / (d1 d2)
abbrev pub rise : (t1 t2 : Fraction) → ℕ
rise t1 t2 = unsigned_abs t2.num * t1.den - unsigned_abs t1.num * t2.den

apart_by : (n1 n2 k1 k2 m1 m2 d1 d2 e : ℕ) → n1 + 1222 * k1 ≡ 138600000 * d1 → n2 + 1222 * k2 ≡ 138600000 * d2
    → k1 ≡ 100 * m1 + 27315 * d1 → k2 ≡ 100 * m2 + 27315 * d2 → m2 * d1 ≡ m1 * d2 + e → n1 * k2 ≡ n2 * k1 + 13860000000 * e
apart_by n1 n2 k1 k2 m1 m2 d1 d2 e f g p q h =
    omega (arith, h, ap (λ t. t * k2) f, ap (λ t. t * k1) g, ap (λ t. d1 * t) q, ap (λ t. d2 * t) p)

ratio_sub : (a b e n : ℕ) (above : 0 < n) → a ≡ b + e → (ratio a n above -ℚ ratio b n above) ≈ ratio e n above
ratio_sub a b e n above h = record { crossed = law }
  where
    law : (pos a *ℤ pos n +ℤ neg_ℤ (pos b) *ℤ pos n) *ℤ pos n ≡ pos e *ℤ pos (n * n)
    law = rw (h, pos-diff (e * (n * n))) (simp ring (same_diff _ _ _ _ (omega arith)))

less_crossed : (z1 z2 : ℤ) (m1 m2 d1 d2 : ℕ) → z1 ≡ pos m1 → z2 ≡ pos m2 → (z1 *ℤ pos d2) <ℤ (z2 *ℤ pos d1) → m1 * d2 < m2 * d1
less_crossed z1 z2 m1 m2 d1 d2 e f h = let h' = rw (e, f) at h in omega (arith, ints, h')

module _ (lo hi : ℕ) (order : lo ≤ hi) (top : hi ≤ 180000000000) where
  module _ (t : Fraction) (s : SpanHolds lo hi t) where
    pub tau_ratio : tau_of t ≈ ratio (138600 * t.den) (kelvins t) (is_at lo hi order top t s).k_above
    tau_ratio = subst (λ x. tau_of x ≈ ratio (138600 * t.den) (kelvins t) (is_at lo hi order top t s).k_above) (sym (t_is lo hi order top t s)) (tau_is (unsigned_abs t.num) t.den (kelvins t) (rest t) t.positive (is_at lo hi order top t s) refl)

    y_ratio : y_of t ≈ ratio (rest t) (1000 * kelvins t) (mul-pos (lit< tt) (is_at lo hi order top t s).k_above)
    y_ratio = subst (λ x. y_of x ≈ ratio (rest t) (1000 * kelvins t) (mul-pos (lit< tt) (is_at lo hi order top t s).k_above)) (sym (t_is lo hi order top t s)) (y_is (unsigned_abs t.num) t.den (kelvins t) (rest t) t.positive (is_at lo hi order top t s) refl)

    z_ratio : inverse (y_of t) ≈ ratio (1000 * kelvins t) (rest t) (is_at lo hi order top t s).n_above
    z_ratio = subst (λ x. inverse (y_of x) ≈ ratio (1000 * kelvins t) (rest t) (is_at lo hi order top t s).n_above) (sym (t_is lo hi order top t s)) (inverse_y_is (unsigned_abs t.num) t.den (kelvins t) (rest t) t.positive (is_at lo hi order top t s) refl)

  module _ (t1 t2 : Fraction) (s1 : SpanHolds lo hi t1) (s2 : SpanHolds lo hi t2) (less : t1 <ℚ t2) where
    rise_is : unsigned_abs t2.num * t1.den ≡ unsigned_abs t1.num * t2.den + rise t1 t2
    rise_is = omega (arith, less_crossed t1.num t2.num (unsigned_abs t1.num) (unsigned_abs t2.num) t1.den t2.den (in_span lo hi t1 s1).num (in_span lo hi t2 s2).num less.crossed)

    rise_above : 0 < rise t1 t2
    rise_above = omega (arith, less_crossed t1.num t2.num (unsigned_abs t1.num) (unsigned_abs t2.num) t1.den t2.den (in_span lo hi t1 s1).num (in_span lo hi t2 s2).num less.crossed)

    pub apart : Apart (y_of t1) (y_of t2) (rest t1 * kelvins t2) (rest t2 * kelvins t1) (13860000000 * rise t1 t2) (1000 * (kelvins t1 * kelvins t2))
    apart =
        let w1 = is_at lo hi order top t1 s1 in
        let w2 = is_at lo hi order top t2 s2 in
        record {
          a_above = mul-pos w1.n_above w2.k_above;
          b_above = mul-pos w2.n_above w1.k_above;
          e_above = mul-pos (lit< tt) rise_above;
          n_above = mul-pos (lit< tt) (mul-pos w1.k_above w2.k_above);
          apart = apart_by (rest t1) (rest t2) (kelvins t1) (kelvins t2) (unsigned_abs t1.num) (unsigned_abs t2.num) t1.den t2.den (rise t1 t2) w1.rest w2.rest refl refl rise_is;
          first = same_trans (y_ratio t1 s1) (record { crossed = ap pos (wider (rest t1) (kelvins t1) (kelvins t2)) });
          first_inverse = same_trans (z_ratio t1 s1) (record { crossed = ap pos (wider_back (rest t1) (kelvins t1) (kelvins t2)) });
          second = same_trans (y_ratio t2 s2) (record { crossed = ap pos (wider_second (rest t2) (kelvins t1) (kelvins t2)) });
          second_inverse = same_trans (z_ratio t2 s2) (record { crossed = ap pos (wider_second_back (rest t2) (kelvins t1) (kelvins t2)) });
        }
      where
        wider : (n k l : ℕ) → n * (1000 * (k * l)) ≡ (n * l) * (1000 * k)
        wider n k l = omega arith

        wider_back : (n k l : ℕ) → (1000 * k) * (n * l) ≡ (1000 * (k * l)) * n
        wider_back n k l = omega arith

        wider_second : (n k l : ℕ) → n * (1000 * (k * l)) ≡ (n * k) * (1000 * l)
        wider_second n k l = omega arith

        wider_second_back : (n k l : ℕ) → (1000 * l) * (n * k) ≡ (1000 * (k * l)) * n
        wider_second_back n k l = omega arith

    -- 1 / (y1 - y2)
    pub y_inverse : inverse (y_of t1 -ℚ y_of t2) ≈ ratio (1000 * (kelvins t1 * kelvins t2)) (13860000000 * rise t1 t2) apart.e_above
    y_inverse =
        same_inverse (y_of t1 -ℚ y_of t2) (13860000000 * rise t1 t2) (1000 * (kelvins t1 * kelvins t2)) apart.n_above apart.e_above
        (same_trans (same_sub apart.first apart.second) (ratio_sub _ _ _ _ apart.n_above apart.apart))

    -- 1 / (t2 - t1)
    t_inverse : inverse (t2 -ℚ t1) ≈ ratio (t1.den * t2.den) (rise t1 t2) rise_above
    t_inverse =
        same_inverse (t2 -ℚ t1) (rise t1 t2) (t1.den * t2.den) (mul-pos t1.positive t2.positive) rise_above
        (record { crossed = law t1.num t2.num (unsigned_abs t1.num) (unsigned_abs t2.num) t1.den t2.den (rise t1 t2) (in_span lo hi t1 s1).num (in_span lo hi t2 s2).num rise_is })
      where
        law : (z1 z2 : ℤ) (m1 m2 d1 d2 e : ℕ) → z1 ≡ pos m1 → z2 ≡ pos m2 → m2 * d1 ≡ m1 * d2 + e → (z2 *ℤ pos d1 +ℤ neg_ℤ z1 *ℤ pos d2) *ℤ pos (d1 * d2) ≡ pos e *ℤ pos (d2 * d1)
        law z1 z2 m1 m2 d1 d2 e f g h = rw (f, g, pos-diff (e * (d2 * d1))) (simp ring (same_diff _ _ _ _ (omega (arith, ap (λ t. t * (d1 * d2)) h))))

    pub slope_is : (p : ℕ)
        → (((g_tau (x_of p) (y_of t2) -ℚ g_tau (x_of p) (y_of t1)) /ℚ (y_of t1 -ℚ y_of t2)) *ℚ (gas_constant *ℚ tau_of t1 *ℚ tau_of t2)) ≈ enthalpy_slope p t1 t2
    unfolding enthalpy_slope
    slope_is p =
        let change = g_tau (x_of p) (y_of t2) -ℚ g_tau (x_of p) (y_of t1) in
        let heat : (heat_factor *ℚ change) ≈ (enthalpy p t2 -ℚ enthalpy p t1) =
        same_trans (same_sym (sub_scaled heat_factor (g_tau (x_of p) (y_of t2)) (g_tau (x_of p) (y_of t1)))) (same_sub (enthalpy_is p t2) (enthalpy_is p t1)) in
        same_trans (same_mul (same_mul (same_refl change) y_inverse) (same_mul (same_mul (same_refl gas_constant) (tau_ratio t1 s1)) (tau_ratio t2 s2)))
        (same_trans (record { crossed = law change.num change.den (kelvins t1) (kelvins t2) t1.den t2.den (rise t1 t2) })
        (same_mul heat (same_sym t_inverse)))
      where
        law : (a : ℤ) (b k l d e r : ℕ)
            → ((a *ℤ pos (1000 * (k * l))) *ℤ pos ((461526 * (138600 * d)) * (138600 * e))) *ℤ pos ((1000000 * b) * r)
            ≡ ((pos 639675036 *ℤ a) *ℤ pos (d * e)) *ℤ pos ((b * (13860000000 * r)) * ((1000000 * k) * l))
        law a b k l d e r = rw (as_diff a) (simp ring (same_diff _ _ _ _ (omega arith)))

-- ---- the factors
pub gas_constant_sized : (d : ℕ) → SizedBy gas_constant_size d (quotient_floor 56 (pos 461526) (pos 1000000)) (quotient_ceil 56 (pos 461526) (pos 1000000))
gas_constant_sized d = record { low = omega (arith, ints); high = omega (arith, ints); width = omega (arith, ints) }

module _ (lo hi : ℕ) (order : lo ≤ hi) (top : hi ≤ 180000000000) where
  pub tau_holds : (t : Fraction) → SpanHolds lo hi t → Holds 56 (quotient_floor 56 (pos 1386000000000) (pos (273150000000 + hi))) (quotient_ceil 56 (pos 1386000000000) (pos (273150000000 + lo))) (tau_of t)
  tau_holds t s =
      Holds-same (same_sym (tau_ratio lo hi order top t s))
      (Holds-hull 1386000000000 (273150000000 + hi) 1386000000000 (273150000000 + lo) _ _ (omega arith) (omega arith) _
      (omega (arith, (to_high lo hi order top t s).rises)) (omega (arith, (from_low lo hi order top t s).rises)))

  pub tau_spread : IsSpread 1386000000000 (273150000000 + hi) 1386000000000 (273150000000 + lo) 1386000000000 (hi - lo) tau_size.most tau_size.per (273150000000 * 273150000000)
  tau_spread = record {
    low = omega arith;
    high = omega arith;
    order = omega (arith, order);
    apart = omega (arith, order);
    most = omega arith;
    above = lit< tt;
    least =
        let one : 273150000000 ≤ 273150000000 + lo = omega arith in
        let two : 273150000000 ≤ 273150000000 + hi = omega arith in
        mul-le-mul one two;
    slope = lit≤ tt;
  }

-- both ends lie within what bounds them
pub within_both : (n : ℕ) (l h : ℤ) → l ≤ℤ h → neg_ℤ (pos n) ≤ℤ l → h ≤ℤ pos n → IsWithin n l × IsWithin n h
within_both n l h order low high = (record { low = low; high = ≤ℤ_trans order high }, record { low = ≤ℤ_trans low order; high = high })
