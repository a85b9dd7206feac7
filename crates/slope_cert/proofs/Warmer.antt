-- Where a pair of samples counts, each temperature in the flow's cell lies above each in the return's.
use Rattle.std.proofs.Common.{◌≡◌, ℕ, ◌+◌, ◌-◌, ◌*◌, ◌^◌, ◌<◌, ◌≤◌, ◌⊎◌, inl, inr, arith, lit<, pos, ◌*ℤ◌}
use Rattle.std.proofs.lemmas.Int.{by_lt_z}
use Rattle.std.proofs.lemmas.Bool.{cases_lt}
use Rattle.number_model.specs.Fraction.{Fraction, ◌≤ℚ◌, ◌<ℚ◌, whole}
use Rattle.number_model.specs.Enclosure.{nanodegrees}
use Rattle.number_model.proofs.Order.{≤ℚ_trans}
use Rattle.number_model.proofs.Same.{same_refl, same_sym}
use Rattle.platinum_model.specs.Element.{Element, resistance, scaled_resistance}
use Rattle.platinum_model.specs.Sample.{IsWholeTemp, IsInCell}
use Rattle.platinum_model.specs.Pair.{IsCountingPair}
use Rattle.platinum_model.proofs.Order.{le_same, half_more}
use Rattle.platinum_model.proofs.Cells.{IsSteep, less_half, scaled_resistance-slope}
use Rattle.platinum_model.proofs.Rising.{resistance-reflects}
use Rattle.platinum_model.proofs.Samples.{resistance-same, microdegrees-same, le-nanodegrees, from_0, to_180}
use Rattle.platinum_model.proofs.Scaled.{at_most, of_at_most, at_least}

-- half a microohm is passed within 2,798 nanodegrees
risen : (e : Element) (n : ℕ) → IsSteep e → n + 2798 ≤ 180000000000 → scaled_resistance e n + 10 ^ 28 < scaled_resistance e (n + 2798)
risen e n steep h =
    let rise : scaled_resistance e n + e.r0_uohm * (10 ^ 9 * (e.a_e10 - 360 * e.b_e10)) * 2798 ≤ scaled_resistance e (n + 2798) = scaled_resistance-slope e n 2798 steep.rising h in
    law (scaled_resistance e n) (e.r0_uohm * (10 ^ 9 * (e.a_e10 - 360 * e.b_e10))) (scaled_resistance e (n + 2798)) steep.slope rise
  where
    law : (x s y : ℕ) → 10 ^ 28 < 2798 * s → x + s * 2798 ≤ y → x + 10 ^ 28 < y
    law x s y h k = omega arith

-- the cell of a sample ends 2,798 nanodegrees above the microdegree that follows its whole temperature
below_next : (e : Element) (r w : ℕ) (t : Fraction) → IsSteep e → IsWholeTemp e r w → w < 179999000 → IsInCell e r t → t ≤ℚ nanodegrees (1000 * (w + 1) + 2798)
below_next e r w t steep whole_temp few cell =
    resistance-reflects e t (nanodegrees (1000 * (w + 1) + 2798)) steep.rising cell.above_0 cell.below_180 (from_0 _) (to_180 _ (omega arith))
    (≤ℚ_trans cell.high (le_same (same_sym (half_more r)) (same_refl (resistance e (nanodegrees (1000 * (w + 1) + 2798))))
    (at_least e (1000 * (w + 1) + 2798) (2 * r + 1) 2 (lit< tt) steep.rising (omega arith)
    (half_past r _ _ (passed (cases_lt (10 ^ 28 * r) (scaled_resistance e (1000 * (w + 1))))) (risen e (1000 * (w + 1)) steep (omega arith))))))
  where
    clash : w + 1 ≤ w → ⊥
    clash h = omega arith

    passed : (10 ^ 28 * r < scaled_resistance e (1000 * (w + 1))) ⊎ (scaled_resistance e (1000 * (w + 1)) ≤ 10 ^ 28 * r) → 10 ^ 28 * r < scaled_resistance e (1000 * (w + 1))
    passed (inl h) = h
    passed (inr h) =
        absurd (clash (whole_temp.greatest (w + 1) (omega arith)
        (le_same (resistance-same e (same_sym (microdegrees-same (w + 1)))) (same_refl (whole r)) (at_most e (1000 * (w + 1)) r 1 (lit< tt) steep.rising (omega arith) (omega arith)))))

    half_past : (r x y : ℕ) → 10 ^ 28 * r < x → x + 10 ^ 28 < y → 10 ^ 28 * (2 * r + 1) ≤ y * 2
    half_past r x y h k = omega arith

-- and begins 2,798 nanodegrees below it
above_last : (e : Element) (r w : ℕ) (t : Fraction) → IsSteep e → IsWholeTemp e r w → 10000 ≤ w → IsInCell e r t → nanodegrees (1000 * w - 2798) ≤ℚ t
above_last e r w t steep whole_temp some cell =
    let back : 1000 * w - 2798 + 2798 ≡ 1000 * w = omega arith in
    let top : 1000 * w ≤ 180000000000 = omega (arith, whole_temp.range) in
    let rise : scaled_resistance e (1000 * w - 2798) + 10 ^ 28 < scaled_resistance e (1000 * w) = rw back at (risen e (1000 * w - 2798) steep (omega arith)) in
    let reached : scaled_resistance e (1000 * w) * 1 ≤ 10 ^ 28 * r =
    of_at_most e (1000 * w) r 1 (lit< tt) steep.rising top (le_same (resistance-same e (microdegrees-same w)) (same_refl (whole r)) whole_temp.reached) in
    let sample : 0 < r = positive r _ _ rise reached in
    resistance-reflects e (nanodegrees (1000 * w - 2798)) t steep.rising (from_0 _) (to_180 _ (omega arith)) cell.above_0 cell.below_180
    (≤ℚ_trans (le_same (same_refl (resistance e (nanodegrees (1000 * w - 2798)))) (same_sym (less_half r sample))
    (at_most e (1000 * w - 2798) (2 * r - 1) 2 (lit< tt) steep.rising (omega arith) (half_before r _ _ rise reached))) cell.low)
  where
    positive : (r x y : ℕ) → x + 10 ^ 28 < y → y * 1 ≤ 10 ^ 28 * r → 0 < r
    positive r x y h k = omega arith

    half_before : (r x y : ℕ) → x + 10 ^ 28 < y → y * 1 ≤ 10 ^ 28 * r → x * 2 ≤ 10 ^ 28 * (2 * r - 1)
    half_before r x y h k = omega arith

pub flow_warmer : (flow ret : Element) (rf rr : ℕ) (tf tr : Fraction) → IsSteep flow → IsSteep ret → IsCountingPair flow ret rf rr → IsInCell flow rf tf → IsInCell ret rr tr → tr <ℚ tf
flow_warmer flow ret rf rr tf tr flow_steep ret_steep pair in_flow in_ret =
    let w = pair.flow_udeg in
    let v = pair.return_udeg in
    let top : pair.flow_udeg ≤ 180000000 = pair.temps.flow_temp.range in
    let under : tr ≤ℚ nanodegrees (1000 * (v + 1) + 2798) = below_next ret rr v tr ret_steep pair.temps.return_temp (omega (arith, pair.apart, top)) in_ret in
    let over : nanodegrees (1000 * w - 2798) ≤ℚ tf = above_last flow rf w tf flow_steep pair.temps.flow_temp (omega (arith, pair.apart)) in_flow in
    record {
      crossed = by_lt_z (tr.num *ℤ pos tf.den) (tf.num *ℤ pos tr.den) (λ lt. lt)
          (λ le.
          let turned : tf ≤ℚ tr = record { crossed = le } in
          let met : 1000 * w - 2798 ≤ 1000 * (v + 1) + 2798 = le-nanodegrees (1000 * w - 2798) (1000 * (v + 1) + 2798) (≤ℚ_trans over (≤ℚ_trans turned under)) in
          absurd (apart w v pair.apart met));
    }
  where
    apart : (w v : ℕ) → v + 10000 ≤ w → 1000 * w - 2798 ≤ 1000 * (v + 1) + 2798 → ⊥
    apart w v h k = omega arith
