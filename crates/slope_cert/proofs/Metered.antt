-- Each counted litre gives off energy above 0, so the exact integral never falls.
use Rattle.std.proofs.Common.{◌≡◌, ℕ, zero, suc, ◌*◌, ◌/◌, ◌^◌, ◌<◌, arith, refl, sym, subst, Bool, true, false, cond, ℤ, pos, negsuc, ◌*ℤ◌, ◌≤ℤ◌, Option, None, Some, List, [], ◌∷◌, ◌++◌, length}
use Rattle.std.proofs.lemmas.Int.{ints}
use Rattle.std.specs.List.{AllByRecursion}
use lib.Signed.{◌<ℤ◌}
use native.Mathlib.Nat.{mul-pos}
use Rattle.number_model.specs.Fraction.{Fraction, ◌≤ℚ◌, ◌<ℚ◌, ◌+ℚ◌, ◌-ℚ◌, ◌*ℚ◌, whole, inverse_of}
use Rattle.number_model.specs.Enclosure.{Holds, SpanHolds}
use Rattle.number_model.proofs.Order.{≤ℚ_refl}
use Rattle.number_model.proofs.Same.{same_refl}
use Rattle.platinum_model.specs.Sample.{IsInCell}
use Rattle.platinum_model.specs.Pair.{IsCountingPair}
use Rattle.platinum_model.proofs.Cells.{IsSteep}
use Rattle.pt_curve.specs.Curve.{element}
use Rattle.pt_curve.specs.declared.curve.Curve.{Curve}
use Rattle.platinum_model.proofs.Fitting.{fitting-steep}
use Rattle.water_model.specs.Water.{volume, enthalpy, sum_over}
use Rattle.number_model.proofs.Laws.{add_zero}
use Rattle.region1_ranges.proofs.Within.{volume_everywhere}
use Rattle.heat_model.specs.Heat.{metered_at, litre_energy}
use Rattle.parts_model.specs.Place.{Place, Flow, Return}
use Rattle.metering_model.specs.Events.{Event, Sample, Pulse, Date, Kept, Placed, placed, placed_after}
use Rattle.metering_model.specs.Settings.{Settings}
use Rattle.metering_model.specs.Counting.{Counted, counted_by, counts}
use Rattle.metering_model.specs.Records.{MeterRecord, counted_at, samples_after}
use Rattle.integral_model.specs.Integral.{Temps, AreInCells, IsChoiceOf, IsChoice, energy_or_none, exact_integral}
use Rattle.metering_model.proofs.Counting.{counts-is}
use Rattle.metering_model.proofs.Joined.{placed-append}
use Rattle.slope_cert.specs.Meters.{MetersRising, CountedLitresHeat, IntegralNeverFalls}
use Rattle.slope_cert.proofs.Joining.{difference_above}
use Rattle.platinum_model.proofs.Order.{le_same}
use Rattle.slope_cert.proofs.Order.{le_add}
use Rattle.slope_cert.proofs.Warmer.{flow_warmer}

-- ---- the energy of a litre
in_range : (t : Fraction) → whole 0 ≤ℚ t → t ≤ℚ whole 180 → SpanHolds 0 180000000000 t
in_range t low high = record { low = record { crossed = low_of t.num t.den low.crossed }; high = record { crossed = high_of t.num t.den high.crossed } }
  where
    low_of : (z : ℤ) (d : ℕ) → (pos 0 *ℤ pos d) ≤ℤ (z *ℤ pos 1) → (pos 0 *ℤ pos d) ≤ℤ (z *ℤ pos 1000000000)
    low_of z d h = omega (arith, ints, h)

    high_of : (z : ℤ) (d : ℕ) → (z *ℤ pos 1) ≤ℤ (pos 180 *ℤ pos d) → (z *ℤ pos 1000000000) ≤ℤ (pos 180000000000 *ℤ pos d)
    high_of z d h = omega (arith, ints, h)

held_above : (x : Fraction) (hi : ℤ) → Holds 56 (pos (95 * 2 ^ 56 / 100000)) hi x → pos 1 ≤ℤ x.num
held_above x hi h = above x.num x.den x.positive h.low.crossed
  where
    above : (z : ℤ) (d : ℕ) → 0 < d → (pos (95 * 2 ^ 56 / 100000) *ℤ pos d) ≤ℤ (z *ℤ pos (2 ^ 56)) → pos 1 ≤ℤ z
    above (pos zero) d p h = absurd (omega (arith, ints, p, h))
    above (pos (suc n)) d p h = omega (arith, ints)
    above (negsuc n) d p h = absurd (omega (arith, ints, p, h))

quotient_above : (x y : Fraction) → pos 1 ≤ℤ x.num → pos 1 ≤ℤ y.num → whole 0 <ℚ (whole 1000 *ℚ x *ℚ inverse_of y.num y.den)
quotient_above x y p q = record { crossed = law x.num y.num y.den (1 * x.den) y.positive p q }
  where
    law : (a z : ℤ) (d k : ℕ) → 0 < d → pos 1 ≤ℤ a → pos 1 ≤ℤ z → (pos 0 *ℤ pos (k * (inverse_of z d).den)) <ℤ (((pos 1000 *ℤ a) *ℤ (inverse_of z d).num) *ℤ pos 1)
    law (pos (suc n)) (pos (suc m)) d k above p q = let size : 0 < suc n * d = mul-pos (omega arith) above in omega (arith, ints, size)
    law (pos zero) z d k above p q = absurd (omega (arith, ints, p))
    law (negsuc n) z d k above p q = absurd (omega (arith, ints, p))
    law (pos (suc n)) (pos zero) d k above p q = absurd (omega (arith, ints, q))
    law (pos (suc n)) (negsuc m) d k above p q = absurd (omega (arith, ints, q))

curve_steep : (c : Curve) → IsSteep (element c)
curve_steep c = fitting-steep (element c) c.fit

module _ (c : Settings) (m : MetersRising c) where
  litre_above : (rf rr : ℕ) (t : Temps) → IsCountingPair c.flow c.ret rf rr → IsInCell c.flow rf t.flow → IsInCell c.ret rr t.ret → whole 0 <ℚ litre_energy c.pressure_kpa c.place t.flow t.ret
  unfolding litre_energy
  litre_above rf rr t pair flow ret =
      let flow_steep : IsSteep c.flow = rw m.flow_is (curve_steep m.flow) in
      let ret_steep : IsSteep c.ret = rw m.ret_is (curve_steep m.ret) in
      let warmer : t.ret <ℚ t.flow = flow_warmer c.flow c.ret rf rr t.flow t.ret flow_steep ret_steep pair flow ret in
      let place : SpanHolds 0 180000000000 (metered_at c.place t.flow t.ret) = at_place c.place (in_range t.flow flow.above_0 flow.below_180) (in_range t.ret ret.above_0 ret.below_180) in
      quotient_above (enthalpy c.pressure_kpa t.flow -ℚ enthalpy c.pressure_kpa t.ret) (volume c.pressure_kpa (metered_at c.place t.flow t.ret))
      (difference_above (enthalpy c.pressure_kpa t.ret) (enthalpy c.pressure_kpa t.flow) (m.rises t.ret t.flow ret.above_0 flow.below_180 warmer))
      (held_above _ _ (volume_everywhere c.pressure_kpa m.pressure_low m.pressure_high (metered_at c.place t.flow t.ret) place))
    where
      at_place : (p : Place) → SpanHolds 0 180000000000 t.flow → SpanHolds 0 180000000000 t.ret → SpanHolds 0 180000000000 (metered_at p t.flow t.ret)
      at_place Flow f r = f
      at_place Return f r = r

  -- ---- what counts is a counting pair
  abbrev IsPair : Option Counted → Type 0
  IsPair None = Unit {0}
  IsPair (Some k) = IsCountingPair c.flow c.ret k.flow k.ret

  pair_cond : (k : Counted) (b : Bool) → (b ≡ true → IsPair (Some k)) → IsPair (cond b (Some k) None)
  pair_cond k true h = h refl
  pair_cond k false h = tt

  counted_pair : (s : Option (ℕ × ℕ)) (event : Event) → IsPair (counted_by c s event)
  counted_pair None event = tt
  counted_pair (Some s) (Sample flow ret) = tt
  counted_pair (Some s) (Date day) = tt
  counted_pair (Some s) (Pulse n) = pair_cond (record { flow = s.0; ret = s.1; litres = n * c.litres_per_pulse }) (counts c s.0 s.1) (counts-is c s.0 s.1)

  pub litres_above : (samples : Option (ℕ × ℕ)) (event : Event) (k : Counted) (t : Temps) → counted_by c samples event ≡ Some k → AreInCells c k t → whole 0 <ℚ litre_energy c.pressure_kpa c.place t.flow t.ret
  litres_above samples event k t is cells = litre_above k.flow k.ret t (subst IsPair is (counted_pair samples event)) cells.flow cells.ret

  -- ---- the integral
  energy_above : (k : Option Counted) (t : Temps) → IsPair k → IsChoiceOf c k t → whole 0 ≤ℚ energy_or_none c k t
  energy_above None t pair choice = ≤ℚ_refl (whole 0)
  energy_above (Some k) t pair choice = scaled k.litres (litre_energy c.pressure_kpa c.place t.flow t.ret) (litre_above k.flow k.ret t pair choice.flow choice.ret)
    where
      scaled : (n : ℕ) (x : Fraction) → whole 0 <ℚ x → whole 0 ≤ℚ (whole n *ℚ x)
      scaled n x h = record { crossed = law n x.num x.den h.crossed }
        where
          law : (n : ℕ) (z : ℤ) (d : ℕ) → (pos 0 *ℤ pos d) <ℤ (z *ℤ pos 1) → (pos 0 *ℤ pos (1 * d)) ≤ℤ ((pos n *ℤ z) *ℤ pos 1)
          law n (pos a) d h = omega (arith, ints)
          law n (negsuc a) d h = absurd (omega (arith, ints, h))

  module _ (o : MeterRecord) (choice : ℕ → Temps) where
    abbrev value : Placed → Fraction
    value e = energy_or_none c (counted_at c o e) (choice (length e.before))

    abbrev Chosen : Placed → Type 0
    Chosen e = IsChoiceOf c (counted_at c o e) (choice (length e.before))

    value_above : (e : Placed) → Chosen e → whole 0 ≤ℚ value e
    value_above e h = energy_above (counted_at c o e) (choice (length e.before)) (counted_pair (samples_after o.samples e.before) e.kept.event) h

    sum_above : (es : List Placed) → AllByRecursion Chosen es → whole 0 ≤ℚ sum_over value es
    unfolding sum_over
    sum_above [] h = ≤ℚ_refl (whole 0)
    sum_above (e ∷ es) h = le_same (add_zero (whole 0)) (same_refl (value e +ℚ sum_over value es)) (le_add (value_above e h.0) (sum_above es h.1))

    appended : (es more : List Placed) → AllByRecursion Chosen (es ++ more) → sum_over value es ≤ℚ sum_over value (es ++ more)
    unfolding sum_over
    appended [] more h = sum_above more h
    appended (e ∷ es) more h = le_add (≤ℚ_refl (value e)) (appended es more h.1)

    pub integral_rises : (ks more : List Kept) → IsChoice c o choice (ks ++ more) → exact_integral c o choice ks ≤ℚ exact_integral c o choice (ks ++ more)
    integral_rises ks more h =
        let places : placed (ks ++ more) ≡ placed ks ++ placed_after ks more = placed-append [] ks more in
        subst (λ es. exact_integral c o choice ks ≤ℚ sum_over value es) (sym places) (appended (placed ks) (placed_after ks more) (subst (AllByRecursion Chosen) places h))

pub litres_heat : (c : Settings) → MetersRising c → CountedLitresHeat c
litres_heat c m = litres_above c m

pub never_falls : (c : Settings) → MetersRising c → IntegralNeverFalls c
never_falls c m = integral_rises c m
