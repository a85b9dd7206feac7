-- A litre whose energy is enclosed fits closely, and so do many litres.
use Rattle.std.proofs.Common.{◌≡◌, ℕ, ◌+◌, ◌-◌, ◌*◌, ◌≤◌, refl, sym, subst, ap, ◌∙◌, arith, pos, ℤ, ◌+ℤ◌, ◌-ℤ◌, ◌*ℤ◌, ◌≤ℤ◌, Bool, true, false, ◌&&◌, cond, Option, None, Some}
use Rattle.std.proofs.lemmas.Int.{ints}
use native.Mathlib.Nat.{mul-le-mul_left}
use Rattle.number_model.specs.Fraction.{Fraction, ◌*ℚ◌, whole}
use Rattle.number_model.specs.Enclosure.{SpanHolds}
use Rattle.number_model.specs.Rounding.{IsWithin}
use Rattle.number_model.proofs.Ints.{as_diff, same_diff, ring, mul-le_pos, recast, ≤ℤ_trans}
use Rattle.platinum_model.specs.Element.{Element}
use Rattle.platinum_model.specs.Sample.{IsCellSpan, IsInRange}
use Rattle.platinum_model.specs.Pair.{IsCountingPair, IsSmallPair}
use Rattle.heat_model.specs.Heat.{LiesBetween, litre_energy}
use Rattle.parts_model.specs.Place.{Place}
use Rattle.metering_model.specs.Events.{Pulse}
use Rattle.metering_model.specs.Settings.{Settings}
use Rattle.metering_model.specs.Counting.{Counted, counted_by, counts, faulty_by, is_in_range}
use Rattle.integral_model.specs.Integral.{AddsBy, FitsClosely, Temps, AreInCells, bound_at_points}
use Rattle.metering_model.proofs.Counting.{counts-true, counts-false, counts-no_flow, counts-no_return, in_range-true, in_range-false}
use Rattle.pt_curve.specs.Curve.{element}
use Rattle.meter_parts.specs.Views.{place_view}
use Rattle.energy_register.specs.declared.Step.{Step}
use Rattle.pulse_integrator.specs.declared.origin.Origin.{Origin}
use Rattle.pulse_integrator.specs.declared.per_litre.PerLitre.{PerLitre}
use Rattle.pulse_integrator.specs.declared.rate.Rate.{Rate}
use Rattle.pulse_integrator.specs.Adds.{AreInForce, litre_by, FitsLitre, AddsLitre, AddsPulses}
use Rattle.pulse_integrator.specs.Pulses.{times, unit_of}

-- of x litres as of one
times_low : (x d : ℕ) (z n : ℤ) → (z *ℤ pos d) ≤ℤ (n *ℤ pos 1) → ((pos x *ℤ z) *ℤ pos (1 * d)) ≤ℤ ((pos x *ℤ n) *ℤ pos 1)
times_low x d z n h = recast (mul-le_pos x h) left right where
  left : (pos x *ℤ z) *ℤ pos (1 * d) ≡ (z *ℤ pos d) *ℤ pos x
  left = rw (as_diff z) (simp ring (same_diff _ _ _ _ (omega arith)))

  right : (pos x *ℤ n) *ℤ pos 1 ≡ (n *ℤ pos 1) *ℤ pos x
  right = rw (as_diff n) (simp ring (same_diff _ _ _ _ (omega arith)))

times_high : (x d : ℕ) (z n : ℤ) → (n *ℤ pos 1) ≤ℤ (z *ℤ pos d) → ((pos x *ℤ n) *ℤ pos 1) ≤ℤ ((pos x *ℤ z) *ℤ pos (1 * d))
times_high x d z n h = recast (mul-le_pos x h) left right where
  left : (pos x *ℤ n) *ℤ pos 1 ≡ (n *ℤ pos 1) *ℤ pos x
  left = rw (as_diff n) (simp ring (same_diff _ _ _ _ (omega arith)))

  right : (pos x *ℤ z) *ℤ pos (1 * d) ≡ (z *ℤ pos d) *ℤ pos x
  right = rw (as_diff z) (simp ring (same_diff _ _ _ _ (omega arith)))

lies_times : (x : ℕ) (lo hi : ℤ) (q : Fraction) → LiesBetween lo hi q → LiesBetween (pos x *ℤ lo) (pos x *ℤ hi) (whole x *ℚ q)
lies_times x lo hi q h = record {
  low = record { crossed = times_low x q.den lo q.num h.low.crossed };
  high = record { crossed = times_high x q.den hi q.num h.high.crossed };
}

lies_wider : (lo hi lo' hi' : ℤ) (q : Fraction) → lo' ≤ℤ lo → hi ≤ℤ hi' → LiesBetween lo hi q → LiesBetween lo' hi' q
lies_wider lo hi lo' hi' q a b h = record {
  low = record { crossed = ≤ℤ_trans (mul-le_pos q.den a) h.low.crossed };
  high = record { crossed = ≤ℤ_trans h.high.crossed (mul-le_pos q.den b) };
}

once : (z : ℤ) → pos 1 *ℤ z ≡ z
once z = rw (as_diff z) (simp ring (same_diff _ _ _ _ (omega arith)))

lies_of_one : (lo hi : ℤ) (q : Fraction) → LiesBetween lo hi (whole 1 *ℚ q) → LiesBetween lo hi q
lies_of_one lo hi q h =
    let den : 1 * q.den ≡ q.den = omega arith in
    record {
      low = record { crossed = rw (den, once q.num) at h.low.crossed };
      high = record { crossed = rw (den, once q.num) at h.high.crossed };
    }

-- what was enclosed at the samples of an origin
pub record IsEnclosed (flow ret : Element) (rf rr : ℕ) (p : ℕ) (place : Place) (lo hi : ℤ) (l : PerLitre) : Type 0 where
  pub flow_cell : IsCellSpan flow rf l.flow.lo l.flow.hi
  pub return_cell : IsCellSpan ret rr l.ret.lo l.ret.hi
  pub holds : (tf tr : Fraction) → SpanHolds l.flow.lo l.flow.hi tf → SpanHolds l.ret.lo l.ret.hi tr → LiesBetween lo hi (litre_energy p place tf tr)
  pub low : (l.e_mj -ℤ (pos l.b_mj -ℤ pos 1200)) ≤ℤ lo
  pub high : hi ≤ℤ (l.e_mj +ℤ (pos l.b_mj -ℤ pos 1200))
  pub closer : 15 * l.b_mj ≤ bound_at_points + (l.flow.hi - l.flow.lo) + (l.ret.hi - l.ret.lo)

-- a litre of an energy that was enclosed fits
fits_litre : (c : Settings) (rf rr : ℕ) (lo hi : ℤ) (l : PerLitre) → IsEnclosed c.flow c.ret rf rr c.pressure_kpa c.place lo hi l
    → FitsLitre c (record { flow = rf; ret = rr; litres = 1 }) l
fits_litre c rf rr lo hi l h = record {
  fits = record {
    near = λ t cells. lies_once (l.e_mj -ℤ pos l.b_mj) (l.e_mj +ℤ pos l.b_mj) t cells (wide_low l.e_mj lo l.b_mj h.low) (wide_high l.e_mj hi l.b_mj h.high);
    cap = cap_of l.b_mj _ _ h.closer (narrow_cell _ _ h.flow_cell.width) (narrow_cell _ _ h.return_cell.width);
  };
  nearer = λ t cells. lies_once (l.e_mj -ℤ (pos l.b_mj -ℤ pos (1200 * 1))) (l.e_mj +ℤ (pos l.b_mj -ℤ pos (1200 * 1))) t cells h.low h.high;
  flow_ends = h.flow_cell.ends;
  return_ends = h.return_cell.ends;
  closer = omega (arith, h.closer);
}
  where
    wide_low : (e lo : ℤ) (b : ℕ) → (e -ℤ (pos b -ℤ pos 1200)) ≤ℤ lo → (e -ℤ pos b) ≤ℤ lo
    wide_low e lo b h = omega (arith, ints)

    wide_high : (e hi : ℤ) (b : ℕ) → hi ≤ℤ (e +ℤ (pos b -ℤ pos 1200)) → hi ≤ℤ (e +ℤ pos b)
    wide_high e hi b h = omega (arith, ints)

    narrow_cell : (a b : ℕ) → b ≤ a + 2800 → b - a ≤ 2800
    narrow_cell a b h = omega arith

    cap_of : (b v w : ℕ) → 15 * b ≤ bound_at_points + v + w → v ≤ 2800 → w ≤ 2800 → b ≤ 2000 * 1
    cap_of b v w n p q = omega arith

    lies_once : (a b : ℤ) (t : Temps) → AreInCells c (record { flow = rf; ret = rr; litres = 1 }) t → a ≤ℤ lo → hi ≤ℤ b → LiesBetween a b (whole 1 *ℚ litre_energy c.pressure_kpa c.place t.flow t.ret)
    lies_once a b t cells p q =
        let one = lies_times 1 lo hi _ (h.holds t.flow t.ret (h.flow_cell.holds t.flow cells.flow) (h.return_cell.holds t.ret cells.ret)) in
        lies_wider lo hi a b _ p q (rw (once lo, once hi) at one)

-- the same in the words of a meter whose samples are those of the origin
here : (c : Settings) (samples : Option (ℕ × ℕ)) (o : Origin) (lo hi : ℤ) (l : PerLitre) → AreInForce c samples (Some o)
    → IsEnclosed (element o.pair.flow) (element o.pair.ret) o.rf o.rr o.p_kpa (place_view o.place) lo hi l
    → IsEnclosed c.flow c.ret o.rf o.rr c.pressure_kpa c.place lo hi l
here c samples o lo hi l h e = rw (h.1, h.2, h.3, h.4) e

value_or : {A : Type 0} → A → Option A → A
value_or d None = d
value_or d (Some x) = x

same_some : {A : Type 0} {x y : A} → Some x ≡ Some y → x ≡ y
unfolding value_or
same_some {A} {x} {y} h = ap (value_or x) h

pub counted_fits : (c : Settings) (samples : Option (ℕ × ℕ)) (o : Origin) (lo hi : ℤ) (l : PerLitre) (k : Counted) → AreInForce c samples (Some o)
    → IsCountingPair (element o.pair.flow) (element o.pair.ret) o.rf o.rr
    → IsEnclosed (element o.pair.flow) (element o.pair.ret) o.rf o.rr o.p_kpa (place_view o.place) lo hi l
    → litre_by c samples ≡ Some k → FitsLitre c k l
counted_fits c samples o lo hi l k h counting e is =
    let pair : IsCountingPair c.flow c.ret o.rf o.rr = rw (h.3, h.4) counting in
    let litre : litre_by c samples ≡ Some (record { flow = o.rf; ret = o.rr; litres = 1 }) = rw (h.0, counts-true c o.rf o.rr pair) refl in
    subst (λ k. FitsLitre c k l) (same_some (sym litre ∙ is)) (fits_litre c o.rf o.rr lo hi l (here c samples o lo hi l h e))

-- x litres of it
pub closely_times : (c : Settings) (rf rr x : ℕ) (l : PerLitre) → FitsLitre c (record { flow = rf; ret = rr; litres = 1 }) l
    → FitsClosely c (record { flow = rf; ret = rr; litres = x }) (pos x *ℤ l.e_mj) (x * l.b_mj)
closely_times c rf rr x l one = record {
  margin = record {
    fits = record {
      near = λ t h. many (pos l.b_mj) (pos (x * l.b_mj)) t refl (one.fits.near t (cells t h));
      cap = cap_of x l.b_mj one.fits.cap;
    };
    nearer = λ t h. many (pos l.b_mj -ℤ pos (1200 * 1)) (pos (x * l.b_mj) -ℤ pos (1200 * x)) t (margin_same l.b_mj) (one.nearer t (cells t h));
    flow_lo = l.flow.lo;
    flow_hi = l.flow.hi;
    return_lo = l.ret.lo;
    return_hi = l.ret.hi;
    flow_ends = one.flow_ends;
    return_ends = one.return_ends;
    narrow = times_of x l.b_mj 12 15600 _ _ (wider l.b_mj _ _ one.closer);
  };
  closer = times_of x l.b_mj 15 bound_at_points _ _ one.closer;
}
  where
    cells : (t : Temps) → AreInCells c (record { flow = rf; ret = rr; litres = x }) t → AreInCells c (record { flow = rf; ret = rr; litres = 1 }) t
    cells t h = record { flow = h.flow; ret = h.ret }

    cap_of : (x b : ℕ) → b ≤ 2000 * 1 → x * b ≤ 2000 * x
    cap_of x b h = let k : x * b ≤ x * 2000 = mul-le-mul_left x h in omega (arith, k)

    wider : (b v w : ℕ) → 15 * b ≤ 1 * (bound_at_points + v + w) → 12 * b ≤ 1 * (15600 + v + w)
    wider b v w h = omega (arith, h)

    times_of : (x b n p v w : ℕ) → n * b ≤ 1 * (p + v + w) → n * (x * b) ≤ x * (p + v + w)
    times_of x b n p v w h =
        let one : n * b ≤ p + v + w = omega (arith, h) in
        let k : x * (n * b) ≤ x * (p + v + w) = mul-le-mul_left x one in
        omega (arith, k)

    less : (a d : ℤ) → pos x *ℤ a -ℤ pos x *ℤ d ≡ pos x *ℤ (a -ℤ d)
    less a d = rw (as_diff a, as_diff d) (simp ring (same_diff _ _ _ _ (omega arith)))

    margin_same : (b : ℕ) → pos (x * b) -ℤ pos (1200 * x) ≡ pos x *ℤ (pos b -ℤ pos (1200 * 1))
    margin_same b = let turned : 1200 * x ≡ x * 1200 = omega arith in rw turned (less (pos b) (pos 1200))

    more : (a d : ℤ) → pos x *ℤ a +ℤ pos x *ℤ d ≡ pos x *ℤ (a +ℤ d)
    more a d = rw (as_diff a, as_diff d) (simp ring (same_diff _ _ _ _ (omega arith)))

    many : (d d' : ℤ) (t : Temps) → d' ≡ pos x *ℤ d
        → LiesBetween (l.e_mj -ℤ d) (l.e_mj +ℤ d) (whole 1 *ℚ litre_energy c.pressure_kpa c.place t.flow t.ret)
        → LiesBetween (pos x *ℤ l.e_mj -ℤ d') (pos x *ℤ l.e_mj +ℤ d') (whole x *ℚ litre_energy c.pressure_kpa c.place t.flow t.ret)
    many d d' t same h =
        let all = lies_times x (l.e_mj -ℤ d) (l.e_mj +ℤ d) _ (lies_of_one (l.e_mj -ℤ d) (l.e_mj +ℤ d) _ h) in
        rw (same, less l.e_mj d, more l.e_mj d) all

some_none : {A : Type 0} {x : A} → Some x ≡ None → ⊥
some_none h = absurd cc

-- what a litre adds where the samples count
pub adds_counted : (o : Origin) (lo hi : ℤ) (l : PerLitre)
    → IsCountingPair (element o.pair.flow) (element o.pair.ret) o.rf o.rr
    → IsEnclosed (element o.pair.flow) (element o.pair.ret) o.rf o.rr o.p_kpa (place_view o.place) lo hi l
    → IsWithin 2000000000 l.e_mj → l.faulty ≡ false → AddsLitre (Some o) l
adds_counted o lo hi l counting e size sound = record {
  counted = λ c samples k h is. counted_fits c samples o lo hi l k h counting e is;
  uncounted = λ c samples h is. absurd (some_none (sym (litre c samples h) ∙ is));
  faulty = λ c samples h. faulty c samples h;
  size = size;
  bound = bound_of l.b_mj _ _ e.closer (narrow_cell _ _ e.flow_cell.width) (narrow_cell _ _ e.return_cell.width);
}
  where
    narrow_cell : (a b : ℕ) → b ≤ a + 2800 → b - a ≤ 2800
    narrow_cell a b h = omega arith

    bound_of : (b v w : ℕ) → 15 * b ≤ bound_at_points + v + w → v ≤ 2800 → w ≤ 2800 → b ≤ 2000
    bound_of b v w n p q = omega arith

    litre : (c : Settings) (samples : Option (ℕ × ℕ)) → AreInForce c samples (Some o) → litre_by c samples ≡ Some (record { flow = o.rf; ret = o.rr; litres = 1 })
    litre c samples h =
        let pair : IsCountingPair c.flow c.ret o.rf o.rr = rw (h.3, h.4) counting in
        rw (h.0, counts-true c o.rf o.rr pair) refl

    faulty : (c : Settings) (samples : Option (ℕ × ℕ)) → AreInForce c samples (Some o) → cond l.faulty 1 0 ≡ faulty_by c samples 1
    faulty c samples h =
        let pair : IsCountingPair c.flow c.ret o.rf o.rr = rw (h.3, h.4) counting in
        rw (sound, h.0, in_range-true c.flow o.rf pair.temps.flow_in_range, in_range-true c.ret o.rr pair.temps.return_in_range) refl

-- what a litre adds where they do not
pub adds_uncounted : (o : Origin) (l : PerLitre) → l.e_mj ≡ pos 0 → l.b_mj ≡ 0
    → ((c : Settings) (samples : Option (ℕ × ℕ)) → AreInForce c samples (Some o) → litre_by c samples ≡ None)
    → ((c : Settings) (samples : Option (ℕ × ℕ)) → AreInForce c samples (Some o) → cond l.faulty 1 0 ≡ faulty_by c samples 1)
    → AddsLitre (Some o) l
adds_uncounted o l e b none faulty = record {
  counted = λ c samples k h is. absurd (some_none (sym is ∙ none c samples h));
  uncounted = λ c samples h is. (e, b);
  faulty = faulty;
  size = rw e (record { low = omega (arith, ints); high = omega (arith, ints) });
  bound = omega (arith, b);
}

pub adds_small : (o : Origin) (l : PerLitre) → IsSmallPair (element o.pair.flow) (element o.pair.ret) o.rf o.rr
    → l.e_mj ≡ pos 0 → l.b_mj ≡ 0 → l.faulty ≡ false → AddsLitre (Some o) l
adds_small o l small e b sound = adds_uncounted o l e b none faulty
  where
    none : (c : Settings) (samples : Option (ℕ × ℕ)) → AreInForce c samples (Some o) → litre_by c samples ≡ None
    none c samples h =
        let pair : IsSmallPair c.flow c.ret o.rf o.rr = rw (h.3, h.4) small in
        rw (h.0, counts-false c o.rf o.rr pair) refl

    faulty : (c : Settings) (samples : Option (ℕ × ℕ)) → AreInForce c samples (Some o) → cond l.faulty 1 0 ≡ faulty_by c samples 1
    faulty c samples h =
        let pair : IsSmallPair c.flow c.ret o.rf o.rr = rw (h.3, h.4) small in
        rw (sound, h.0, in_range-true c.flow o.rf pair.temps.flow_in_range, in_range-true c.ret o.rr pair.temps.return_in_range) refl

pub adds_flow_out : (o : Origin) (l : PerLitre) → (IsInRange (element o.pair.flow) o.rf → ⊥)
    → l.e_mj ≡ pos 0 → l.b_mj ≡ 0 → l.faulty ≡ true → AddsLitre (Some o) l
adds_flow_out o l out e b faulty = adds_uncounted o l e b none counted_faulty
  where
    none : (c : Settings) (samples : Option (ℕ × ℕ)) → AreInForce c samples (Some o) → litre_by c samples ≡ None
    none c samples h =
        let away : IsInRange c.flow o.rf → ⊥ = rw h.3 out in
        rw (h.0, counts-no_flow c o.rf o.rr away) refl

    counted_faulty : (c : Settings) (samples : Option (ℕ × ℕ)) → AreInForce c samples (Some o) → cond l.faulty 1 0 ≡ faulty_by c samples 1
    counted_faulty c samples h =
        let away : IsInRange c.flow o.rf → ⊥ = rw h.3 out in
        rw (faulty, h.0, in_range-false c.flow o.rf away) refl

pub adds_return_out : (o : Origin) (l : PerLitre) → (IsInRange (element o.pair.ret) o.rr → ⊥)
    → l.e_mj ≡ pos 0 → l.b_mj ≡ 0 → l.faulty ≡ true → AddsLitre (Some o) l
adds_return_out o l out e b faulty = adds_uncounted o l e b none counted_faulty
  where
    either : (a : Bool) → (a && false) ≡ false
    either true = refl
    either false = refl

    none : (c : Settings) (samples : Option (ℕ × ℕ)) → AreInForce c samples (Some o) → litre_by c samples ≡ None
    none c samples h =
        let away : IsInRange c.ret o.rr → ⊥ = rw h.4 out in
        rw (h.0, counts-no_return c o.rf o.rr away) refl

    counted_faulty : (c : Settings) (samples : Option (ℕ × ℕ)) → AreInForce c samples (Some o) → cond l.faulty 1 0 ≡ faulty_by c samples 1
    counted_faulty c samples h =
        let away : IsInRange c.ret o.rr → ⊥ = rw h.4 out in
        rw (faulty, h.0, in_range-false c.ret o.rr away, either (is_in_range c.flow o.rf)) refl

-- what pulses add of the litre
pub adds_pulses : (per_pulse : ℕ) (origin : Option Origin) (l : PerLitre) (n : ℕ) (s : Step)
    → AddsLitre origin l → s.e_mj ≡ pos (n * per_pulse) *ℤ l.e_mj → s.b_mj ≡ (n * per_pulse) * l.b_mj → s.faulty ≡ cond l.faulty n 0
    → AddsPulses per_pulse origin n s
adds_pulses per_pulse origin l n s litre e b faulty = record {
  step = λ c samples same h. record {
    fits = rw (e, b, sym same) (fits c samples h (counts_at c samples) refl);
    faulty = faulty ∙ faulty_times c samples l.faulty (litre.faulty c samples h);
  };
  size = rw e (size_times (n * per_pulse) l.e_mj litre.size);
  bound = rw b (bound_times (n * per_pulse) l.b_mj litre.bound);
  few = rw faulty (few_of l.faulty);
}
  where
    size_times : (x : ℕ) (z : ℤ) → IsWithin 2000000000 z → IsWithin (2000000000 * x) (pos x *ℤ z)
    size_times x z h = record {
      low = recast (mul-le_pos x h.low) (simp ring (same_diff _ _ _ _ (omega arith))) (turned x z);
      high = recast (mul-le_pos x h.high) (turned x z) refl;
    }
      where
        turned : (x : ℕ) (z : ℤ) → pos x *ℤ z ≡ z *ℤ pos x
        turned x z = rw (as_diff z) (simp ring (same_diff _ _ _ _ (omega arith)))

    few_of : (f : Bool) → cond f n 0 ≤ n
    few_of true = omega arith
    few_of false = omega arith

    bound_times : (x b : ℕ) → b ≤ 2000 → x * b ≤ 2000 * x
    bound_times x b h = let k : x * b ≤ x * 2000 = mul-le-mul_left x h in omega (arith, k)

    none_of : (x : ℕ) (z : ℤ) (b : ℕ) → (z ≡ pos 0) × (b ≡ 0) → (pos x *ℤ z ≡ pos 0) × (x * b ≡ 0)
    none_of x z b h =
        let zero : x * 0 ≡ 0 = omega arith in
        (rw h.0 (ap pos zero), rw h.1 zero)

    counts_at : Settings → Option (ℕ × ℕ) → Bool
    counts_at c None = false
    counts_at c (Some t) = counts c t.0 t.1

    fits : (c : Settings) (samples : Option (ℕ × ℕ)) → AreInForce c samples origin → (counted : Bool) → counts_at c samples ≡ counted
        → AddsBy (FitsClosely c) (counted_by c samples (Pulse n)) (pos (n * c.litres_per_pulse) *ℤ l.e_mj) ((n * c.litres_per_pulse) * l.b_mj)
    fits c None h counted is = none_of (n * c.litres_per_pulse) l.e_mj l.b_mj (litre.uncounted c None h refl)
    fits c (Some t) h true is = rw is (closely_times c t.0 t.1 (n * c.litres_per_pulse) l (litre.counted c (Some t) _ h (rw is refl)))
    fits c (Some t) h false is = rw is (none_of (n * c.litres_per_pulse) l.e_mj l.b_mj (litre.uncounted c (Some t) h (rw is refl)))

    faulty_times : (c : Settings) (samples : Option (ℕ × ℕ)) (f : Bool) → cond f 1 0 ≡ faulty_by c samples 1 → cond f n 0 ≡ faulty_by c samples n
    faulty_times c None f h = by_none f h where
      by_none : (f : Bool) → ◌≡◌ {A = ℕ} (cond f 1 0) 0 → cond f n 0 ≡ 0
      by_none true h = absurd (omega (arith, h))
      by_none false h = refl
    faulty_times c (Some t) f h = by_range f (is_in_range c.flow t.0 && is_in_range c.ret t.1) h where
      by_range : (f range : Bool) → ◌≡◌ {A = ℕ} (cond f 1 0) (cond range 0 1) → cond f n 0 ≡ cond range 0 n
      by_range true true h = absurd (omega (arith, h))
      by_range true false h = refl
      by_range false true h = refl
      by_range false false h = absurd (omega (arith, h))

same_step : (e e' : ℤ) (b b' f f' : ℕ) → e ≡ e' → b ≡ b' → f ≡ f' → ◌≡◌ {A = Step} (record { e_mj = e; b_mj = b; faulty = f }) (record { e_mj = e'; b_mj = b'; faulty = f' })
same_step e e' b b' f f' p q r = rw (p, q, r) refl

-- the step of n pulses is n times that of one
pub is_times : (r : Rate) (n : ℕ) (s : Step) → s.e_mj ≡ pos (n * r.per_pulse) *ℤ r.litre.e_mj → s.b_mj ≡ (n * r.per_pulse) * r.litre.b_mj → s.faulty ≡ cond r.litre.faulty n 0
    → s ≡ times n (unit_of r)
is_times r n s e b faulty = same_step s.e_mj _ s.b_mj _ s.faulty _ (e ∙ energy r.per_pulse r.litre.e_mj) (b ∙ bound r.per_pulse r.litre.b_mj) (faulty ∙ each r.litre.faulty) where
  energy : (x : ℕ) (z : ℤ) → pos (n * x) *ℤ z ≡ pos n *ℤ (pos x *ℤ z)
  energy x z = rw (as_diff z) (simp ring (same_diff _ _ _ _ (omega arith)))

  bound : (x b : ℕ) → (n * x) * b ≡ n * (x * b)
  bound x b = omega arith

  each : (f : Bool) → cond f n 0 ≡ n * cond f 1 0
  each true = omega arith
  each false = omega arith

pub times_one : (s : Step) → times 1 s ≡ s
times_one s = same_step (pos 1 *ℤ s.e_mj) s.e_mj (1 * s.b_mj) s.b_mj (1 * s.faulty) s.faulty (once s.e_mj) (omega arith) (omega arith)
