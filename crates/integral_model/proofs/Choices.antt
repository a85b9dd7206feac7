-- Every sample in range has a whole nanodegree in its cell, so that there are temperatures for any events.
use Rattle.std.proofs.Common.{◌≡◌, ℕ, zero, suc, ◌+◌, ◌-◌, ◌*◌, ◌^◌, ◌<◌, ◌≤◌, List, [], ◌∷◌, ◌++◌, length, map, Option, None, Some, refl, sym, ap, ◌∙◌, subst, arith, lit<, IsTrue, ◌⊎◌, inl, inr, append_assoc, length-append}
use Rattle.std.specs.List.{AllByRecursion}
use Rattle.std.proofs.lemmas.Bool.{cases_lt}
use Rattle.std.proofs.Math.ListN.{get_or}
use Rattle.std.proofs.Math.Seq.{get_or-append_seam}
use native.Mathlib.Nat.{mul-le-mul_left, mul-le-mul}
use Rattle.number_model.specs.Fraction.{Fraction, whole}
use Rattle.number_model.specs.Enclosure.{nanodegrees}
use Rattle.number_model.proofs.Same.{same_refl, same_sym}
use Rattle.platinum_model.specs.Element.{Element, resistance, scaled_resistance}
use Rattle.platinum_model.specs.Sample.{IsInRange, IsInCell}
use Rattle.platinum_model.proofs.Order.{le_same, half_more}
use Rattle.platinum_model.proofs.Curve.{IsRising}
use Rattle.platinum_model.proofs.Scaled.{at_most, at_least}
use Rattle.platinum_model.proofs.Samples.{from_0, to_180, IsInRange-low, IsInRange-high}
use Rattle.platinum_model.specs.Calibration.{fits_a_sensor}
use Rattle.platinum_model.proofs.Cells.{less_half}
use Rattle.platinum_model.proofs.Fitting.{AreFitting, fitting, fitting-steep}
use Rattle.metering_model.specs.Events.{Kept, Placed, placed, placed_after}
use Rattle.metering_model.specs.Settings.{Settings}
use Rattle.metering_model.specs.Counting.{Counted}
use Rattle.metering_model.specs.Records.{MeterRecord, counted_at, samples_after}
use Rattle.integral_model.specs.Integral.{Temps, IsChoiceOf, AllFitWithMargin}
use Rattle.integral_model.specs.Near.{AreNear, HasChoice, HasNanodegree}
use Rattle.integral_model.proofs.Bounded.{AreInRange, HasNarrowCells, all_capped, all_finer, all_near, counted-in_range, narrow-steep}
use Rattle.integral_model.proofs.Joined.{fit-of-margin}

-- ---- the greatest number at which what starts at most at y still is at most y
record IsLast (f : ℕ → ℕ) (y m : ℕ) : Type 0 where
  n : ℕ
  before : n < m
  reached : f n ≤ y
  passed : y < f (suc n)

last_in : (f : ℕ → ℕ) (y m : ℕ) → f 0 ≤ y → y < f m → IsLast f y m
last_in f y zero low high = absurd (omega arith)
last_in f y (suc m) low high = by_order (λ above. last_in f y m low above) (cases_lt y (f m)) where
  by_order : (y < f m → IsLast f y m) → (y < f m) ⊎ (f m ≤ y) → IsLast f y (suc m)
  by_order before (inl above) = let found = before above in record { n = found.n; before = omega (arith, found.before); reached = found.reached; passed = found.passed }
  by_order before (inr reached) = record { n = m; before = omega arith; reached = reached; passed = high }

-- ---- a sensor that rises by at most half a microohm a nanodegree
record IsSlow (e : Element) : Type 0 where
  slope : 2 * (e.r0_uohm * (e.a_e10 * 10 ^ 9)) ≤ 10 ^ 28

one_step : (q a b n : ℕ) → q + a * (n + 1) - b * ((n + 1) * (n + 1)) ≤ (q + a * n - b * (n * n)) + a
one_step q a b n = let squares : b * (n * n) ≤ b * ((n + 1) * (n + 1)) = mul-le-mul_left b (omega arith) in omega arith

scaled_step : (e : Element) (n : ℕ) → scaled_resistance e (suc n) ≤ scaled_resistance e n + e.r0_uohm * (e.a_e10 * 10 ^ 9)
unfolding scaled_resistance
scaled_step e n =
    let one = one_step (10 ^ 28) (e.a_e10 * 10 ^ 9) e.b_e10 n in
    let times = mul-le-mul_left e.r0_uohm one in
    let next : suc n ≡ n + 1 = omega arith in
    rw next (spread e.r0_uohm _ _ _ times)
  where
    spread : (r x y z : ℕ) → r * x ≤ r * (y + z) → r * x ≤ r * y + r * z
    spread r x y z h = omega arith

-- the cell of a sample in range has a whole nanodegree
in_cell : (e : Element) (r : ℕ) → IsRising e → IsSlow e → IsInRange e r → HasNanodegree e r
in_cell e r rising slow range =
    let low : scaled_resistance e 0 + 10 ^ 28 ≤ 10 ^ 28 * r = IsInRange-low e r rising range in
    let high : 10 ^ 28 * r + 10 ^ 28 ≤ scaled_resistance e 180000000000 = IsInRange-high e r rising range in
    let found = last_in (scaled_resistance e) (10 ^ 28 * r) 180000000000 (below _ _ low) (above _ _ high) in
    let inside : found.n ≤ 180000000000 = within _ _ found.before in
    let some : 0 < r = positive _ r low in
    let near : 10 ^ 28 * (2 * r - 1) ≤ scaled_resistance e found.n * 2 = near_below r _ _ _ found.passed (scaled_step e found.n) slow.slope in
    let over : scaled_resistance e found.n * 2 ≤ 10 ^ 28 * (2 * r + 1) = near_above r _ found.reached in (
      found.n,
      record {
        above_0 = from_0 found.n;
        below_180 = to_180 found.n inside;
        low = le_same (same_sym (less_half r some)) (same_refl (resistance e (nanodegrees found.n))) (at_least e found.n (2 * r - 1) 2 (lit< tt) rising inside near);
        high = le_same (same_refl (resistance e (nanodegrees found.n))) (same_sym (half_more r)) (at_most e found.n (2 * r + 1) 2 (lit< tt) rising inside over);
      },
    )
  where
    below : (x y : ℕ) → x + 10 ^ 28 ≤ y → x ≤ y
    below x y h = omega arith

    above : (x y : ℕ) → x + 10 ^ 28 ≤ y → x < y
    above x y h = omega arith

    within : (n m : ℕ) → n < m → n ≤ m
    within n m h = omega arith

    positive : (x r : ℕ) → x + 10 ^ 28 ≤ 10 ^ 28 * r → 0 < r
    positive x r h = omega arith

    near_below : (r x y s : ℕ) → 10 ^ 28 * r < y → y ≤ x + s → 2 * s ≤ 10 ^ 28 → 10 ^ 28 * (2 * r - 1) ≤ x * 2
    near_below r x y s passed step slow = omega arith

    near_above : (r x : ℕ) → x ≤ 10 ^ 28 * r → x * 2 ≤ 10 ^ 28 * (2 * r + 1)
    near_above r x h = omega arith

-- ---- elements whose constants fit a sensor
fitting-slow : (e : Element) → IsTrue (fits_a_sensor e) → IsSlow e
fitting-slow e fits =
    let ranges : AreFitting e = fitting e fits in
    let most : e.r0_uohm * e.a_e10 ≤ 1005000000 * 39400000 = mul-le-mul ranges.r0_most ranges.a_most in
    record { slope = omega arith }

pub fitting-in_cell : (e : Element) (r : ℕ) → IsTrue (fits_a_sensor e) → IsInRange e r → HasNanodegree e r
fitting-in_cell e r fits range = in_cell e r (fitting-steep e fits).rising (fitting-slow e fits) range

-- each cell of a sample in range has a temperature
HasCells : Element → Type 0
HasCells e = (r : ℕ) → IsInRange e r → (t : Fraction) × IsInCell e r t

fitting-cells : (e : Element) → IsTrue (fits_a_sensor e) → HasCells e
unfolding HasCells
fitting-cells e fits r range = let found = fitting-in_cell e r fits range in (nanodegrees found.0, found.1)

-- ---- a choice
none : Temps
none = record { flow = whole 0; ret = whole 0 }

temps_for : (c : Settings) (k : Option Counted) → HasCells c.flow → HasCells c.ret → AreInRange c k → (t : Temps) × IsChoiceOf c k t
unfolding HasCells
temps_for c None flow ret range = (none, tt)
temps_for c (Some k) flow ret range =
    let f = flow k.flow range.0 in
    let g = ret k.ret range.1 in
    (record { flow = f.0; ret = g.0 }, record { flow = f.1; ret = g.1 })

-- what is chosen at each event, by how many stand before it
chosen : (Q : Placed → Temps → Type 0) (pick : Placed → Temps) → ((e : Placed) → Q e (pick e)) → (first : List Temps) (before ks : List Kept) → length first ≡ length before
    → AllByRecursion (λ e. Q e (get_or (first ++ map pick (placed_after before ks)) (length e.before) none)) (placed_after before ks)
chosen Q pick right first before [] same = tt
chosen Q pick right first before (k ∷ ks) same =
    let e : Placed = record { before = before; kept = k } in
    let rest = map pick (placed_after (before ++ k ∷ []) ks) in
    let here : get_or (first ++ pick e ∷ rest) (length before) none ≡ pick e = ap (λ n. get_or (first ++ pick e ∷ rest) n none) (sym same) ∙ get_or-append_seam first (pick e) rest none in
    let longer : length (first ++ pick e ∷ []) ≡ length (before ++ k ∷ []) = omega (arith, same, length-append first (pick e ∷ []), length-append before (k ∷ [])) in
    let later = chosen Q pick right (first ++ pick e ∷ []) (before ++ k ∷ []) ks longer in (
      subst (λ t. Q e t) (sym here) (right e),
      subst (λ (ts : List Temps). AllByRecursion (λ e. Q e (get_or ts (length e.before) none)) (placed_after (before ++ k ∷ []) ks)) (append_assoc first (pick e ∷ []) rest) later,
    )

choice-exists : (c : Settings) (o : MeterRecord) (ks : List Kept) → HasCells c.flow → HasCells c.ret → HasChoice c o ks
choice-exists c o ks flow ret =
    let at = λ (e : Placed). temps_for c (counted_at c o e) flow ret (counted-in_range c (samples_after o.samples e.before) e.kept.event) in
    let pick = λ (e : Placed). (at e).0 in
    let all = chosen (λ e t. IsChoiceOf c (counted_at c o e) t) pick (λ e. (at e).1) [] [] ks refl in
    ((λ n. get_or (map pick (placed ks)) n none), all)

-- ---- settings whose sensors have such constants
pub record HaveFitting (c : Settings) : Type 0 where
  pub flow : IsTrue (fits_a_sensor c.flow)
  pub ret : IsTrue (fits_a_sensor c.ret)

pub all_have_choice : (c : Settings) (o : MeterRecord) (ks : List Kept) → HaveFitting c → HasChoice c o ks
all_have_choice c o ks have = choice-exists c o ks (fitting-cells c.flow have.flow) (fitting-cells c.ret have.ret)

pub all_are_near : (c : Settings) (o : MeterRecord) (ks : List Kept) → HaveFitting c → AllFitWithMargin c o ks → AreNear c o ks
all_are_near c o ks have margin =
    let flow : HasNarrowCells c.flow = narrow-steep c.flow (fitting-steep c.flow have.flow) in
    let ret : HasNarrowCells c.ret = narrow-steep c.ret (fitting-steep c.ret have.ret) in
    let fit = fit-of-margin c o ks margin in
    record {
      near = λ choice is. all_near c o choice ks fit is;
      finer = λ choice is. all_finer c o choice ks flow ret margin is;
      cap = all_capped c o ks fit;
    }
