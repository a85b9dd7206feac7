-- What events add up to is as near to the exact integral as their bounds add up to.
use Rattle.std.proofs.Common.{◌≡◌, ℕ, ◌+◌, ◌*◌, ◌≤◌, ℤ, pos, ◌+ℤ◌, ◌-ℤ◌, ◌≤ℤ◌, List, [], ◌∷◌, ◌++◌, length, sum_by, Option, None, Some, refl, sym, ap, ◌∙◌, subst, arith, Bool, true, false, cond, ◌-◌}
use Rattle.std.specs.List.{AllByRecursion}
use Rattle.std.proofs.lemmas.Int.{ints}
use Rattle.std.proofs.lemmas.List.Sums.{sum_by-cons}
use native.Mathlib.Nat.{mul-le-mul_left}
use lib.Signed.{≤ℤ_refl}
use Rattle.number_model.specs.Fraction.{Fraction, ◌+ℚ◌, whole}
use Rattle.number_model.specs.Enclosure.{Holds}
use Rattle.number_model.proofs.Enclosures.{Holds-add}
use Rattle.number_model.proofs.Order.{≤ℚ_trans}
use Rattle.platinum_model.specs.Element.{Element}
use Rattle.platinum_model.specs.Sample.{IsInRange, AreCellEnds}
use Rattle.platinum_model.proofs.Cells.{IsSteep, AreCellEnds-width}
use Rattle.water_model.specs.Water.{sum_over}
use Rattle.heat_model.specs.Heat.{LiesBetween}
use Rattle.metering_model.specs.Events.{Event, Sample, Pulse, Date, Kept, Placed, placed, placed_after}
use Rattle.metering_model.specs.Settings.{Settings}
use Rattle.metering_model.specs.Counting.{Counted, counted_by, counts}
use Rattle.metering_model.specs.Records.{MeterRecord, counted_at, energy_in, bound_in, samples_after}
use Rattle.integral_model.specs.Integral.{Temps, energy_or_none, IsChoiceOf, IsChoice, exact_integral, litres_or_none, IsNear, Fits, AddsBy, AllFit, IsBounded, FitsWithMargin, AllFitWithMargin, counted_litres}
use Rattle.metering_model.proofs.Counting.{counts-is}

-- ---- sums of what is near
as_holds : (lo hi : ℤ) (x : Fraction) → LiesBetween lo hi x → Holds 0 lo hi x
as_holds lo hi x h = record { low = record { crossed = h.low.crossed }; high = record { crossed = h.high.crossed } }

lies-add : (lo hi lo' hi' : ℤ) (x x' : Fraction) → LiesBetween lo hi x → LiesBetween lo' hi' x' → LiesBetween (lo +ℤ lo') (hi +ℤ hi') (x +ℚ x')
lies-add lo hi lo' hi' x x' h k =
    let both = Holds-add 0 lo hi lo' hi' x x' (as_holds lo hi x h) (as_holds lo' hi' x' k) in
    record { low = record { crossed = both.low.crossed }; high = record { crossed = both.high.crossed } }

pub near-add : (e e' d d' : ℤ) (x x' : Fraction) → IsNear e d x → IsNear e' d' x' → IsNear (e +ℤ e') (d +ℤ d') (x +ℚ x')
near-add e e' d d' x x' h k =
    let low : (e +ℤ e') -ℤ (d +ℤ d') ≡ (e -ℤ d) +ℤ (e' -ℤ d') = omega (arith, ints) in
    let high : (e +ℤ e') +ℤ (d +ℤ d') ≡ (e +ℤ d) +ℤ (e' +ℤ d') = omega (arith, ints) in
    subst (λ lo. LiesBetween lo ((e +ℤ e') +ℤ (d +ℤ d')) (x +ℚ x')) (sym low)
    (subst (λ hi. LiesBetween ((e -ℤ d) +ℤ (e' -ℤ d')) hi (x +ℚ x')) (sym high) (lies-add (e -ℤ d) (e +ℤ d) (e' -ℤ d') (e' +ℤ d') x x' h k))

pub near-none : IsNear (pos 0) (pos 0) (whole 0)
near-none = record { low = record { crossed = ≤ℤ_refl (pos 0) }; high = record { crossed = ≤ℤ_refl (pos 0) } }

pub near-wider : (e d d' : ℤ) (x : Fraction) → d ≤ℤ d' → IsNear e d x → IsNear e d' x
near-wider e d d' x le h = record {
  low = ≤ℚ_trans (record { crossed = omega (arith, ints) }) h.low;
  high = ≤ℚ_trans h.high (record { crossed = omega (arith, ints) });
}

sum_near : (value : Placed → Fraction) (bound : Placed → ℕ) (before ks : List Kept) → AllByRecursion (λ e. IsNear e.kept.energy_mj (pos (bound e)) (value e)) (placed_after before ks)
    → IsNear (energy_in ks) (pos (sum_by bound (placed_after before ks))) (sum_over value (placed_after before ks))
unfolding sum_over
sum_near value bound before [] all = near-none
sum_near value bound before (k ∷ ks) all =
    let e : Placed = record { before = before; kept = k } in
    let rest = placed_after (before ++ k ∷ []) ks in
    let sum : pos (sum_by bound (e ∷ rest)) ≡ pos (bound e) +ℤ pos (sum_by bound rest) = ap pos (sum_by-cons bound e rest) in
    subst (λ d. IsNear (k.energy_mj +ℤ energy_in ks) d (value e +ℚ sum_over value rest)) (sym sum)
    (near-add k.energy_mj (energy_in ks) (pos (bound e)) (pos (sum_by bound rest)) (value e) (sum_over value rest) all.0 (sum_near value bound (before ++ k ∷ []) ks all.1))

-- ---- sums over the events
all-both : {X : Type 0} (P Q R : X → Type 0) (xs : List X) → ((x : X) → P x → Q x → R x) → AllByRecursion P xs → AllByRecursion Q xs → AllByRecursion R xs
all-both P Q R [] joins ps qs = tt
all-both P Q R (x ∷ xs) joins ps qs = (joins x ps.0 qs.0, all-both P Q R xs joins ps.1 qs.1)

sum_by-kept : (before ks : List Kept) → sum_by (λ e. e.kept.bound_mj) (placed_after before ks) ≡ bound_in ks
sum_by-kept before [] = refl
sum_by-kept before (k ∷ ks) =
    sum_by-cons (λ (e : Placed). e.kept.bound_mj) (record { before = before; kept = k }) (placed_after (before ++ k ∷ []) ks)
    ∙ ap (λ n. k.bound_mj + n) (sum_by-kept (before ++ k ∷ []) ks) ∙ sym (sum_by-cons (λ (k : Kept). k.bound_mj) k ks)

sum_by-times : {X : Type 0} (f : X → ℕ) (m : ℕ) (xs : List X) → sum_by (λ x. m * f x) xs ≡ m * sum_by f xs
sum_by-times f m [] = omega arith
sum_by-times f m (x ∷ xs) =
    let parts : m * f x + m * sum_by f xs ≡ m * (f x + sum_by f xs) = omega arith in
    sum_by-cons (λ x. m * f x) x xs ∙ ap (λ n. m * f x + n) (sum_by-times f m xs) ∙ parts ∙ ap (λ n. m * n) (sym (sum_by-cons f x xs))

sum_by-below : {X : Type 0} (f g : X → ℕ) (xs : List X) → AllByRecursion (λ x. f x ≤ g x) xs → sum_by f xs ≤ sum_by g xs
sum_by-below f g [] all = omega arith
sum_by-below f g (x ∷ xs) all = omega (arith, sum_by-cons f x xs, sum_by-cons g x xs, sum_by-below f g xs all.1, all.0)

-- ---- the bound
near-one : (c : Settings) (k : Option Counted) (e : ℤ) (b : ℕ) (t : Temps) → AddsBy (Fits c) k e b → IsChoiceOf c k t → IsNear e (pos b) (energy_or_none c k t)
near-one c None e b t adds choice = rw (adds.0, adds.1) near-none
near-one c (Some k) e b t adds choice = adds.near t choice

cap-one : (c : Settings) (k : Option Counted) (e : ℤ) (b : ℕ) → AddsBy (Fits c) k e b → b ≤ 2000 * litres_or_none k
cap-one c None e b adds = omega (arith, adds.1)
cap-one c (Some k) e b adds = adds.cap

all-each : {X : Type 0} (P R : X → Type 0) (xs : List X) → ((x : X) → P x → R x) → AllByRecursion P xs → AllByRecursion R xs
all-each P R [] gives ps = tt
all-each P R (x ∷ xs) gives ps = (gives x ps.0, all-each P R xs gives ps.1)

pub all_near : (c : Settings) (o : MeterRecord) (choice : ℕ → Temps) (ks : List Kept) → AllFit c o ks → IsChoice c o choice ks → IsNear (energy_in ks) (pos (bound_in ks)) (exact_integral c o choice ks)
all_near c o choice ks fit chosen =
    let Adds = λ (e : Placed). AddsBy (Fits c) (counted_at c o e) e.kept.energy_mj e.kept.bound_mj in
    let Chosen = λ (e : Placed). IsChoiceOf c (counted_at c o e) (choice (length e.before)) in
    let value = λ (e : Placed). energy_or_none c (counted_at c o e) (choice (length e.before)) in
    let bound = λ (e : Placed). e.kept.bound_mj in
    let each : AllByRecursion (λ e. IsNear e.kept.energy_mj (pos (bound e)) (value e)) (placed ks) =
    all-both Adds Chosen (λ (e : Placed). IsNear e.kept.energy_mj (pos (bound e)) (value e)) (placed ks)
    (λ e. near-one c (counted_at c o e) e.kept.energy_mj e.kept.bound_mj (choice (length e.before))) fit chosen in
    subst (λ b. IsNear (energy_in ks) (pos b) (exact_integral c o choice ks)) (sum_by-kept [] ks) (sum_near value bound [] ks each)

pub all_capped : (c : Settings) (o : MeterRecord) (ks : List Kept) → AllFit c o ks → bound_in ks ≤ 2000 * counted_litres c o ks
all_capped c o ks fit =
    let Adds = λ (e : Placed). AddsBy (Fits c) (counted_at c o e) e.kept.energy_mj e.kept.bound_mj in
    let bound = λ (e : Placed). e.kept.bound_mj in
    let litres = λ (e : Placed). litres_or_none (counted_at c o e) in
    let caps : AllByRecursion (λ e. bound e ≤ 2000 * litres e) (placed ks) =
    all-each Adds (λ (e : Placed). bound e ≤ 2000 * litres e) (placed ks) (λ e. cap-one c (counted_at c o e) e.kept.energy_mj e.kept.bound_mj) fit in
    omega (arith, sum_by-kept [] ks, sum_by-below bound (λ (e : Placed). 2000 * litres e) (placed ks) caps, sum_by-times litres 2000 (placed ks))

pub all_bounded : (c : Settings) (o : MeterRecord) (choice : ℕ → Temps) (ks : List Kept) → AllFit c o ks → IsChoice c o choice ks → IsBounded c o choice ks
all_bounded c o choice ks fit chosen = record { near = all_near c o choice ks fit chosen; cap = all_capped c o ks fit }

-- ---- the finer bound, where cells are narrow
-- each cell of a sample in range is at most 2,800 nanodegrees wide
abbrev pub HasNarrowCells : Element → Type 0
HasNarrowCells e = (r lo hi : ℕ) → IsInRange e r → AreCellEnds e r lo hi → hi ≤ lo + 2800

pub narrow-steep : (e : Element) → IsSteep e → HasNarrowCells e
narrow-steep e steep r lo hi range ends = AreCellEnds-width e r lo hi steep range ends

-- the samples of what was counted are in range
abbrev pub AreInRange : Settings → Option Counted → Type 0
AreInRange c None = Unit {0}
AreInRange c (Some k) = IsInRange c.flow k.flow × IsInRange c.ret k.ret

in_range-cond : (c : Settings) (k : Counted) (b : Bool) → (b ≡ true → AreInRange c (Some k)) → AreInRange c (cond b (Some k) None)
in_range-cond c k true inside = inside refl
in_range-cond c k false inside = tt

pub counted-in_range : (c : Settings) (s : Option (ℕ × ℕ)) (event : Event) → AreInRange c (counted_by c s event)
counted-in_range c None event = tt
counted-in_range c (Some s) (Sample flow ret) = tt
counted-in_range c (Some s) (Date day) = tt
counted-in_range c (Some s) (Pulse n) =
    in_range-cond c (record { flow = s.0; ret = s.1; litres = n * c.litres_per_pulse }) (counts c s.0 s.1)
    (λ h. let pair = counts-is c s.0 s.1 h in (pair.temps.flow_in_range, pair.temps.return_in_range))

-- 12 b is at most 21,200 mJ a litre, so that b is at most 600 mJ a litre beyond the margin of 1,200
margin : (b l f g : ℕ) → f ≤ 2800 → g ≤ 2800 → 12 * b ≤ l * (15600 + f + g) → b ≤ 1800 * l
margin b l f g flow ret narrow =
    let wide : l * (15600 + f + g) ≤ l * 21600 = mul-le-mul_left l (omega arith) in
    omega arith

finer-one : (c : Settings) (k : Option Counted) (e : ℤ) (b : ℕ) (t : Temps) → HasNarrowCells c.flow → HasNarrowCells c.ret → AreInRange c k → AddsBy (FitsWithMargin c) k e b → IsChoiceOf c k t → IsNear e (pos (600 * litres_or_none k)) (energy_or_none c k t)
finer-one c None e b t flow ret range adds choice = rw adds.0 near-none
finer-one c (Some k) e b t flow ret range adds choice =
    let f : adds.flow_hi ≤ adds.flow_lo + 2800 = flow k.flow adds.flow_lo adds.flow_hi range.0 adds.flow_ends in
    let g : adds.return_hi ≤ adds.return_lo + 2800 = ret k.ret adds.return_lo adds.return_hi range.1 adds.return_ends in
    let high : b ≤ 1800 * k.litres = margin b k.litres (adds.flow_hi - adds.flow_lo) (adds.return_hi - adds.return_lo) (omega arith) (omega arith) adds.narrow in
    let less : (pos b -ℤ pos (1200 * k.litres)) ≤ℤ pos (600 * k.litres) = omega (arith, ints) in
    near-wider e (pos b -ℤ pos (1200 * k.litres)) (pos (600 * k.litres)) (energy_or_none c (Some k) t) less (adds.nearer t choice)

pub all_finer : (c : Settings) (o : MeterRecord) (choice : ℕ → Temps) (ks : List Kept) → HasNarrowCells c.flow → HasNarrowCells c.ret → AllFitWithMargin c o ks → IsChoice c o choice ks
    → IsNear (energy_in ks) (pos (600 * counted_litres c o ks)) (exact_integral c o choice ks)
all_finer c o choice ks flow ret fit chosen =
    let Adds = λ (e : Placed). AddsBy (FitsWithMargin c) (counted_at c o e) e.kept.energy_mj e.kept.bound_mj in
    let Chosen = λ (e : Placed). IsChoiceOf c (counted_at c o e) (choice (length e.before)) in
    let value = λ (e : Placed). energy_or_none c (counted_at c o e) (choice (length e.before)) in
    let litres = λ (e : Placed). litres_or_none (counted_at c o e) in
    let each : AllByRecursion (λ e. IsNear e.kept.energy_mj (pos (600 * litres e)) (value e)) (placed ks) =
    all-both Adds Chosen (λ (e : Placed). IsNear e.kept.energy_mj (pos (600 * litres e)) (value e)) (placed ks)
    (λ e. finer-one c (counted_at c o e) e.kept.energy_mj e.kept.bound_mj (choice (length e.before)) flow ret (counted-in_range c (samples_after o.samples e.before) e.kept.event)) fit chosen in
    subst (λ d. IsNear (energy_in ks) (pos d) (exact_integral c o choice ks)) (sum_by-times litres 600 (placed ks)) (sum_near value (λ (e : Placed). 600 * litres e) [] ks each)
