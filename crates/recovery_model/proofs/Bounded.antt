-- The energy of the record that a memory holds is bounded, and so is that of any events that fit with margin.
use Rattle.std.proofs.Common.{◌≡◌, ◌⊎◌, inl, inr, ℕ, ◌+◌, ◌*◌, ◌≤◌, pos, ◌+ℤ◌, ◌-ℤ◌, List, length, true, Option, None, Some, refl, sym, ap, subst, arith}
use Rattle.std.proofs.lemmas.Int.{ints}
use Rattle.std.proofs.lemmas.Bool.{cases_eq, and_parts}
use Rattle.std.proofs.lemmas.Bool.Decides.{nat_tests}
use Rattle.platinum_model.specs.Element.{Element, nominal}
use Rattle.platinum_model.specs.Calibration.{fits, fits_a_sensor}
use Rattle.platinum_model.specs.Sample.{IsInRange}
use Rattle.platinum_model.proofs.SensorKinds.{fits_pt100, fits_pt500, fits_pt1000}
use Rattle.metering_model.specs.Events.{Kept}
use Rattle.metering_model.specs.Records.{MeterRecord, StandsFor, bound_in, energy_in}
use Rattle.integral_model.specs.Integral.{AllFitClosely, AllFitWithMargin, IsChoice, IsNear, Temps, counted_litres, exact_integral}
use Rattle.integral_model.specs.Near.{AreNear, HasChoice, HasNanodegree}
use Rattle.integral_model.proofs.Choices.{HaveFitting, all_are_near, all_have_choice, fitting-in_cell}
use Rattle.integral_model.proofs.Joined.{margin-of-closely}
use Rattle.config_model.specs.Configuration.{Configuration, is_calibration, flow_or_nominal, return_or_nominal}
use Rattle.parts_model.specs.Ranges.{is_sensor}
use Rattle.trace_model.specs.Trace.{Trace}
use Rattle.trace_model.specs.Output.{output_lines}
use Rattle.pairing_model.specs.Settings.{settings_for}
use Rattle.recovery_model.specs.Bounded.{HoldsBounded, IsWithinBound, events_of, held_events}
use Rattle.recovery_model.specs.Right.{IsRight, StandsForNext}
use Rattle.recovery_model.proofs.Held.{held_sensor, held_calibration}

which : (ohm : ℕ) → is_sensor ohm ≡ true → (ohm ≡ 100) ⊎ ((ohm ≡ 500) ⊎ (ohm ≡ 1000))
which ohm h = elim (cases_eq ohm 100) [
  | inl is ↦ inl is
  | inr no_100 ↦ elim (cases_eq ohm 500) [
    | inl is ↦ inr (inl is)
    | inr no_500 ↦ inr (inr (grind (arith, nat_tests)))
  ]
]

fits_here : (e : Element) (ohm : ℕ) → is_sensor ohm ≡ true → fits e (1000000 * ohm) ≡ true → fits_a_sensor e ≡ true
fits_here e ohm h k =
    elim (which ohm h) [
      | inl is ↦ fits_pt100 e (subst (λ (n : ℕ). fits e (1000000 * n) ≡ true) is k)
      | inr (inl is) ↦ fits_pt500 e (subst (λ (n : ℕ). fits e (1000000 * n) ≡ true) is k)
      | inr (inr is) ↦ fits_pt1000 e (subst (λ (n : ℕ). fits e (1000000 * n) ≡ true) is k)
    ]

nominal_fits : (ohm : ℕ) → is_sensor ohm ≡ true → fits (nominal (1000000 * ohm)) (1000000 * ohm) ≡ true
nominal_fits ohm h =
    elim (which ohm h) [
      | inl is ↦ rw is refl
      | inr (inl is) ↦ rw is refl
      | inr (inr is) ↦ rw is refl
    ]

flow_fits : (ohm : ℕ) (k : Option (Element × Element)) → is_sensor ohm ≡ true → is_calibration ohm k ≡ true → fits_a_sensor (flow_or_nominal ohm k) ≡ true
flow_fits ohm None h fit = fits_here (nominal (1000000 * ohm)) ohm h (nominal_fits ohm h)
flow_fits ohm (Some k) h fit = fits_here k.0 ohm h (and_parts (fits k.0 (1000000 * ohm)) (fits k.1 (1000000 * ohm)) fit).0

return_fits : (ohm : ℕ) (k : Option (Element × Element)) → is_sensor ohm ≡ true → is_calibration ohm k ≡ true → fits_a_sensor (return_or_nominal ohm k) ≡ true
return_fits ohm None h fit = fits_here (nominal (1000000 * ohm)) ohm h (nominal_fits ohm h)
return_fits ohm (Some k) h fit = fits_here k.1 ohm h (and_parts (fits k.0 (1000000 * ohm)) (fits k.1 (1000000 * ohm)) fit).1

have_fitting : (c : Configuration) → is_sensor c.sensor_ohm ≡ true → is_calibration c.sensor_ohm c.calibration ≡ true → HaveFitting (settings_for c)
have_fitting c h fit = record { flow = flow_fits c.sensor_ohm c.calibration h fit; ret = return_fits c.sensor_ohm c.calibration h fit }

-- ---- laws of any events

pub cell_has_nanodegree : (e : Element) (ohm r : ℕ) → is_sensor ohm ≡ true → fits e (1000000 * ohm) ≡ true → IsInRange e r → HasNanodegree e r
cell_has_nanodegree e ohm r sensor fit range = fitting-in_cell e r (fits_here e ohm sensor fit) range

pub choice_exists : (c : Configuration) (o : MeterRecord) (events : List Kept) → is_sensor c.sensor_ohm ≡ true → is_calibration c.sensor_ohm c.calibration ≡ true → HasChoice (settings_for c) o events
choice_exists c o events sensor fit = all_have_choice (settings_for c) o events (have_fitting c sensor fit)

pub margin_is_near : (c : Configuration) (o : MeterRecord) (events : List Kept) → is_sensor c.sensor_ohm ≡ true → is_calibration c.sensor_ohm c.calibration ≡ true → AllFitWithMargin (settings_for c) o events → AreNear (settings_for c) o events
margin_is_near c o events sensor fit margin = all_are_near (settings_for c) o events (have_fitting c sensor fit) margin

-- ---- the record that is held

module _ (c : Configuration) (o held : MeterRecord) (events : List Kept) (stands : StandsFor (settings_for c) o events held) (all : AreNear (settings_for c) o events) where
  gained : (held.register.energy_mj -ℤ o.register.energy_mj) ≡ energy_in events
  gained = let is : held.register.energy_mj ≡ o.register.energy_mj +ℤ energy_in events = ap (λ (m : MeterRecord). m.register.energy_mj) stands.is in omega (arith, ints)

  bound : held.register.bound_mj ≡ o.register.bound_mj + bound_in events
  bound = ap (λ (m : MeterRecord). m.register.bound_mj) stands.is

  gained_bound : (pos held.register.bound_mj -ℤ pos o.register.bound_mj) ≡ pos (bound_in events)
  gained_bound = omega (arith, ints, bound)

  capped : held.register.bound_mj ≤ o.register.bound_mj + 2000 * counted_litres (settings_for c) o events
  capped = omega (arith, bound, all.cap)

  within : (choice : ℕ → Temps) → IsChoice (settings_for c) o choice events → IsWithinBound c o held events choice
  within choice chosen =
      let integral = exact_integral (settings_for c) o choice events in
      record {
        near = subst (λ e. IsNear e (pos held.register.bound_mj -ℤ pos o.register.bound_mj) integral) (sym gained) (subst (λ d. IsNear (energy_in events) d integral) (sym gained_bound) (all.near choice chosen));
        finer = subst (λ e. IsNear e (pos (600 * counted_litres (settings_for c) o events)) integral) (sym gained) (all.finer choice chosen);
      }

-- the record stands for the events by either case, and they fit closely
pub record IsHeldFor (c : Configuration) (o held : MeterRecord) (events : List Kept) : Type 0 where
  pub stands : StandsFor (settings_for c) o events held
  pub fits : AllFitClosely (settings_for c) o events

held_for : (c : Configuration) (o : MeterRecord) (lines : List (List ℕ)) (kept : List Kept) (n : ℕ) (held : MeterRecord) → AllFitClosely (settings_for c) o kept
    → (either : StandsFor (settings_for c) o kept held ⊎ StandsForNext c o lines kept n held) → IsHeldFor c o held (events_of either)
held_for c o lines kept n held fits (inl stands) = record { stands = stands; fits = fits }
held_for c o lines kept n held fits (inr next) = record { stands = next.stands; fits = next.fits }

pub right_bounded : (c : Configuration) (o : MeterRecord) (lines : List (List ℕ)) (moment : Trace) (image : List ℕ) (right : IsRight c o lines moment image) → HoldsBounded c o lines moment image right
right_bounded c o lines moment image right =
    let is = held_for c o lines right.journal.kept (length (output_lines moment)) right.held right.fits right.stands in
    let events = held_events right in
    let all = margin_is_near c o events (held_sensor image c right.held right.side right.holds) (held_calibration image c right.held right.side right.holds) (margin-of-closely (settings_for c) o events is.fits) in
    record { stands = is.stands; bounded = within c o right.held events is.stands all; cap = capped c o right.held events is.stands all }
