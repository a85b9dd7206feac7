-- The generated events that a record took.
use Rattle.std.proofs.Common.{◌≡◌, ℕ, ◌+◌, ◌*◌, ◌/◌, ◌%◌, ◌<◌, ◌≤◌, List, [], ◌∷◌, ◌++◌, map, None, Bool, true, false, refl, sym, ap, ◌∙◌, subst, arith, add-one, length-append}
use Rattle.std.specs.Prelude.{if◌then◌else◌, ◌==◌}
use Rattle.std.proofs.lemmas.List.{map-append}
use Rattle.calendar_model.specs.Calendar.{day_number}
use Rattle.metering_model.specs.Events.{Event, Sample, Pulse, Date, Kept, pulses_of}
use Rattle.metering_model.specs.Counting.{counted_by}
use Rattle.metering_model.specs.Records.{MeterRecord, Register, StandsFor, day_after}
use Rattle.integral_model.specs.Integral.{AddsBy, AllFitClosely, FitsClosely, TakesEvent}
use Rattle.integral_model.specs.Near.{AreNear}
use Rattle.metering_model.proofs.Joined.{register_after-joined, day_after-joined}
use Rattle.integral_model.proofs.Joined.{fit-more, margin-of-closely}
use Rattle.generator_model.specs.Generated.{event_at, draw_at}
use Rattle.load_gen.proofs.Steps.{first_day}
use Rattle.answer_model.specs.Faults.{event_fault}
use Rattle.meter_core.proofs.Records.{fault_by_kind, no_pulse_fault, no_date_fault}
use Rattle.recovery_model.proofs.Bounded.{margin_is_near}
use Rattle.run_engine.specs.Dry.{dry_configuration, dry_opening, dry_settings}
use Rattle.meter_cli.specs.Gen.{KeepsEvents, StandsForEvents, first_events}

-- the record took the first n events, so it has few pulses, and its day is early
pub record HasTaken (seed n : ℕ) (r : MeterRecord) : Type 0 where
  pub stands : StandsForEvents seed n r
  pub few : r.register.pulses ≤ 9 * n
  pub early : r.day ≤ 8780 + n / 1000

pub started : (seed : ℕ) → HasTaken seed 0 dry_opening
unfolding first_events
started seed = record {
  stands = record {
    kept = [];
    keeps = record { events = refl; count = refl; fits = tt };
    stands = record { in_order = refl; is = refl };
  };
  few = omega arith;
  early = omega arith;
}

-- ---- one event

-- an event of one of the three kinds
abbrev chosen : (a b : Bool) (day flow ret n : ℕ) → Event
chosen a b day flow ret n = if a then Date day else if b then Sample flow ret else Pulse n

few_pulses : (a b : Bool) (day flow ret n : ℕ) → n ≤ 9 → pulses_of (chosen a b day flow ret n) ≤ 9
few_pulses true b day flow ret n h = omega arith
few_pulses false true day flow ret n h = omega arith
few_pulses false false day flow ret n h = h

next_day : (a b : Bool) (day flow ret n old : ℕ) (k : Kept) → old ≤ day → k.event ≡ chosen a b day flow ret n → day_after old (k ∷ []) ≤ day
next_day true b day flow ret n old k h is = rw is (omega arith)
next_day false true day flow ret n old k h is = rw is h
next_day false false day flow ret n old k h is = rw is h

no_fault : (a b : Bool) (day flow ret n : ℕ) (r : MeterRecord) → r.seq < 1000000000000000000 → r.register.pulses + n ≤ 1000000000000000 → r.day ≤ day → event_fault r (chosen a b day flow ret n) ≡ None
no_fault true b day flow ret n r room fits later = no_date_fault r day room later
no_fault false true day flow ret n r room fits later = fault_by_kind r (Sample flow ret) room
no_fault false false day flow ret n r room fits later = no_pulse_fault r n room fits

module _ (seed n : ℕ) (r : MeterRecord) (g : HasTaken seed n r) where
  seq_is : r.seq ≡ n
  seq_is = ap (λ (s : MeterRecord). s.seq) g.stands.stands.is ∙ omega (arith, g.stands.keeps.count)

  -- the day of the next event, if it is one, is not before that in force
  later : r.day ≤ day_number 2024 1 15 + (n + 1) / 1000
  later = omega (arith, g.early, first_day)

  -- no event is refused
  pub taken : n < 1000000 → event_fault r (event_at seed (n + 1)) ≡ None
  unfolding event_at
  taken more = no_fault ((n + 1) % 1000 == 0) ((n + 1) % 10 == 1) _ _ _ (1 + draw_at seed (n + 1) % 9) r (omega (arith, seq_is)) (omega (arith, g.few)) later

  module _ (new : MeterRecord) (t : TakesEvent dry_settings r (event_at seed (n + 1)) new) where
    abbrev next : Kept
    next = record { event = event_at seed (n + 1); energy_mj = t.energy_mj; bound_mj = t.bound_mj }

    abbrev all : List Kept
    all = g.stands.kept ++ next ∷ []

    stands_next : StandsFor dry_settings dry_opening all new
    stands_next = t.stands dry_opening g.stands.kept g.stands.stands

    events_next : map (λ (k : Kept). k.event) all ≡ first_events seed (n + 1)
    unfolding first_events
    events_next = map-append (λ (k : Kept). k.event) g.stands.kept (next ∷ []) ∙ ap (λ es. es ++ event_at seed (n + 1) ∷ []) g.stands.keeps.events ∙ rw (add-one n) refl

    fits_next : AllFitClosely dry_settings dry_opening all
    fits_next = fit-more dry_settings dry_opening g.stands.kept next g.stands.keeps.fits
        (subst (λ (s : MeterRecord). AddsBy (FitsClosely dry_settings) (counted_by dry_settings s.samples (event_at seed (n + 1))) t.energy_mj t.bound_mj) g.stands.stands.is t.fits)

    pulses_few : pulses_of (event_at seed (n + 1)) ≤ 9
    unfolding event_at
    pulses_few = few_pulses ((n + 1) % 1000 == 0) ((n + 1) % 10 == 1) _ _ _ (1 + draw_at seed (n + 1) % 9) (omega arith)

    few_next : new.register.pulses ≤ 9 * (n + 1)
    few_next =
        let now = ap (λ (s : MeterRecord). s.register.pulses) stands_next.is ∙ ap (λ (s : Register). s.pulses) (register_after-joined dry_opening.register g.stands.kept (next ∷ [])) in
        let before = ap (λ (s : MeterRecord). s.register.pulses) g.stands.stands.is in
        omega (arith, now, before, g.few, pulses_few)

    early_next : new.day ≤ 8780 + (n + 1) / 1000
    unfolding event_at
    early_next =
        let now : new.day ≡ day_after r.day (next ∷ []) = ap (λ (s : MeterRecord). s.day) stands_next.is ∙ day_after-joined dry_opening.day g.stands.kept (next ∷ []) ∙ ap (λ d. day_after d (next ∷ [])) (sym (ap (λ (s : MeterRecord). s.day) g.stands.stands.is)) in
        omega (arith, now, first_day, next_day ((n + 1) % 1000 == 0) ((n + 1) % 10 == 1) _ _ _ _ r.day next later refl)

    pub goes_on : HasTaken seed (n + 1) new
    goes_on = record {
      stands = record {
        kept = all;
        keeps = record { events = events_next; count = length-append g.stands.kept (next ∷ []) ∙ ap (λ m. m + 1) g.stands.keeps.count; fits = fits_next };
        stands = stands_next;
      };
      few = few_next;
      early = early_next;
    }

-- ---- all of them

-- the energy of generated events is near their exact integral
pub near : (seed n : ℕ) (kept : List Kept) → KeepsEvents seed n kept → AreNear dry_settings dry_opening kept
near seed n kept keeps = margin_is_near dry_configuration dry_opening kept refl refl (margin-of-closely dry_settings dry_opening kept keeps.fits)
