-- A record that a memory holds has few events and months.
use Rattle.std.proofs.Common.{◌≡◌, ℕ, zero, suc, ◌*◌, ◌≤◌, ◌==◌, Bool, true, false, nat_le, List, [], ◌∷◌, length, Option, None, Some, Result, Ok, Err, refl, ap, subst, arith}
use Rattle.std.specs.Prelude.{if◌then◌else◌, slice_index, slice_get}
use Rattle.std.proofs.lemmas.Bool.{leb-true}
use Rattle.std.proofs.lemmas.List.FromFn.{length-map-range_with_len}
use Rattle.platinum_model.specs.Calibration.{fits_r0, fits_a, fits_b}
use Rattle.config_model.specs.Configuration.{Configuration, both, is_calibration}
use Rattle.parts_model.specs.Ranges.{is_sensor}
use Rattle.metering_model.specs.Records.{MeterRecord}
use Rattle.memory_model.specs.Fields.{Field, first_broken, part, unless_broken, value}
use Rattle.memory_model.specs.Header.{configuration_of, header_fields, header_in, sensor_field, are_calibrated, r0_field, a_field, b_field, constants_of}
use Rattle.memory_model.specs.Slot.{month_count_field, month_entry, months_of, record_fields, record_in, record_of, seq_field}
use Rattle.memory_model.specs.Stored.{Side, Unformatted, Holds, chosen, mark, slot_at, stored, with_header, with_record}

-- a record of a memory
pub record IsHeld (r : MeterRecord) : Type 0 where
  pub seq : r.seq ≤ 1000000000000000000
  pub months : length r.months ≤ 24

-- where no field is broken, the first keeps its rule, and so do the others
kept_first : (f : Field) (fs : List Field) (bytes : List ℕ) → first_broken (f ∷ fs) bytes ≡ None → (f.keeps bytes ≡ true) × (first_broken fs bytes ≡ None)
kept_first f fs bytes whole = by_rule (f.keeps bytes) whole where
  by_rule : (keeps : Bool) → (if keeps then first_broken fs bytes else Some f.at) ≡ None → (keeps ≡ true) × (first_broken fs bytes ≡ None)
  by_rule true whole = (refl, whole)
  by_rule false whole = absurd cc

-- so does the one at each place
keeps_at : (fs : List Field) (n : ℕ) (f : Field) (bytes : List ℕ) → slice_get fs n ≡ Some f → first_broken fs bytes ≡ None → f.keeps bytes ≡ true
keeps_at [] n f bytes at whole = absurd cc
keeps_at (g ∷ gs) zero f bytes at whole = let same : g ≡ f = cc in subst (λ (h : Field). h.keeps bytes ≡ true) same (kept_first g gs bytes whole).0
keeps_at (g ∷ gs) (suc n) f bytes at whole = keeps_at gs n f bytes at (kept_first g gs bytes whole).1

whole_value : {Value : Type 0} (broken : Option ℕ) (held r : Value) → unless_broken broken held ≡ Ok r → (broken ≡ None) × (held ≡ r)
whole_value None held r is = (refl, cc)
whole_value (Some at) held r is = absurd cc

in_slot : (bytes : List ℕ) (r : MeterRecord) → record_in bytes ≡ Ok r → IsHeld r
unfolding record_in record_fields record_of months_of
in_slot bytes r is =
    let whole = whole_value (first_broken record_fields bytes) (record_of bytes) r is in
    let events : nat_le (value seq_field bytes) 1000000000000000000 ≡ true = keeps_at record_fields 0 seq_field bytes refl whole.0 in
    let months : nat_le (value month_count_field bytes) 24 ≡ true = keeps_at record_fields 3 month_count_field bytes refl whole.0 in
    let count : length (months_of bytes) ≡ value month_count_field bytes = length-map-range_with_len (λ k. month_entry k bytes) 0 (value month_count_field bytes) in
    record {
      seq = omega (arith, leb-true _ _ events, ap (λ (m : MeterRecord). m.seq) whole.1);
      months = omega (arith, leb-true _ _ months, count, ap (λ (m : MeterRecord). length m.months) whole.1);
    }

on_side : (c c' : Configuration) (side side' : Side) (slot : Result MeterRecord ℕ) (r : MeterRecord) → with_record c side slot ≡ Holds c' r side' → slot ≡ Ok r
on_side c c' side side' (Ok s) r is = cc
on_side c c' side side' (Err at) r is = absurd cc

behind_header : (header : Result Configuration ℕ) (c : Configuration) (side side' : Side) (slot : Result MeterRecord ℕ) (r : MeterRecord) → with_header header side slot ≡ Holds c r side' → slot ≡ Ok r
behind_header (Ok h) c side side' slot r is = on_side h c side side' slot r is
behind_header (Err at) c side side' slot r is = absurd cc

behind_mark : (marked : Bool) (first : ℕ) (header : Result Configuration ℕ) (c : Configuration) (side side' : Side) (slot : Result MeterRecord ℕ) (r : MeterRecord) → (if marked then with_header header side slot else Unformatted first) ≡ Holds c r side' → slot ≡ Ok r
behind_mark true first header c side side' slot r is = behind_header header c side side' slot r is
behind_mark false first header c side side' slot r is = absurd cc

pub held_record : (memory : List ℕ) (c : Configuration) (r : MeterRecord) (side : Side) → stored memory ≡ Holds c r side → IsHeld r
held_record memory c r side is =
    in_slot (part (slot_at (chosen memory)) 1280 memory) r
    (behind_mark (slice_index memory 0 == mark) (slice_index memory 0) (header_in (part 0 256 memory)) c (chosen memory) side (record_in (part (slot_at (chosen memory)) 1280 memory)) r is)

-- ---- and its sensors are of a kind that there is

in_header : (bytes : List ℕ) (c : Configuration) → header_in bytes ≡ Ok c → is_sensor c.sensor_ohm ≡ true
unfolding header_in header_fields configuration_of
in_header bytes c is =
    let whole = whole_value (first_broken header_fields bytes) (configuration_of bytes) c is in
    subst (λ (k : Configuration). is_sensor k.sensor_ohm ≡ true) whole.1 (keeps_at header_fields 9 sensor_field bytes refl whole.0)

all_fit : (calibrated : Bool) (ohm a b d a' b' d' : ℕ)
    → (if calibrated then fits_r0 (1000000 * ohm) a else a == 0) ≡ true → (if calibrated then fits_a b else b == 0) ≡ true → (if calibrated then fits_b d else d == 0) ≡ true
    → (if calibrated then fits_r0 (1000000 * ohm) a' else a' == 0) ≡ true → (if calibrated then fits_a b' else b' == 0) ≡ true → (if calibrated then fits_b d' else d' == 0) ≡ true
    → is_calibration ohm
    (both (if calibrated then Some (record { r0_uohm = a; a_e10 = b; b_e10 = d }) else None) (if calibrated then Some (record { r0_uohm = a'; a_e10 = b'; b_e10 = d' }) else None))
    ≡ true
all_fit false ohm a b d a' b' d' = λ _ _ _ _ _ _. refl
all_fit true ohm a b d a' b' d' = λ h k l h' k' l'. rw (h, k, l, h', k', l') refl

fit_in_header : (bytes : List ℕ) (c : Configuration) → header_in bytes ≡ Ok c → is_calibration c.sensor_ohm c.calibration ≡ true
unfolding header_in header_fields configuration_of constants_of
fit_in_header bytes c is =
    let whole = whole_value (first_broken header_fields bytes) (configuration_of bytes) c is in
    subst (λ (k : Configuration). is_calibration k.sensor_ohm k.calibration ≡ true) whole.1
    (all_fit (are_calibrated bytes) (value sensor_field bytes) _ _ _ _ _ _
    (keeps_at header_fields 20 (r0_field 28) bytes refl whole.0)
    (keeps_at header_fields 21 (a_field 32) bytes refl whole.0)
    (keeps_at header_fields 22 (b_field 36) bytes refl whole.0)
    (keeps_at header_fields 25 (r0_field 40) bytes refl whole.0)
    (keeps_at header_fields 26 (a_field 44) bytes refl whole.0)
    (keeps_at header_fields 27 (b_field 48) bytes refl whole.0))

config_on_side : (c c' : Configuration) (side side' : Side) (slot : Result MeterRecord ℕ) (r : MeterRecord) → with_record c side slot ≡ Holds c' r side' → c ≡ c'
config_on_side c c' side side' (Ok s) r is = cc
config_on_side c c' side side' (Err at) r is = absurd cc

config_of : (header : Result Configuration ℕ) (c : Configuration) (side side' : Side) (slot : Result MeterRecord ℕ) (r : MeterRecord) → with_header header side slot ≡ Holds c r side' → header ≡ Ok c
config_of (Ok h) c side side' slot r is = ap Ok (config_on_side h c side side' slot r is)
config_of (Err at) c side side' slot r is = absurd cc

config_marked : (marked : Bool) (first : ℕ) (header : Result Configuration ℕ) (c : Configuration) (side side' : Side) (slot : Result MeterRecord ℕ) (r : MeterRecord) → (if marked then with_header header side slot else Unformatted first) ≡ Holds c r side' → header ≡ Ok c
config_marked true first header c side side' slot r is = config_of header c side side' slot r is
config_marked false first header c side side' slot r is = absurd cc

pub held_sensor : (memory : List ℕ) (c : Configuration) (r : MeterRecord) (side : Side) → stored memory ≡ Holds c r side → is_sensor c.sensor_ohm ≡ true
held_sensor memory c r side is =
    in_header (part 0 256 memory) c
    (config_marked (slice_index memory 0 == mark) (slice_index memory 0) (header_in (part 0 256 memory)) c (chosen memory) side (record_in (part (slot_at (chosen memory)) 1280 memory)) r is)

pub held_calibration : (memory : List ℕ) (c : Configuration) (r : MeterRecord) (side : Side) → stored memory ≡ Holds c r side → is_calibration c.sensor_ohm c.calibration ≡ true
held_calibration memory c r side is =
    fit_in_header (part 0 256 memory) c
    (config_marked (slice_index memory 0 == mark) (slice_index memory 0) (header_in (part 0 256 memory)) c (chosen memory) side (record_in (part (slot_at (chosen memory)) 1280 memory)) r is)
