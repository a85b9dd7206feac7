-- The parts of a slot, one after another.
use Rattle.std.proofs.Common.{◌≡◌, ℕ, ◌<◌, ◌≤◌, inl, inr, true, cond, List, [], ◌∷◌, ◌++◌, length, map, Option, None, Some, Ok, Err, refl, sym, ◌∙◌, ap, subst, arith}
use Rattle.std.proofs.lemmas.List.{length-map}
use Rattle.std.specs.Prelude.{nat_le, ◌&&◌, ◌==◌}
use Rattle.std.proofs.lemmas.Bool.{cases_Bool, and_parts, leb-true}
use Rattle.std.proofs.lemmas.List.FromFn.{length-map-range_with_len}
use Rattle.metering_model.specs.Records as records
use Rattle.calendar_model.specs.Calendar.{first_day, months_to}
use Rattle.calendar_model.specs.Entries.{MonthEntry, days_of, latest, never_falls}
use Rattle.billing_memory.specs.Entries.{entry_view, entries_view, pulses_of}
use Rattle.billing_memory.specs.declared.entry.Entry.{Entry}
use Rattle.memory_model.specs.Fields.{Field, first_broken, unless_broken, blank, number, part, are_zero}
use Rattle.memory_model.specs.Slot.{record_in, record_of, record_fields, month_fields, month_keeps, month_entry, is_entry, entry_of, samples_of, set_day_keeps, set_day_of}
use Rattle.state_codec.specs.Reading.{checked}
use Rattle.state_codec.specs.Slot.{head_fields, head_of, sample_fields, sum_fields, sums_of, set_day_fields, entries_to}
use Rattle.state_codec.proofs.Checks.{first_broken-none, first_broken-some, checked-ok, checked-err}
use Rattle.state_codec.proofs.MonthLaws.{month_of_day}
use Rattle.state_codec.proofs.MonthSteps.{all_months_kept, months_in_row, pulses_in_order, entry_pulses}

abbrev pub tail_fields : List Field
tail_fields = blank 1272 8 ∷ []

abbrev pub from_months : List Field
from_months = month_fields 0 24 ++ tail_fields

abbrev pub from_set_day : List Field
from_set_day = set_day_fields ++ from_months

abbrev pub from_sums : List Field
from_sums = sum_fields ++ from_set_day

abbrev pub from_samples : List Field
from_samples = sample_fields ++ from_sums

-- all fields before these keep their rules
abbrev pub Reaches : List ℕ → List Field → Type 0
Reaches bytes fields = first_broken record_fields bytes ≡ first_broken fields bytes

module _ (bytes : List ℕ) where
  pub begins : Reaches bytes (head_fields ++ from_samples)
  unfolding record_fields
  begins = refl

  pub step : {V : Type 0} (fs gs : List Field) (v w : V) → Reaches bytes (fs ++ gs) → checked fs bytes v ≡ Ok w → Reaches bytes gs
  step fs gs v w so_far e = so_far ∙ first_broken-none fs gs bytes (checked-ok (first_broken fs bytes) v w e).0

  -- what is read of the parts that keep their rules, one after another
  pub after_head : (head : ℕ × ℕ) → checked head_fields bytes (head_of bytes) ≡ Ok head → Reaches bytes from_samples
  after_head head is_head = step head_fields from_samples (head_of bytes) head begins is_head

  pub after_samples : (head : ℕ × ℕ) (samples : Option (ℕ × ℕ)) → checked head_fields bytes (head_of bytes) ≡ Ok head → checked sample_fields bytes (samples_of bytes) ≡ Ok samples → Reaches bytes from_sums
  after_samples head samples is_head are_samples = step sample_fields from_sums (samples_of bytes) samples (after_head head is_head) are_samples

  pub after_sums : (head : ℕ × ℕ) (samples : Option (ℕ × ℕ)) (sums : ℕ × records.Register) → checked head_fields bytes (head_of bytes) ≡ Ok head → checked sample_fields bytes (samples_of bytes) ≡ Ok samples → checked sum_fields bytes (sums_of bytes) ≡ Ok sums → Reaches bytes from_set_day
  after_sums head samples sums is_head are_samples are_sums = step sum_fields from_set_day (sums_of bytes) sums (after_samples head samples is_head are_samples) are_sums

  pub after_set_day : (head : ℕ × ℕ) (samples : Option (ℕ × ℕ)) (sums : ℕ × records.Register) (entry : Option (MonthEntry records.Register)) → checked head_fields bytes (head_of bytes) ≡ Ok head → checked sample_fields bytes (samples_of bytes) ≡ Ok samples → checked sum_fields bytes (sums_of bytes) ≡ Ok sums → checked set_day_fields bytes (set_day_of bytes) ≡ Ok entry → Reaches bytes from_months
  after_set_day head samples sums entry is_head are_samples are_sums is_entry = step set_day_fields from_months (set_day_of bytes) entry (after_sums head samples sums is_head are_samples are_sums) is_entry

  pub broken : (at : ℕ) → first_broken record_fields bytes ≡ Some at → record_in bytes ≡ Err at
  unfolding record_in
  broken at e = ap (λ o. unless_broken o (record_of bytes)) e

  pub stop : {V : Type 0} (fs gs : List Field) (v : V) (at : ℕ) → Reaches bytes (fs ++ gs) → checked fs bytes v ≡ Err at → record_in bytes ≡ Err at
  stop fs gs v at so_far e =
      broken at (so_far ∙ first_broken-some fs gs bytes at (checked-err (first_broken fs bytes) v at e))

  pub stop_months : (at : ℕ) → Reaches bytes from_months → first_broken (month_fields 0 24) bytes ≡ Some at → record_in bytes ≡ Err at
  stop_months at so_far e = broken at (so_far ∙ first_broken-some (month_fields 0 24) tail_fields bytes at e)

  pub step_months : Reaches bytes from_months → first_broken (month_fields 0 24) bytes ≡ None → Reaches bytes tail_fields
  step_months so_far e = so_far ∙ first_broken-none (month_fields 0 24) tail_fields bytes e

  pub whole : (r : records.MeterRecord) → first_broken record_fields bytes ≡ None → record_of bytes ≡ r → record_in bytes ≡ Ok r
  unfolding record_in
  whole r none is = ap (λ o. unless_broken o (record_of bytes)) none ∙ ap (λ x. Ok x) is

  -- an entry of the set day that is read
  pub set_day_passed : (e : MonthEntry records.Register) → set_day_keeps bytes ≡ true → set_day_of bytes ≡ Some e → (e.day ≤ number 8 2 bytes) × (e.register.pulses ≤ number 32 8 bytes)
  unfolding set_day_keeps set_day_of
  set_day_passed e keeps is = elim (cases_Bool (number 12 1 bytes == 1)) [
    | inl kept ↦
        let held = sym (ap (λ b. cond b (Some (entry_of (part 72 48 bytes))) None) kept) ∙ is in
        let same : entry_of (part 72 48 bytes) ≡ e = cc in
        let right = sym (ap (λ b. cond b (is_entry (number 32 8 bytes) (part 72 48 bytes) && nat_le (entry_of (part 72 48 bytes)).day (number 8 2 bytes)) (are_zero (part 72 48 bytes))) kept) ∙ keeps in
        let both = and_parts (is_entry (number 32 8 bytes) (part 72 48 bytes)) (nat_le (entry_of (part 72 48 bytes)).day (number 8 2 bytes)) right in
        let P : MonthEntry records.Register → Type 0 = λ x. (x.day ≤ number 8 2 bytes) × (x.register.pulses ≤ number 32 8 bytes) in
        subst P same (leb-true _ _ both.1, entry_pulses (number 32 8 bytes) (part 72 48 bytes) both.0)
    | inr none ↦
        let held = sym (ap (λ b. cond b (Some (entry_of (part 72 48 bytes))) None) none) ∙ is in
        absurd cc
  ]

  module _ (day pulses : ℕ) (day_is : number 8 2 bytes ≡ day) (pulses_is : number 32 8 bytes ≡ pulses) (in_century : day ≤ 36524) (few : number 11 1 bytes ≤ 24) (none : first_broken (month_fields 0 24) bytes ≡ None) (items : List Entry) (read : entries_view items ≡ entries_to (number 11 1 bytes) bytes) where
    keep : (k : ℕ) → k < number 11 1 bytes → month_keeps k bytes ≡ true
    keep k lt = all_months_kept bytes 0 24 k none (omega arith) (omega arith)

    size : length items ≡ number 11 1 bytes
    size = sym (length-map items entry_view) ∙ ap length read ∙ length-map-range_with_len (λ k. month_entry k bytes) 0 (number 11 1 bytes)

    pub row : days_of (entries_view items) ≡ map first_day (latest (length items) (months_to day))
    row =
        let month = month_of_day (number 8 2 bytes) (omega arith) in
        ap days_of read ∙ months_in_row bytes month.0 month.1 keep (number 11 1 bytes) refl ∙ (λ i. map first_day (latest (sym size i) (months_to (day_is i))))

    pub order : never_falls (pulses_of (entries_view items) ++ pulses ∷ []) ≡ true
    order =
        let month = month_of_day (number 8 2 bytes) (omega arith) in
        (λ i. never_falls (pulses_of (read i) ++ sym pulses_is i ∷ [])) ∙ pulses_in_order bytes month.0 month.1 keep (number 11 1 bytes) refl
