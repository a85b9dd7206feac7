-- A record that is written is read again.
use Rattle.std.proofs.Common.{◌≡◌, ℕ, zero, suc, ◌+◌, ◌-◌, ◌*◌, ◌^◌, ◌<◌, ◌≤◌, inl, inr, Bool, true, cond, List, [], ◌∷◌, ◌++◌, length, map, get_or, take, drop, Option, None, Some, Ok, refl, sym, ◌∙◌, ap, arith, length-drop}
use Rattle.std.specs.Prelude.{replicate, nat_le, nat_abs, ◌&&◌, ◌||◌, ◌==◌}
use Rattle.std.specs.List.{flat_map, list_all, range_with_len}
use Rattle.std.specs.Option.{ForSome}
use Rattle.std.specs.Int.{w128, cast_signed, cast_unsigned}
use Rattle.std.proofs.lemmas.Bool.{cases_lt, cases_Bool, and_parts, and_from, eqb-true, eq-eqb, leb-true}
use Rattle.std.proofs.lemmas.Bool.Decides.{nat_tests}
use Rattle.std.proofs.lemmas.Int.{to_z-of_z}
use Rattle.std.proofs.lemmas.List.{take_at, drop_at, drop-drop, drop-replicate, length-map}
use Rattle.std.proofs.lemmas.List.FromFn.{length-range_with_len, get_or-map-range_with_len, fill_by_all}
use Rattle.metering_model.specs.Records as records
use Rattle.calendar_model.specs.Calendar.{first_day, is_day, is_first_day, last_day, months_to}
use Rattle.calendar_model.specs.Entries.{MonthEntry, days_of, latest, never_falls}
use Rattle.calendar_model.proofs.MonthLemmas.{IsInMonth, months_to_is}
use Rattle.billing_memory.specs.Entries.{entry_view, entries_view, set_day_view, pulses_of}
use Rattle.billing_memory.specs.Records.{record_view}
use Rattle.billing_memory.specs.declared.entry.Entry.{Entry}
use Rattle.billing_memory.specs.declared.meter_record.MeterRecord.{MeterRecord}
use Rattle.energy_register.specs.declared.Register.{Register}
use Rattle.memory_model.specs.Fields.{first_broken, unless_broken, number, part, are_zero}
use Rattle.memory_model.specs.Slot.{record_in, record_of, record_fields, month_fields, month_keeps, month_part, month_entry, months_begun, is_entry, entry_of, set_day_keeps, set_day_of, samples_of, months_of, goes_on, ends_right, follows}
use Rattle.metering_model.specs.Limits.{is_bound_of, is_energy_of, max_bound_per_pulse, max_energy_per_pulse, max_events, max_months, max_pulses}
use Rattle.state_codec.specs.Slot.{head_fields, sample_fields, sum_fields, set_day_fields, entry_bytes, zeros, flag_of, flow_of, return_of, head_bytes, sum_bytes, set_day_bytes, record_bytes}
use Rattle.state_codec.proofs.Checks.{AllKeep, first_broken-all, first_broken-none}
use Rattle.state_codec.proofs.Spelling.{written_1, written_2, written_4, written_8, written_16}
use Rattle.state_codec.proofs.Entries.{energy_fits, energy_bits}
use Rattle.state_codec.proofs.Writes.{length-set_day}
use Rattle.state_codec.proofs.MonthLaws.{months_begun-in, months_begun-first, latest-range, month_of_day}
use Rattle.state_codec.proofs.MonthSteps.{month_blank, month_right, month_field_all}
use Rattle.state_codec.proofs.Slots.{from_samples, from_sums, from_set_day, from_months, tail_fields, begins}

le_true : (m n : ℕ) → m ≤ n → nat_le m n ≡ true
le_true m n le = grind (arith, nat_tests)

-- ---- registers and entries

energy_again : (r : Register) → cast_signed w128 (cast_unsigned w128 r.energy_mj) ≡ r.energy_mj
energy_again r = to_z-of_z w128 r.energy_mj (energy_fits r)

energy_right : (r : Register) → is_energy_of r.pulses (cast_signed w128 (cast_unsigned w128 r.energy_mj)) ≡ true
energy_right r =
    ap (is_energy_of r.pulses) (energy_again r) ∙ le_true (nat_abs r.energy_mj) (max_energy_per_pulse * r.pulses) r.energy_in_range

module _ (e : Entry) where
  abbrev entry_text : List ℕ
  entry_text = entry_bytes (entry_view e)

  day_is : number 0 2 entry_text ≡ e.day.number
  unfolding number entry_bytes
  day_is = written_2 e.day.number (omega (arith, e.day.in_century))

  pulses_is : number 8 8 entry_text ≡ e.register.pulses
  unfolding number entry_bytes
  pulses_is = written_8 e.register.pulses (omega (arith, e.register.pulses_in_range))

  energy_is : number 16 16 entry_text ≡ cast_unsigned w128 e.register.energy_mj
  unfolding number entry_bytes
  energy_is = written_16 (cast_unsigned w128 e.register.energy_mj) (energy_bits e.register)

  bound_is : number 32 16 entry_text ≡ e.register.bound_mj
  unfolding number entry_bytes
  bound_is = written_16 e.register.bound_mj (omega (arith, e.register.bound_in_range, e.register.pulses_in_range))

  gap_is : are_zero (part 2 6 entry_text) ≡ true
  unfolding entry_bytes
  gap_is = refl

  entry_again : entry_of entry_text ≡ entry_view e
  unfolding entry_of
  entry_again = λ i. record {
    day = day_is i;
    register = record { pulses = pulses_is i; energy_mj = (ap (cast_signed w128) energy_is ∙ energy_again e.register) i; bound_mj = bound_is i };
  }

  entry_right : (record_pulses : ℕ) → e.register.pulses ≤ record_pulses → is_entry record_pulses entry_text ≡ true
  unfolding is_entry
  entry_right record_pulses le =
      let day = ap (λ n. is_day n && is_first_day n) day_is ∙ and_from _ _ (le_true e.day.number last_day e.day.in_century) e.first_of_month in
      let energy = (λ i. is_energy_of (pulses_is i) (cast_signed w128 (energy_is i))) ∙ energy_right e.register in
      let bound = (λ i. is_bound_of (pulses_is i) (bound_is i)) ∙ le_true e.register.bound_mj (max_bound_per_pulse * e.register.pulses) e.register.bound_in_range in
      let most = ap (λ n. nat_le n record_pulses) pulses_is ∙ le_true e.register.pulses record_pulses le in
      and_from _ _ (and_from _ _ day (and_from _ _ gap_is (and_from _ _ refl (and_from _ _ energy (and_from _ _ bound refl))))) most

-- ---- the set day

abbrev set_day_by : (kept record_pulses day : ℕ) → List ℕ → Bool
set_day_by kept record_pulses day entry =
    cond (kept == 1) (is_entry record_pulses entry && nat_le (entry_of entry).day day) (are_zero entry)

set_day_right : (o : Option Entry) (record_pulses day : ℕ) → ForSome (set_day_view o) (λ e. (e.day ≤ day) × (e.register.pulses ≤ record_pulses)) → set_day_by (flag_of (set_day_view o)) record_pulses day (set_day_bytes (set_day_view o)) ≡ true
unfolding set_day_bytes zeros
set_day_right None record_pulses day passed = refl
set_day_right (Some e) record_pulses day passed =
    let within = passed (entry_view e) refl in
    and_from _ _ (entry_right e record_pulses within.1) (ap (λ x. nat_le x.day day) (entry_again e) ∙ le_true e.day.number day within.0)

set_day_again : (o : Option Entry) → cond (flag_of (set_day_view o) == 1) (Some (entry_of (set_day_bytes (set_day_view o)))) None ≡ set_day_view o
unfolding set_day_bytes zeros
set_day_again None = refl
set_day_again (Some e) = ap (λ x. Some x) (entry_again e)

flag_right : {Item : Type 0} (o : Option Item) → nat_le (flag_of o) 1 ≡ true
flag_right None = refl
flag_right (Some x) = refl

flow_right : (o : Option (ℕ × ℕ)) → ((flag_of o == 1) || (flow_of o == 0)) ≡ true
flow_right None = refl
flow_right (Some x) = refl

return_right : (o : Option (ℕ × ℕ)) → ((flag_of o == 1) || (return_of o == 0)) ≡ true
return_right None = refl
return_right (Some x) = refl

samples_again : (o : Option (ℕ × ℕ)) → cond (flag_of o == 1) (Some (flow_of o, return_of o)) None ≡ o
samples_again None = refl
samples_again (Some x) = refl

-- ---- month entries

entry_at : (k : ℕ) (items : List Entry) (d : Entry) (rest : List ℕ) → k < length items → take 48 (drop (48 * k) (flat_map entry_bytes (entries_view items) ++ rest)) ≡ entry_bytes (entry_view (get_or items k d))
unfolding entry_bytes
entry_at k [] d rest lt = absurd (omega arith)
entry_at zero (e ∷ items) d rest lt = refl
entry_at (suc k) (e ∷ items) d rest lt =
    let place : 48 * suc k ≡ 48 + 48 * k = omega arith in
    let all = flat_map entry_bytes (entries_view (e ∷ items)) ++ rest in
    ap (λ n. take 48 (drop n all)) place ∙ ap (take 48) (sym (drop-drop (48 * k) 48 all)) ∙ entry_at k items d rest (omega arith)

rest_at : (k : ℕ) (items : List Entry) (z : ℕ) → length items ≤ k → drop (48 * k) (flat_map entry_bytes (entries_view items) ++ replicate z 0) ≡ replicate (z - 48 * (k - length items)) 0
unfolding entry_bytes
rest_at k [] z le = drop-replicate (48 * k) z 0 ∙ ap (λ n. replicate (z - 48 * n) 0) (omega arith)
rest_at zero (e ∷ items) z le = absurd (omega arith)
rest_at (suc k) (e ∷ items) z le =
    let place : 48 * suc k ≡ 48 + 48 * k = omega arith in
    let all = flat_map entry_bytes (entries_view (e ∷ items)) ++ replicate z 0 in
    let apart : k - length items ≡ suc k - suc (length items) = omega arith in
    ap (λ n. drop n all) place ∙ sym (drop-drop (48 * k) 48 all) ∙ rest_at k items z (omega arith) ∙ ap (λ n. replicate (z - 48 * n) 0) apart

zeros_taken : (n m : ℕ) → are_zero (take n (replicate m 0)) ≡ true
zeros_taken zero m = refl
zeros_taken (suc n) zero = refl
zeros_taken (suc n) (suc m) = zeros_taken n m

last_right : (x p : ℕ) (xs : List ℕ) → list_all (nat_le x) (xs ++ p ∷ []) ≡ true → x ≤ p
last_right x p [] h = leb-true x p (and_parts (nat_le x p) true h).0
last_right x p (y ∷ xs) h = last_right x p xs (and_parts (nat_le x y) (list_all (nat_le x) (xs ++ p ∷ [])) h).1

below_last : (items : List Entry) (p k : ℕ) (d : Entry) → never_falls (pulses_of (entries_view items) ++ p ∷ []) ≡ true → k < length items → (get_or items k d).register.pulses ≤ p
below_last [] p k d h lt = absurd (omega arith)
below_last (e ∷ items) p zero d h lt =
    last_right e.register.pulses p (pulses_of (entries_view items)) (and_parts (list_all (nat_le e.register.pulses) (pulses_of (entries_view items) ++ p ∷ [])) (never_falls (pulses_of (entries_view items) ++ p ∷ [])) h).0
below_last (e ∷ items) p (suc k) d h lt =
    below_last items p k d (and_parts (list_all (nat_le e.register.pulses) (pulses_of (entries_view items) ++ p ∷ [])) (never_falls (pulses_of (entries_view items) ++ p ∷ [])) h).1 (omega arith)

below_next : (items : List Entry) (p k : ℕ) (d : Entry) → never_falls (pulses_of (entries_view items) ++ p ∷ []) ≡ true → suc k < length items → (get_or items k d).register.pulses ≤ (get_or items (suc k) d).register.pulses
below_next [] p k d h lt = absurd (omega arith)
below_next (e ∷ []) p k d h lt = absurd (omega arith)
below_next (e ∷ x ∷ items) p zero d h lt =
    let first = (and_parts (list_all (nat_le e.register.pulses) (pulses_of (entries_view (x ∷ items)) ++ p ∷ [])) (never_falls (pulses_of (entries_view (x ∷ items)) ++ p ∷ [])) h).0 in
    leb-true e.register.pulses x.register.pulses (and_parts (nat_le e.register.pulses x.register.pulses) (list_all (nat_le e.register.pulses) (pulses_of (entries_view items) ++ p ∷ [])) first).0
below_next (e ∷ x ∷ items) p (suc k) d h lt =
    below_next (x ∷ items) p k d (and_parts (list_all (nat_le e.register.pulses) (pulses_of (entries_view (x ∷ items)) ++ p ∷ [])) (never_falls (pulses_of (entries_view (x ∷ items)) ++ p ∷ [])) h).1 (omega arith)

some_of : (items : List Entry) → 1 ≤ length items → Entry
some_of [] some = absurd (omega arith)
some_of (e ∷ items) some = e

day_at : (k : ℕ) (items : List Entry) (d : Entry) → k < length items → get_or (days_of (entries_view items)) k 0 ≡ (get_or items k d).day.number
day_at k [] d lt = absurd (omega arith)
day_at zero (e ∷ items) d lt = refl
day_at (suc k) (e ∷ items) d lt = day_at k items d (omega arith)

view_at : (k : ℕ) (items : List Entry) (d : Entry) (x : MonthEntry records.Register) → k < length items → get_or (entries_view items) k x ≡ entry_view (get_or items k d)
view_at k [] d x lt = absurd (omega arith)
view_at zero (e ∷ items) d x lt = refl
view_at (suc k) (e ∷ items) d x lt = view_at k items d x (omega arith)

no_entry : MonthEntry records.Register
no_entry = record { day = 0; register = records.zero_register }

module _ (m : MeterRecord) where
  abbrev text : List ℕ
  text = record_bytes (record_view m)

  seq_text : number 0 8 text ≡ m.seq
  unfolding number record_bytes head_bytes
  seq_text = written_8 m.seq (omega (arith, m.seq_in_range))

  day_text : number 8 2 text ≡ m.day.number
  unfolding number record_bytes head_bytes
  day_text = written_2 m.day.number (omega (arith, m.day.in_century))

  samples_text : number 10 1 text ≡ flag_of m.samples
  unfolding number record_bytes head_bytes
  samples_text = written_1 (flag_of m.samples)

  count_text : number 11 1 text ≡ length m.months.items
  unfolding number record_bytes head_bytes
  count_text = written_1 (length (entries_view m.months.items)) ∙ length-map m.months.items entry_view

  kept_text : number 12 1 text ≡ flag_of (set_day_view m.set_day)
  unfolding number record_bytes head_bytes
  kept_text = written_1 (flag_of (set_day_view m.set_day))

  gap_text : are_zero (part 13 3 text) ≡ true
  unfolding record_bytes head_bytes
  gap_text = refl

  faulty_text : number 24 8 text ≡ m.faulty
  unfolding number record_bytes head_bytes sum_bytes
  faulty_text = written_8 m.faulty (omega (arith, m.faulty_in_range, m.register.pulses_in_range))

  pulses_text : number 32 8 text ≡ m.register.pulses
  unfolding number record_bytes head_bytes sum_bytes
  pulses_text = written_8 m.register.pulses (omega (arith, m.register.pulses_in_range))

  energy_text : number 40 16 text ≡ cast_unsigned w128 m.register.energy_mj
  unfolding number record_bytes head_bytes sum_bytes
  energy_text = written_16 (cast_unsigned w128 m.register.energy_mj) (energy_bits m.register)

  bound_text : number 56 16 text ≡ m.register.bound_mj
  unfolding number record_bytes head_bytes sum_bytes
  bound_text = written_16 m.register.bound_mj (omega (arith, m.register.bound_in_range, m.register.pulses_in_range))

  set_day_text : part 72 48 text ≡ set_day_bytes (set_day_view m.set_day)
  unfolding record_bytes head_bytes sum_bytes
  set_day_text =
      take_at (set_day_bytes (set_day_view m.set_day)) (flat_map entry_bytes (entries_view m.months.items) ++ zeros (1160 - 48 * length (entries_view m.months.items))) 48 (length-set_day (set_day_view m.set_day))

  months_text : drop 120 text ≡ flat_map entry_bytes (entries_view m.months.items) ++ replicate (1160 - 48 * length m.months.items) 0
  unfolding record_bytes head_bytes sum_bytes zeros
  months_text =
      let rest = flat_map entry_bytes (entries_view m.months.items) ++ replicate (1160 - 48 * length (entries_view m.months.items)) 0 in
      sym (drop-drop 48 72 text) ∙ drop_at (set_day_bytes (set_day_view m.set_day)) rest 48 (length-set_day (set_day_view m.set_day))
      ∙ ap (λ n. flat_map entry_bytes (entries_view m.months.items) ++ replicate (1160 - 48 * n) 0) (length-map m.months.items entry_view)

  month_text : (k : ℕ) (d : Entry) → k < length m.months.items → month_part k text ≡ entry_bytes (entry_view (get_or m.months.items k d))
  month_text k d lt =
      ap (take 48) (sym (drop-drop (48 * k) 120 text) ∙ ap (drop (48 * k)) months_text) ∙ entry_at k m.months.items d (replicate (1160 - 48 * length m.months.items) 0) lt

  blank_text : (k size : ℕ) → length m.months.items ≤ k → are_zero (part (120 + 48 * k) size text) ≡ true
  blank_text k size le =
      ap (λ l. are_zero (take size l)) (sym (drop-drop (48 * k) 120 text) ∙ ap (drop (48 * k)) months_text ∙ rest_at k m.months.items (1160 - 48 * length m.months.items) le)
      ∙ zeros_taken size (1160 - 48 * length m.months.items - 48 * (k - length m.months.items))

  month_again : (k : ℕ) (d : Entry) → k < length m.months.items → month_entry k text ≡ entry_view (get_or m.months.items k d)
  month_again k d lt = ap entry_of (month_text k d lt) ∙ entry_again (get_or m.months.items k d)

  module _ (month : ℕ) (in_month : IsInMonth m.day.number month) where
    months_are : latest (length m.months.items) (months_to m.day.number) ≡ latest (length m.months.items) (range_with_len 0 (month + 1))
    months_are = ap (latest (length m.months.items)) (months_to_is m.day.number month in_month)

    begun_enough : length m.months.items ≤ month + 1
    begun_enough =
        let all = range_with_len 0 (month + 1) in
        let long : length all ≡ month + 1 = length-range_with_len 0 (month + 1) in
        let days = ap length m.months_in_row in
        let left : length (days_of (entries_view m.months.items)) ≡ length m.months.items = length-map (entries_view m.months.items) (λ e. e.day) ∙ length-map m.months.items entry_view in
        let right : length (map first_day (latest (length m.months.items) (months_to m.day.number))) ≡ length all - (length all - length m.months.items) =
        length-map (latest (length m.months.items) (months_to m.day.number)) first_day ∙ ap length months_are ∙ length-drop (length all - length m.months.items) all in
        omega (arith, days, left, right, long)

    day_of_month : (k : ℕ) (d : Entry) → k < length m.months.items → (get_or m.months.items k d).day.number ≡ first_day (month + 1 - length m.months.items + k)
    day_of_month k d lt =
        sym (day_at k m.months.items d lt)
        ∙ ap (λ l. get_or l k 0) (m.months_in_row ∙ ap (map first_day) (months_are ∙ latest-range (length m.months.items) (month + 1) begun_enough))
        ∙ get_or-map-range_with_len first_day (month + 1 - length m.months.items) (length m.months.items) k (month + 1 - length m.months.items + k) 0 lt refl

    begun_text : (k : ℕ) (d : Entry) → k < length m.months.items → months_begun (month_entry k text).day ≡ month + 1 - length m.months.items + k + 1
    begun_text k d lt =
        let known : month < 1200 = in_month.known in
        ap (λ e. months_begun e.day) (month_again k d lt) ∙ ap months_begun (day_of_month k d lt)
        ∙ months_begun-first (month + 1 - length m.months.items + k) (omega (arith, begun_enough))

    goes_right : (k : ℕ) → k < length m.months.items → goes_on k text ≡ true
    unfolding goes_on follows
    goes_right zero lt = refl
    goes_right (suc k) lt =
        let d = some_of m.months.items (omega arith) in
        let before = begun_text k d (omega arith) in
        let now = begun_text (suc k) d lt in
        let next : months_begun (month_entry (suc k) text).day ≡ months_begun (month_entry k text).day + 1 = omega (arith, before, now) in
        let le = below_next m.months.items m.register.pulses k d m.pulses_in_order lt in
        and_from _ _ (eq-eqb _ _ next)
        ((λ i. nat_le (month_again k d (omega arith) i).register.pulses (month_again (suc k) d lt i).register.pulses) ∙ le_true (get_or m.months.items k d).register.pulses (get_or m.months.items (suc k) d).register.pulses le)

    ends_well : (k : ℕ) → k < length m.months.items → ends_right k text ≡ true
    unfolding ends_right
    ends_well k lt = elim (cases_Bool (k + 1 == number 11 1 text)) [
      | inl last ↦
          let d = some_of m.months.items (omega arith) in
          let end : k + 1 ≡ length m.months.items = eqb-true (k + 1) (number 11 1 text) last ∙ count_text in
          let same : months_begun (month_entry k text).day ≡ months_begun (number 8 2 text) =
          begun_text k d lt ∙ omega (arith, begun_enough) ∙ sym (ap months_begun day_text ∙ months_begun-in m.day.number month in_month) in
          ap (λ b. cond b (months_begun (month_entry k text).day == months_begun (number 8 2 text)) true) last ∙ eq-eqb _ _ same
      | inr other ↦ ap (λ b. cond b (months_begun (month_entry k text).day == months_begun (number 8 2 text)) true) other
    ]

    month_well : (k : ℕ) → k < 24 → month_keeps k text ≡ true
    month_well k within = elim (cases_lt k (length m.months.items)) [
      | inl lt ↦
          let d = some_of m.months.items (omega arith) in
          let counted : k < number 11 1 text = omega (arith, count_text) in
          let le = below_last m.months.items m.register.pulses k d m.pulses_in_order lt in
          let entry = (λ i. is_entry (pulses_text i) (month_text k d lt i)) ∙ entry_right (get_or m.months.items k d) m.register.pulses le in
          month_right k text counted entry (goes_right k lt) (ends_well k lt)
      | inr past ↦ month_blank k text (omega (arith, count_text)) ∙ blank_text k 48 past
    ]

  months_again : months_of text ≡ entries_view m.months.items
  unfolding months_of
  months_again =
      ap (λ n. map (λ k. month_entry k text) (range_with_len 0 n)) count_text
      ∙ sym (fill_by_all (λ k. month_entry k text) (entries_view m.months.items) (length m.months.items) no_entry (length-map m.months.items entry_view)
      (λ k lt. let d = some_of m.months.items (omega arith) in view_at k m.months.items d no_entry lt ∙ sym (month_again k d lt)))

  set_day_keeps_text : set_day_keeps text ≡ true
  unfolding set_day_keeps
  set_day_keeps_text =
      (λ i. set_day_by (kept_text i) (pulses_text i) (day_text i) (set_day_text i)) ∙ set_day_right m.set_day m.register.pulses m.day.number m.set_day_passed

  set_day_of_text : set_day_of text ≡ set_day_view m.set_day
  unfolding set_day_of
  set_day_of_text =
      (λ i. cond (kept_text i == 1) (Some (entry_of (set_day_text i))) None) ∙ set_day_again m.set_day

  head_keeps : AllKeep head_fields text
  head_keeps = (
    ap (λ n. nat_le n max_events) seq_text ∙ le_true m.seq max_events m.seq_in_range,
    (
      ap is_day day_text ∙ le_true m.day.number last_day m.day.in_century,
      (
        ap (λ n. nat_le n 1) samples_text ∙ flag_right m.samples,
        (
          ap (λ n. nat_le n max_months) count_text ∙ le_true (length m.months.items) max_months m.months_kept,
          (ap (λ n. nat_le n 1) kept_text ∙ flag_right (set_day_view m.set_day), (gap_text, tt)),
        ),
      ),
    ),
  )

  sums_keep : AllKeep sum_fields text
  sums_keep = (
    ap (λ n. nat_le n max_pulses) faulty_text ∙ le_true m.faulty max_pulses (omega (arith, m.faulty_in_range, m.register.pulses_in_range)),
    (
      and_from _ _ (ap (λ n. nat_le n max_pulses) pulses_text ∙ le_true m.register.pulses max_pulses m.register.pulses_in_range)
          ((λ i. nat_le (faulty_text i) (pulses_text i)) ∙ le_true m.faulty m.register.pulses m.faulty_in_range),
      (
        (λ i. is_energy_of (pulses_text i) (cast_signed w128 (energy_text i))) ∙ energy_right m.register,
        ((λ i. is_bound_of (pulses_text i) (bound_text i)) ∙ le_true m.register.bound_mj (max_bound_per_pulse * m.register.pulses) m.register.bound_in_range, tt),
      ),
    ),
  )

  module _ (flow : flow_of m.samples < 2 ^ 32) (ret : return_of m.samples < 2 ^ 32) where
    flow_text : number 16 4 text ≡ flow_of m.samples
    unfolding number record_bytes head_bytes sum_bytes
    flow_text = written_4 (flow_of m.samples) flow

    return_text : number 20 4 text ≡ return_of m.samples
    unfolding number record_bytes head_bytes sum_bytes
    return_text = written_4 (return_of m.samples) ret

    samples_keep : AllKeep sample_fields text
    samples_keep = (
      (λ i. (samples_text i == 1) || (flow_text i == 0)) ∙ flow_right m.samples,
      ((λ i. (samples_text i == 1) || (return_text i == 0)) ∙ return_right m.samples, tt),
    )

    samples_of_text : samples_of text ≡ m.samples
    unfolding samples_of
    samples_of_text = (λ i. cond (samples_text i == 1) (Some (flow_text i, return_text i)) None) ∙ samples_again m.samples

    none_broken : first_broken record_fields text ≡ None
    none_broken =
        let month = month_of_day m.day.number m.day.in_century in
        begins text ∙ first_broken-all head_fields from_samples text head_keeps ∙ first_broken-all sample_fields from_sums text samples_keep
        ∙ first_broken-all sum_fields from_set_day text sums_keep ∙ first_broken-all set_day_fields from_months text (set_day_keeps_text, tt)
        ∙ first_broken-none (month_fields 0 24) tail_fields text (month_field_all text 0 24 (λ k low high. month_well month.0 month.1 k (omega arith)))
        ∙ first_broken-all tail_fields [] text (blank_text 24 8 m.months_kept, tt)

    pub record_again : record_in text ≡ Ok (record_view m)
    unfolding record_in record_of
    record_again =
        ap (λ o. unless_broken o (record_of text)) none_broken
        ∙ (λ i. Ok (record {
          seq = seq_text i;
          day = day_text i;
          samples = samples_of_text i;
          faulty = faulty_text i;
          register = record { pulses = pulses_text i; energy_mj = (ap (cast_signed w128) energy_text ∙ energy_again m.register) i; bound_mj = bound_text i };
          months = months_again i;
          set_day = set_day_of_text i;
        }))
