-- Month entries that are read one after another.
use Rattle.std.proofs.Common.{◌≡◌, ℕ, zero, suc, ◌+◌, ◌-◌, ◌*◌, ◌<◌, ◌≤◌, inl, inr, Bool, true, false, cond, List, [], ◌∷◌, ◌++◌, length, map, get_or, Option, None, Some, refl, sym, ◌∙◌, ap, arith}
use Rattle.std.specs.Prelude.{nat_lt, nat_le, ◌&&◌, ◌==◌}
use Rattle.std.specs.List.{range_with_len}
use Rattle.std.proofs.lemmas.Bool.{and_parts, and_from, cases_eq, eqb-true, eq-eqb, leb-true}
use Rattle.std.proofs.lemmas.Bool.Decides.{nat_tests}
use Rattle.std.proofs.lemmas.List.FromFn.{map-range_with_len_more}
use Rattle.metering_model.specs.Records.{Register}
use Rattle.calendar_model.specs.Calendar.{is_first_day, first_day, months_to}
use Rattle.calendar_model.specs.Entries.{MonthEntry, days_of, latest, never_falls, last_or}
use Rattle.calendar_model.proofs.MonthLemmas.{IsInMonth, months_to_is}
use Rattle.billing_memory.specs.Entries.{entry_view, entries_view}
use Rattle.billing_memory.specs.declared.entry.Entry.{Entry}
use Rattle.memory_model.specs.Fields.{first_broken, number, are_zero, keep_all}
use Rattle.memory_model.specs.Slot.{month_fields, month_field, month_keeps, month_part, month_entry, months_begun, is_entry, entry_of, goes_on, ends_right, follows, entry_fields}
use Rattle.state_codec.specs.Slot.{entries_to, goes_on_after}
use Rattle.state_codec.proofs.Checks.{first_broken-kept}
use Rattle.state_codec.proofs.MonthLaws.{months_begun-in, months_begun-first, first_day-begun, never_falls-lead, latest-range, latest-none}

-- ---- the checks

pub month_kept : (bytes : List ℕ) (k end : ℕ) (total : Option ℕ) → k < end → month_keeps k bytes ≡ true → first_broken (month_fields k (end - k)) bytes ≡ total → first_broken (month_fields (k + 1) (end - (k + 1))) bytes ≡ total
unfolding month_fields
month_kept bytes k end total lt keeps so_far =
    let more : end - k ≡ suc (end - (k + 1)) = omega arith in
    sym (ap (λ n. first_broken (month_fields k n) bytes) more ∙ ap (λ b. cond b (first_broken (month_fields (k + 1) (end - (k + 1))) bytes) (Some (120 + 48 * k))) keeps) ∙ so_far

pub month_broken : (bytes : List ℕ) (k end : ℕ) (total : Option ℕ) → k < end → month_keeps k bytes ≡ false → first_broken (month_fields k (end - k)) bytes ≡ total → total ≡ Some (120 + 48 * k)
unfolding month_fields
month_broken bytes k end total lt breaks so_far =
    let more : end - k ≡ suc (end - (k + 1)) = omega arith in
    sym so_far ∙ ap (λ n. first_broken (month_fields k n) bytes) more ∙ ap (λ b. cond b (first_broken (month_fields (k + 1) (end - (k + 1))) bytes) (Some (120 + 48 * k))) breaks

pub months_done : (bytes : List ℕ) (k end : ℕ) (total : Option ℕ) → end ≤ k → first_broken (month_fields k (end - k)) bytes ≡ total → total ≡ None
unfolding month_fields
months_done bytes k end total le so_far =
    let none : end - k ≡ 0 = omega arith in
    sym so_far ∙ ap (λ n. first_broken (month_fields k n) bytes) none

-- a place behind the entries that are counted
pub month_blank : (k : ℕ) (bytes : List ℕ) → number 11 1 bytes ≤ k → month_keeps k bytes ≡ are_zero (month_part k bytes)
unfolding month_keeps
month_blank k bytes le =
    let past : nat_lt k (number 11 1 bytes) ≡ false = grind (arith, nat_tests) in
    ap (λ b. cond b (is_entry (number 32 8 bytes) (month_part k bytes) && goes_on k bytes && ends_right k bytes) (are_zero (month_part k bytes))) past

-- and one of those that are counted
pub month_counted : (k : ℕ) (bytes : List ℕ) → k < number 11 1 bytes → month_keeps k bytes ≡ (is_entry (number 32 8 bytes) (month_part k bytes) && goes_on k bytes && ends_right k bytes)
unfolding month_keeps
month_counted k bytes lt =
    let counted : nat_lt k (number 11 1 bytes) ≡ true = grind (arith, nat_tests) in
    ap (λ b. cond b (is_entry (number 32 8 bytes) (month_part k bytes) && goes_on k bytes && ends_right k bytes) (are_zero (month_part k bytes))) counted

pub entries_to-more : (k : ℕ) (bytes : List ℕ) → entries_to (k + 1) bytes ≡ entries_to k bytes ++ month_entry k bytes ∷ []
entries_to-more k bytes = map-range_with_len_more (λ j. month_entry j bytes) 0 k k (omega arith)

last_of : (e x : MonthEntry Register) (es : List (MonthEntry Register)) → last_or e (es ++ x ∷ []) ≡ x
last_of e x [] = refl
last_of e x (y ∷ es) = last_of y x es

goes_on_after-last : (es : List (MonthEntry Register)) (x entry : MonthEntry Register) → goes_on_after (es ++ x ∷ []) entry ≡ follows x entry
goes_on_after-last [] x entry = refl
goes_on_after-last (e ∷ es) x entry = ap (λ l. follows l entry) (last_of e x es)

-- what an entry may follow in the slot
pub goes_on-after : (k : ℕ) (bytes : List ℕ) → goes_on_after (entries_to k bytes) (month_entry k bytes) ≡ goes_on k bytes
unfolding goes_on
goes_on-after zero bytes = refl
goes_on-after (suc k) bytes =
    let more : suc k ≡ k + 1 = omega arith in
    ap (λ j. goes_on_after (entries_to j bytes) (month_entry (suc k) bytes)) more
    ∙ ap (λ es. goes_on_after es (month_entry (suc k) bytes)) (entries_to-more k bytes)
    ∙ goes_on_after-last (entries_to k bytes) (month_entry k bytes) (month_entry (suc k) bytes)

-- the last of some entries
last_at : (e : Entry) (es : List Entry) (d : Entry) → entry_view (get_or (e ∷ es) (length es) d) ≡ last_or (entry_view e) (entries_view es)
last_at e [] d = refl
last_at e (x ∷ es) d = last_at x es d

pub goes_on_after-at : (es : List Entry) (d : Entry) (entry : MonthEntry Register) → 1 ≤ length es → follows (entry_view (get_or es (length es - 1) d)) entry ≡ goes_on_after (entries_view es) entry
goes_on_after-at [] d entry some = absurd (omega arith)
goes_on_after-at (e ∷ es) d entry some =
    let place : suc (length es) - 1 ≡ length es = omega arith in
    ap (λ i. follows (entry_view (get_or (e ∷ es) i d)) entry) place ∙ ap (λ x. follows x entry) (last_at e es d)

pub goes_on-read : (k : ℕ) (bytes : List ℕ) (es : List Entry) (e : Entry) → entries_view es ≡ entries_to k bytes → entry_view e ≡ month_entry k bytes → goes_on_after (entries_view es) (entry_view e) ≡ goes_on k bytes
goes_on-read k bytes es e before now = (λ i. goes_on_after (before i) (now i)) ∙ goes_on-after k bytes

all_three : (a b c : Bool) → a ≡ true → b ≡ true → c ≡ true → (a && b && c) ≡ true
all_three a b c x y z = and_from _ _ (and_from _ _ x y) z

not_first : (a b c : Bool) → a ≡ false → (a && b && c) ≡ false
not_first true b c x = absurd cc
not_first false b c x = refl

not_second : (a b c : Bool) → b ≡ false → (a && b && c) ≡ false
not_second true b c x = ap (λ t. t && c) x
not_second false b c x = refl

not_third : (a b c : Bool) → c ≡ false → (a && b && c) ≡ false
not_third true true c x = x
not_third true false c x = refl
not_third false b c x = refl

module _ (k : ℕ) (bytes : List ℕ) (lt : k < number 11 1 bytes) where
  pub month_right : is_entry (number 32 8 bytes) (month_part k bytes) ≡ true → goes_on k bytes ≡ true → ends_right k bytes ≡ true → month_keeps k bytes ≡ true
  month_right x y z = month_counted k bytes lt ∙ all_three _ _ _ x y z

  pub month_no_entry : is_entry (number 32 8 bytes) (month_part k bytes) ≡ false → month_keeps k bytes ≡ false
  month_no_entry x = month_counted k bytes lt ∙ not_first _ _ _ x

  pub month_goes_wrong : goes_on k bytes ≡ false → month_keeps k bytes ≡ false
  month_goes_wrong x = month_counted k bytes lt ∙ not_second (is_entry (number 32 8 bytes) (month_part k bytes)) (goes_on k bytes) (ends_right k bytes) x

  pub month_ends_wrong : ends_right k bytes ≡ false → month_keeps k bytes ≡ false
  month_ends_wrong x = month_counted k bytes lt ∙ not_third (is_entry (number 32 8 bytes) (month_part k bytes)) (goes_on k bytes) (ends_right k bytes) x

-- ---- entries that keep their rules are in a row

pub all_months_kept : (bytes : List ℕ) (k n j : ℕ) → first_broken (month_fields k n) bytes ≡ None → k ≤ j → j < k + n → month_keeps j bytes ≡ true
unfolding month_fields
all_months_kept bytes k zero j e low high = absurd (omega arith)
all_months_kept bytes k (suc n) j e low high =
    let p = first_broken-kept (month_field k) (month_fields (k + 1) n) bytes e in
    elim (cases_eq k j) [
      | inl same ↦ ap (λ i. month_keeps i bytes) (sym same) ∙ p.0
      | inr other ↦ all_months_kept bytes (k + 1) n j p.1 (omega arith) (omega arith)
    ]

pub month_field_all : (bytes : List ℕ) (k n : ℕ) → ((j : ℕ) → k ≤ j → j < k + n → month_keeps j bytes ≡ true) → first_broken (month_fields k n) bytes ≡ None
unfolding month_fields
month_field_all bytes k zero keep = refl
month_field_all bytes k (suc n) keep =
    ap (λ b. cond b (first_broken (month_fields (k + 1) n) bytes) (Some (120 + 48 * k))) (keep k (omega arith) (omega arith))
    ∙ month_field_all bytes (k + 1) n (λ j low high. keep j (omega arith) (omega arith))

pub entry_first : (record_pulses : ℕ) (entry : List ℕ) → is_entry record_pulses entry ≡ true → is_first_day (entry_of entry).day ≡ true
unfolding is_entry entry_of
entry_first record_pulses entry h =
    let all = and_parts (keep_all entry_fields entry) (nat_le (number 8 8 entry) record_pulses) h in
    let day = and_parts _ _ all.0 in
    (and_parts _ _ day.0).1

pub entry_pulses : (record_pulses : ℕ) (entry : List ℕ) → is_entry record_pulses entry ≡ true → (entry_of entry).register.pulses ≤ record_pulses
unfolding is_entry entry_of
entry_pulses record_pulses entry h =
    let all = and_parts (keep_all entry_fields entry) (nat_le (number 8 8 entry) record_pulses) h in
    leb-true (number 8 8 entry) record_pulses all.1

abbrev pub entries_from : (from count : ℕ) → List ℕ → List (MonthEntry Register)
entries_from from count bytes = map (λ k. month_entry k bytes) (range_with_len from count)

abbrev pub pulses_in : List (MonthEntry Register) → List ℕ
pulses_in es = map (λ e. e.register.pulses) es

module _ (bytes : List ℕ) (month : ℕ) (in_month : IsInMonth (number 8 2 bytes) month) (keep : (k : ℕ) → k < number 11 1 bytes → month_keeps k bytes ≡ true) where
  kept_month : (k : ℕ) → k < number 11 1 bytes → (is_entry (number 32 8 bytes) (month_part k bytes) ≡ true) × (goes_on k bytes ≡ true) × (ends_right k bytes ≡ true)
  kept_month k lt =
      let all = and_parts (is_entry (number 32 8 bytes) (month_part k bytes) && goes_on k bytes) (ends_right k bytes) (sym (month_counted k bytes lt) ∙ keep k lt) in
      let front = and_parts (is_entry (number 32 8 bytes) (month_part k bytes)) (goes_on k bytes) all.0 in
      (front.0, front.1, all.1)

  last_begun : (k : ℕ) → k + 1 ≡ number 11 1 bytes → months_begun (month_entry k bytes).day ≡ month + 1
  unfolding ends_right
  last_begun k e =
      let h = (kept_month k (omega arith)).2 in
      let is : (k + 1 == number 11 1 bytes) ≡ true = eq-eqb (k + 1) (number 11 1 bytes) e in
      let same : (months_begun (month_entry k bytes).day == months_begun (number 8 2 bytes)) ≡ true =
      sym (ap (λ b. cond b (months_begun (month_entry k bytes).day == months_begun (number 8 2 bytes)) true) is) ∙ h in
      eqb-true (months_begun (month_entry k bytes).day) (months_begun (number 8 2 bytes)) same ∙ months_begun-in (number 8 2 bytes) month in_month

  next_follows : (k : ℕ) → k + 1 < number 11 1 bytes → follows (month_entry k bytes) (month_entry (k + 1) bytes) ≡ true
  unfolding goes_on
  next_follows k lt =
      let h : goes_on (suc k) bytes ≡ true = (kept_month (suc k) (omega arith)).1 in
      let next : suc k ≡ k + 1 = omega arith in
      ap (λ j. follows (month_entry k bytes) (month_entry j bytes)) (sym next) ∙ h

  next_begun : (k : ℕ) → k + 1 < number 11 1 bytes → (months_begun (month_entry (k + 1) bytes).day ≡ months_begun (month_entry k bytes).day + 1) × ((month_entry k bytes).register.pulses ≤ (month_entry (k + 1) bytes).register.pulses)
  unfolding follows
  next_begun k lt =
      let p = and_parts (months_begun (month_entry (k + 1) bytes).day == months_begun (month_entry k bytes).day + 1) (nat_le (month_entry k bytes).register.pulses (month_entry (k + 1) bytes).register.pulses) (next_follows k lt) in
      (eqb-true _ _ p.0, leb-true _ _ p.1)

  -- the days of the entries from a place on
  in_row : (n k : ℕ) → k + suc n ≡ number 11 1 bytes → (suc n ≤ month + 1) × (days_of (entries_from k (suc n) bytes) ≡ map first_day (range_with_len (month + 1 - suc n) (suc n)))
  in_row zero k e =
      let first = entry_first (number 32 8 bytes) (month_part k bytes) (kept_month k (omega arith)).0 in
      let is = first_day-begun (month_entry k bytes).day (month + 1) first (last_begun k (omega arith)) in
      (is.0, ap (λ d. d ∷ []) is.1)
  in_row (suc n) k e =
      let later = in_row n (k + 1) (omega arith) in
      let first = entry_first (number 32 8 bytes) (month_part k bytes) (kept_month k (omega arith)).0 in
      let head : (month_entry (k + 1) bytes).day ≡ first_day (month + 1 - suc n) = ap (λ l. get_or l 0 0) later.1 in
      let known : month < 1200 = in_month.known in
      let begun : months_begun (month_entry (k + 1) bytes).day ≡ month + 1 - suc n + 1 = ap months_begun head ∙ months_begun-first (month + 1 - suc n) (omega arith) in
      let before : months_begun (month_entry k bytes).day ≡ month + 1 - suc n = omega (arith, begun, (next_begun k (omega arith)).0) in
      let is = first_day-begun (month_entry k bytes).day (month + 1 - suc n) first before in
      let place : month + 1 - suc n - 1 ≡ month + 1 - suc (suc n) = omega arith in
      let next : month + 1 - suc n ≡ month + 1 - suc (suc n) + 1 = omega (arith, is.0) in
      (omega (arith, is.0), λ i. (is.1 ∙ ap first_day place) i ∷ (later.1 ∙ ap (λ m. map first_day (range_with_len m (suc n))) next) i)

  -- and their pulses, up to the record's
  in_order : (n k : ℕ) → k + suc n ≡ number 11 1 bytes → never_falls (pulses_in (entries_from k (suc n) bytes) ++ number 32 8 bytes ∷ []) ≡ true
  in_order zero k e =
      never_falls-lead (month_entry k bytes).register.pulses (number 32 8 bytes) [] (entry_pulses (number 32 8 bytes) (month_part k bytes) (kept_month k (omega arith)).0) refl
  in_order (suc n) k e =
      never_falls-lead (month_entry k bytes).register.pulses (month_entry (k + 1) bytes).register.pulses (pulses_in (entries_from (k + 1 + 1) n bytes) ++ number 32 8 bytes ∷ []) (next_begun k (omega arith)).1 (in_order n (k + 1) (omega arith))

  pub months_in_row : (count : ℕ) → number 11 1 bytes ≡ count → days_of (entries_to count bytes) ≡ map first_day (latest count (months_to (number 8 2 bytes)))
  months_in_row zero e = ap (map first_day) (sym (ap (latest 0) (months_to_is (number 8 2 bytes) month in_month) ∙ latest-none (month + 1)))
  months_in_row (suc n) e =
      let is = in_row n 0 (omega arith) in
      is.1 ∙ ap (map first_day) (sym (ap (latest (suc n)) (months_to_is (number 8 2 bytes) month in_month) ∙ latest-range (suc n) (month + 1) is.0))

  pub pulses_in_order : (count : ℕ) → number 11 1 bytes ≡ count → never_falls (pulses_in (entries_to count bytes) ++ number 32 8 bytes ∷ []) ≡ true
  pulses_in_order zero e = refl
  pulses_in_order (suc n) e = in_order n 0 (omega arith)
