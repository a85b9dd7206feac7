-- A slot that is read is spelled as it is written.
use Rattle.std.proofs.Common.{◌≡◌, ℕ, zero, suc, ◌+◌, ◌-◌, ◌*◌, ◌^◌, ◌<◌, ◌≤◌, inl, inr, Bool, true, false, cond, List, [], ◌∷◌, ◌++◌, length, drop, None, Some, Ok, refl, sym, ◌∙◌, ap, subst, arith, append_assoc, pow-suc}
use Rattle.std.specs.Prelude.{replicate, nat_le, ◌&&◌, ◌||◌, ◌==◌}
use Rattle.std.specs.List.{flat_map}
use Rattle.std.specs.Int.{w16, w32, w64, w128, to_le_bytes, cast_signed, cast_unsigned}
use Rattle.std.proofs.lemmas.Bool.{cases_Bool, and_parts, eqb-true, leb-true}
use Rattle.std.proofs.lemmas.Bool.Decides.{nat_tests}
use Rattle.std.proofs.lemmas.Int.{of_z-to_z}
use Rattle.std.proofs.lemmas.List.{drop_all, replicate-append-replicate}
use Rattle.std.proofs.lemmas.List.Elements.{All-head, All-tail, All-take, All-drop}
use Rattle.std.proofs.lemmas.List.FromFn.{length-map-range_with_len}
use Rattle.metering_model.specs.Records as records
use Rattle.memory_model.specs.Fields.{little_endian, first_broken, number, part, are_zero, keep_all, blank}
use Rattle.byte_model.specs.Bytes.{AreBytes}
use Rattle.memory_model.specs.Slot.{record_in, record_of, record_fields, month_fields, month_part, month_entry, is_entry, entry_of, entry_fields, set_day_keeps, set_day_of, samples_of, months_of, goes_on, ends_right}
use Rattle.state_codec.specs.Slot.{head_fields, sample_fields, sum_fields, set_day_fields, entry_bytes, zeros, flag_of, flow_of, return_of, head_bytes, sum_bytes, set_day_bytes, record_bytes}
use Rattle.state_codec.proofs.Numbers.{length-part}
use Rattle.state_codec.proofs.Checks.{AllKeep, all_kept, checked-ok, first_broken-kept, first_broken-split}
use Rattle.state_codec.proofs.Spelling.{piece, spelled_1, spelled_2, spelled_4, spelled_8, spelled_16, spelled_blank}
use Rattle.state_codec.proofs.MonthSteps.{all_months_kept, month_blank, month_counted, entries_from}
use Rattle.state_codec.proofs.Slots.{from_samples, from_sums, from_set_day, from_months, tail_fields, begins}

little_endian-fits : (bs : List ℕ) → AreBytes bs → little_endian bs < 256 ^ length bs
little_endian-fits [] fits = omega arith
little_endian-fits (b ∷ bs) fits =
    let later = little_endian-fits bs (All-tail (λ c. c < 256) b bs fits) in
    let byte : b < 256 = All-head (λ c. c < 256) b bs fits in
    let power : 256 ^ suc (length bs) ≡ 256 * 256 ^ length bs = omega (arith, pow-suc 256 (length bs)) in
    omega (arith, later, byte, power)

AreBytes-part : (at size : ℕ) (bytes : List ℕ) → AreBytes bytes → AreBytes (part at size bytes)
AreBytes-part at size bytes fits =
    All-take (λ b. b < 256) size (drop at bytes) (All-drop (λ b. b < 256) at bytes fits)

wide_fits : (at : ℕ) (bytes : List ℕ) → AreBytes bytes → at + 16 ≤ length bytes → number at 16 bytes < 2 ^ 128
unfolding number
wide_fits at bytes fits le =
    let is = length-part at 16 bytes le in
    let below = little_endian-fits (part at 16 bytes) (AreBytes-part at 16 bytes fits) in
    let P : ℕ → Type 0 = λ n. little_endian (part at 16 bytes) < 256 ^ n in
    let all : little_endian (part at 16 bytes) < 256 ^ 16 = subst P is below in
    all

signed_again : (n : ℕ) → n < 2 ^ 128 → n ≡ cast_unsigned w128 (cast_signed w128 n)
signed_again n fits = sym (of_z-to_z w128 n fits)

-- ---- entries

pub entry_spelled : (record_pulses : ℕ) (entry : List ℕ) → AreBytes entry → length entry ≡ 48 → is_entry record_pulses entry ≡ true → entry ≡ entry_bytes (entry_of entry)
unfolding is_entry entry_of entry_bytes
entry_spelled record_pulses entry fits size h =
    let all = and_parts (keep_all entry_fields entry) (nat_le (number 8 8 entry) record_pulses) h in
    let gap : are_zero (part 2 6 entry) ≡ true = (and_parts _ _ (and_parts _ _ all.0).1).0 in
    let e48 : drop 48 entry ≡ [] = drop_all 48 entry (omega (arith, size)) in
    let e32 = piece 32 16 entry (to_le_bytes w128 (number 32 16 entry)) (spelled_16 entry fits 32 (omega (arith, size))) ∙ ap (λ (l : List ℕ). to_le_bytes w128 (number 32 16 entry) ++ l) e48 in
    let e16 = piece 16 16 entry (to_le_bytes w128 (number 16 16 entry)) (spelled_16 entry fits 16 (omega (arith, size))) ∙ (λ i. to_le_bytes w128 (signed_again (number 16 16 entry) (wide_fits 16 entry fits (omega (arith, size))) i) ++ e32 i) in
    let e8 = piece 8 8 entry (to_le_bytes w64 (number 8 8 entry)) (spelled_8 entry fits 8 (omega (arith, size))) ∙ ap (λ (l : List ℕ). to_le_bytes w64 (number 8 8 entry) ++ l) e16 in
    let e2 = piece 2 6 entry (replicate 6 0) (spelled_blank 2 6 entry (omega (arith, size)) gap) ∙ ap (λ (l : List ℕ). replicate 6 0 ++ l) e8 in
    piece 0 2 entry (to_le_bytes w16 (number 0 2 entry)) (spelled_2 entry fits 0 (omega (arith, size))) ∙ ap (λ (l : List ℕ). to_le_bytes w16 (number 0 2 entry) ++ l) e2

flag_is : {Item : Type 0} (n : ℕ) (x : Item) → nat_le n 1 ≡ true → n ≡ flag_of (cond (n == 1) (Some x) None)
flag_is n x h = elim (cases_Bool (n == 1)) [
  | inl is ↦ rw is (eqb-true n 1 is)
  | inr other ↦ let none : n ≡ 0 = grind (arith, nat_tests) in rw other none
]

kept_or_zero : (b : Bool) (n : ℕ) → (b || (n == 0)) ≡ true → (b ≡ false) → n ≡ 0
kept_or_zero true n h is = absurd cc
kept_or_zero false n h is = eqb-true n 0 h

module _ (bytes : List ℕ) (fits : AreBytes bytes) (size : length bytes ≡ 1280) where
  flow_is : ((number 10 1 bytes == 1) || (number 16 4 bytes == 0)) ≡ true → number 16 4 bytes ≡ flow_of (samples_of bytes)
  unfolding samples_of
  flow_is h = elim (cases_Bool (number 10 1 bytes == 1)) [
    | inl is ↦ rw is refl
    | inr other ↦ let none : number 16 4 bytes ≡ 0 = kept_or_zero (number 10 1 bytes == 1) (number 16 4 bytes) h other in rw other none
  ]

  return_is : ((number 10 1 bytes == 1) || (number 20 4 bytes == 0)) ≡ true → number 20 4 bytes ≡ return_of (samples_of bytes)
  unfolding samples_of
  return_is h = elim (cases_Bool (number 10 1 bytes == 1)) [
    | inl is ↦ rw is refl
    | inr other ↦ let none : number 20 4 bytes ≡ 0 = kept_or_zero (number 10 1 bytes == 1) (number 20 4 bytes) h other in rw other none
  ]

  count_is : number 11 1 bytes ≡ length (months_of bytes)
  unfolding months_of
  count_is = sym (length-map-range_with_len (λ k. month_entry k bytes) 0 (number 11 1 bytes))

  head_spelled : AllKeep head_fields bytes → bytes ≡ head_bytes (record_of bytes) ++ drop 16 bytes
  unfolding head_bytes record_of
  head_spelled keep =
      let gap : are_zero (part 13 3 bytes) ≡ true = keep.1.1.1.1.1.0 in
      let kept : number 12 1 bytes ≡ flag_of (set_day_of bytes) = unfold set_day_of in flag_is (number 12 1 bytes) (entry_of (part 72 48 bytes)) keep.1.1.1.1.0 in
      let sampled : number 10 1 bytes ≡ flag_of (samples_of bytes) = unfold samples_of in flag_is (number 10 1 bytes) (number 16 4 bytes, number 20 4 bytes) keep.1.1.0 in
      let e13 = piece 13 3 bytes (0 ∷ 0 ∷ 0 ∷ []) (spelled_blank 13 3 bytes (omega (arith, size)) gap) in
      let e12 = piece 12 1 bytes (number 12 1 bytes ∷ []) (spelled_1 bytes fits 12 (omega (arith, size))) ∙ (λ i. kept i ∷ e13 i) in
      let e11 = piece 11 1 bytes (number 11 1 bytes ∷ []) (spelled_1 bytes fits 11 (omega (arith, size))) ∙ (λ i. count_is i ∷ e12 i) in
      let e10 = piece 10 1 bytes (number 10 1 bytes ∷ []) (spelled_1 bytes fits 10 (omega (arith, size))) ∙ (λ i. sampled i ∷ e11 i) in
      let e8 = piece 8 2 bytes (to_le_bytes w16 (number 8 2 bytes)) (spelled_2 bytes fits 8 (omega (arith, size))) ∙ ap (λ (l : List ℕ). to_le_bytes w16 (number 8 2 bytes) ++ l) e10 in
      piece 0 8 bytes (to_le_bytes w64 (number 0 8 bytes)) (spelled_8 bytes fits 0 (omega (arith, size))) ∙ ap (λ (l : List ℕ). to_le_bytes w64 (number 0 8 bytes) ++ l) e8

  sums_spelled : AllKeep sample_fields bytes → drop 16 bytes ≡ sum_bytes (record_of bytes) ++ drop 72 bytes
  unfolding sum_bytes record_of
  sums_spelled keep =
      let e56 = piece 56 16 bytes (to_le_bytes w128 (number 56 16 bytes)) (spelled_16 bytes fits 56 (omega (arith, size))) in
      let e40 = piece 40 16 bytes (to_le_bytes w128 (number 40 16 bytes)) (spelled_16 bytes fits 40 (omega (arith, size))) ∙ (λ i. to_le_bytes w128 (signed_again (number 40 16 bytes) (wide_fits 40 bytes fits (omega (arith, size))) i) ++ e56 i) in
      let e32 = piece 32 8 bytes (to_le_bytes w64 (number 32 8 bytes)) (spelled_8 bytes fits 32 (omega (arith, size))) ∙ ap (λ (l : List ℕ). to_le_bytes w64 (number 32 8 bytes) ++ l) e40 in
      let e24 = piece 24 8 bytes (to_le_bytes w64 (number 24 8 bytes)) (spelled_8 bytes fits 24 (omega (arith, size))) ∙ ap (λ (l : List ℕ). to_le_bytes w64 (number 24 8 bytes) ++ l) e32 in
      let e20 = piece 20 4 bytes (to_le_bytes w32 (number 20 4 bytes)) (spelled_4 bytes fits 20 (omega (arith, size))) ∙ (λ i. to_le_bytes w32 (return_is keep.1.0 i) ++ e24 i) in
      piece 16 4 bytes (to_le_bytes w32 (number 16 4 bytes)) (spelled_4 bytes fits 16 (omega (arith, size))) ∙ (λ i. to_le_bytes w32 (flow_is keep.0 i) ++ e20 i)

  set_day_spelled : set_day_keeps bytes ≡ true → drop 72 bytes ≡ set_day_bytes (set_day_of bytes) ++ drop 120 bytes
  unfolding set_day_keeps set_day_of set_day_bytes zeros
  set_day_spelled keeps =
      let le : 72 + 48 ≤ length bytes = omega (arith, size) in
      let in_slot : AreBytes (part 72 48 bytes) = AreBytes-part 72 48 bytes fits in
      elim (cases_Bool (number 12 1 bytes == 1)) [
        | inl is ↦
            let right = sym (ap (λ b. cond b (is_entry (number 32 8 bytes) (part 72 48 bytes) && nat_le (entry_of (part 72 48 bytes)).day (number 8 2 bytes)) (are_zero (part 72 48 bytes))) is) ∙ keeps in
            let entry = and_parts (is_entry (number 32 8 bytes) (part 72 48 bytes)) (nat_le (entry_of (part 72 48 bytes)).day (number 8 2 bytes)) right in
            rw is (piece 72 48 bytes (entry_bytes (entry_of (part 72 48 bytes))) (entry_spelled (number 32 8 bytes) (part 72 48 bytes) in_slot (length-part 72 48 bytes le) entry.0))
        | inr other ↦
            let empty = sym (ap (λ b. cond b (is_entry (number 32 8 bytes) (part 72 48 bytes) && nat_le (entry_of (part 72 48 bytes)).day (number 8 2 bytes)) (are_zero (part 72 48 bytes))) other) ∙ keeps in
            rw other (piece 72 48 bytes (replicate 48 0) (spelled_blank 72 48 bytes le empty))
      ]

  module _ (few : number 11 1 bytes ≤ 24) (months : first_broken (month_fields 0 24) bytes ≡ None) where
    counted_spelled : (k n : ℕ) → k + n ≡ number 11 1 bytes → drop (120 + 48 * k) bytes ≡ flat_map entry_bytes (entries_from k n bytes) ++ drop (120 + 48 * number 11 1 bytes) bytes
    counted_spelled k zero e = let same : k ≡ number 11 1 bytes = omega arith in ap (λ j. drop (120 + 48 * j) bytes) same
    counted_spelled k (suc n) e =
        let le : 120 + 48 * k + 48 ≤ length bytes = omega (arith, size) in
        let keeps = sym (month_counted k bytes (omega arith)) ∙ all_months_kept bytes 0 24 k months (omega arith) (omega arith) in
        let entry = (and_parts (is_entry (number 32 8 bytes) (month_part k bytes)) (goes_on k bytes) (and_parts (is_entry (number 32 8 bytes) (month_part k bytes) && goes_on k bytes) (ends_right k bytes) keeps).0).0 in
        let here = piece (120 + 48 * k) 48 bytes (entry_bytes (month_entry k bytes)) (entry_spelled (number 32 8 bytes) (month_part k bytes) (AreBytes-part (120 + 48 * k) 48 bytes fits) (length-part (120 + 48 * k) 48 bytes le) entry) in
        let place : 120 + 48 * k + 48 ≡ 120 + 48 * (k + 1) = omega arith in
        let later = counted_spelled (k + 1) n (omega arith) in
        here ∙ ap (λ p. entry_bytes (month_entry k bytes) ++ drop p bytes) place ∙ ap (λ (l : List ℕ). entry_bytes (month_entry k bytes) ++ l) later
        ∙ sym (append_assoc (entry_bytes (month_entry k bytes)) (flat_map entry_bytes (entries_from (k + 1) n bytes)) (drop (120 + 48 * number 11 1 bytes) bytes))

    unused_spelled : (k n : ℕ) → k + n ≡ 24 → number 11 1 bytes ≤ k → are_zero (part 1272 8 bytes) ≡ true → drop (120 + 48 * k) bytes ≡ replicate (48 * n + 8) 0
    unused_spelled k zero e le tail =
        let place : 120 + 48 * k ≡ 1272 = omega arith in
        let end : drop 1280 bytes ≡ [] = drop_all 1280 bytes (omega (arith, size)) in
        ap (λ p. drop p bytes) place ∙ piece 1272 8 bytes (replicate 8 0) (spelled_blank 1272 8 bytes (omega (arith, size)) tail) ∙ ap (λ (l : List ℕ). replicate 8 0 ++ l) end
    unused_spelled k (suc n) e le tail =
        let within : 120 + 48 * k + 48 ≤ length bytes = omega (arith, size) in
        let empty = sym (month_blank k bytes le) ∙ all_months_kept bytes 0 24 k months (omega arith) (omega arith) in
        let here = piece (120 + 48 * k) 48 bytes (replicate 48 0) (spelled_blank (120 + 48 * k) 48 bytes within empty) in
        let place : 120 + 48 * k + 48 ≡ 120 + 48 * (k + 1) = omega arith in
        let sum : 48 + (48 * n + 8) ≡ 48 * suc n + 8 = omega arith in
        here ∙ ap (λ p. replicate 48 0 ++ drop p bytes) place ∙ ap (λ (l : List ℕ). replicate 48 0 ++ l) (unused_spelled (k + 1) n (omega arith) (omega arith) tail)
        ∙ replicate-append-replicate 48 (48 * n + 8) 0 ∙ ap (λ m. replicate m 0) sum

    months_spelled : are_zero (part 1272 8 bytes) ≡ true → drop 120 bytes ≡ flat_map entry_bytes (months_of bytes) ++ zeros (1160 - 48 * length (months_of bytes))
    unfolding months_of zeros
    months_spelled tail =
        let rest : 48 * (24 - number 11 1 bytes) + 8 ≡ 1160 - 48 * number 11 1 bytes = omega arith in
        counted_spelled 0 (number 11 1 bytes) (omega arith)
        ∙ ap (λ (l : List ℕ). flat_map entry_bytes (entries_from 0 (number 11 1 bytes) bytes) ++ l) (unused_spelled (number 11 1 bytes) (24 - number 11 1 bytes) (omega arith) (omega arith) tail ∙ ap (λ m. replicate m 0) rest)
        ∙ ap (λ m. flat_map entry_bytes (entries_from 0 (number 11 1 bytes) bytes) ++ replicate (1160 - 48 * m) 0) (sym (length-map-range_with_len (λ k. month_entry k bytes) 0 (number 11 1 bytes)))

  slot_spelled : AllKeep head_fields bytes → AllKeep sample_fields bytes → set_day_keeps bytes ≡ true → number 11 1 bytes ≤ 24 → first_broken (month_fields 0 24) bytes ≡ None → are_zero (part 1272 8 bytes) ≡ true → bytes ≡ record_bytes (record_of bytes)
  unfolding record_bytes record_of
  slot_spelled head samples set_day few months tail =
      head_spelled head
      ∙ ap (λ (l : List ℕ). head_bytes (record_of bytes) ++ l)
      (sums_spelled samples
      ∙ ap (λ (l : List ℕ). sum_bytes (record_of bytes) ++ l)
      (set_day_spelled set_day ∙ ap (λ (l : List ℕ). set_day_bytes (set_day_of bytes) ++ l) (months_spelled few months tail)))

  pub record_spelled : (r : records.MeterRecord) → record_in bytes ≡ Ok r → record_bytes r ≡ bytes
  unfolding record_in
  record_spelled r e =
      let read = checked-ok (first_broken record_fields bytes) (record_of bytes) r e in
      let head = all_kept head_fields from_samples bytes (sym (begins bytes) ∙ read.0) in
      let samples = all_kept sample_fields from_sums bytes head.1 in
      let sums = all_kept sum_fields from_set_day bytes samples.1 in
      let set_day = all_kept set_day_fields from_months bytes sums.1 in
      let months = first_broken-split (month_fields 0 24) tail_fields bytes set_day.1 in
      let few = leb-true (number 11 1 bytes) 24 head.0.1.1.1.0 in
      let tail = (first_broken-kept (blank 1272 8) [] bytes months.1).0 in
      ap record_bytes (sym read.1) ∙ sym (slot_spelled head.0 samples.0 set_day.0.0 few months.0 tail)
