-- What data messages say is in range.
use Rattle.std.proofs.Common.{◌≡◌, ◌∙◌, ℕ, zero, suc, ◌+◌, ◌-◌, ◌*◌, ◌^◌, ◌<◌, ◌≤◌, ◌==◌, ◌&&◌, Bool, true, false, if◌then◌else◌, List, [], ◌∷◌, ◌++◌, length, length-append, length-take, length-drop, take, drop, Option, None, Some, Result, Ok, Err, refl, sym, ap, subst, arith}
use Rattle.std.specs.Prelude.{codes, nat_le, IfOk, IfSome}
use Rattle.std.specs.List.{All}
use Rattle.std.proofs.Math.Nat.{pow-suc}
use Rattle.std.proofs.lemmas.Bool.{leb-true, eqb-true, and_parts}
use Rattle.std.proofs.lemmas.List.Elements.{All-nil, All-cons}
use Rattle.script_model.specs.Grammar.{◌>>=◌}
use Rattle.script_model.specs.Numbers.{is_digit, all_digits, value_after}
use Rattle.reading_model.specs.Rules.{byte}
use Rattle.reading_model.specs.Fields.{Shown, Message}
use Rattle.reading_model.specs.Messages.{behind, Form, said_before, is_mended, text_of, serial_form, serial_said, serial_of, number_form, number_said, number_size, digits_of, decimals_of, is_point, number_of, day_of, same_of, Reader, between, first_lines, energy_opening, volume_opening, entry_of, entries_of, marks_of, ends_with, check_before, with_entries, lines_of, placed, message_in}
use Rattle.answer_lines.proofs.Said.{ok_any, ok_both, ok_if}
use Rattle.answer_lines.specs.ReadLines.{IsDisplay, IsShowable, IsLegible}

-- ---- digits

turned : (a p : ℕ) → a * (p * 10) ≡ 10 * a * p
turned a p = omega arith

value_below : (bound n : ℕ) (text : List ℕ) → n < bound → all_digits text ≡ true → value_after n text < bound * 10 ^ length text
value_below bound n [] lt digits = omega arith
value_below bound n (c ∷ cs) lt digits =
    let first = and_parts (is_digit c) (all_digits cs) digits in
    let small : c ≤ 57 = leb-true c 57 (and_parts (nat_le 48 c) (nat_le c 57) first.0).1 in
    let rest : value_after (10 * n + (c - 48)) cs < 10 * bound * 10 ^ length cs = value_below (10 * bound) (10 * n + (c - 48)) cs (omega arith) first.1 in
    subst (λ most. value_after (10 * n + (c - 48)) cs < most) (sym (ap (λ p. bound * p) (pow-suc 10 (length cs)) ∙ turned bound (10 ^ length cs))) rest

eight_below : (text : List ℕ) → length text ≡ 8 → all_digits text ≡ true → value_after 0 text < 10 ^ 8
eight_below text sized digits =
    let small : value_after 0 text < 1 * 10 ^ length text = value_below 1 0 text (omega arith) digits in
    let size : 1 * 10 ^ length text ≡ 10 ^ 8 = ap (λ n. 1 * 10 ^ n) sized in
    omega (arith, small, size)

some_if : {A : Type 0} (P : A → Type 0) (b : Bool) (x : A) → (b ≡ true → P x) → IfSome (if b then Some x else None) P
some_if P true x kept = kept refl
some_if P false x kept = tt

some_serial : (text : List ℕ) → IfSome (serial_said text) (λ n. n < 10 ^ 8)
unfolding serial_said
some_serial text = some_if (λ n. n < 10 ^ 8) ((length text == 8) && all_digits text) (value_after 0 text)
    (λ is. let h = and_parts _ _ is in eight_below text (eqb-true _ _ h.0) h.1)

few_decimals : (text : List ℕ) → decimals_of text ≤ 3
unfolding decimals_of
few_decimals text = by_test (is_point (byte text 5)) (is_point (byte text 6)) (is_point (byte text 7))
  where
    by_test : (a b c : Bool) → (if a then 3 else (if b then 2 else (if c then 1 else 0))) ≤ 3
    by_test true b c = omega arith
    by_test false true c = omega arith
    by_test false false true = omega arith
    by_test false false false = omega arith

eight_digits : (decimals : ℕ) (text : List ℕ) → decimals ≤ 3 → length text ≡ (if decimals == 0 then 8 else 9) → length (digits_of decimals text) ≡ 8
unfolding digits_of
eight_digits decimals text few = by_test (decimals == 0)
  where
    without : length text ≡ 9 → length (take (8 - decimals) text ++ drop (9 - decimals) text) ≡ 8
    without sized = omega (arith, sized, few, length-append (take (8 - decimals) text) (drop (9 - decimals) text), length-take (8 - decimals) text, length-drop (9 - decimals) text)

    by_test : (none : Bool) → length text ≡ (if none then 8 else 9) → length (if none then text else take (8 - decimals) text ++ drop (9 - decimals) text) ≡ 8
    by_test true sized = sized
    by_test false sized = without sized

some_number : (text : List ℕ) → IfSome (number_said text) IsDisplay
unfolding number_said number_size
some_number text =
    let decimals = decimals_of text in
    let digits = digits_of decimals text in
    some_if IsDisplay ((length text == (if decimals == 0 then 8 else 9)) && all_digits digits) (record { digits = value_after 0 digits; decimals = decimals })
    (λ is.
    let h = and_parts _ _ is in
    record { digits = eight_below digits (eight_digits decimals text (few_decimals text) (eqb-true _ _ h.0)) h.1; decimals = few_decimals text })

-- ---- what is said, where something is

-- what a reader says, wherever it says something
Says : {Said : Type 0} → (Said → Type 0) → Reader Said → Type 0
Says {Said} P reader = (bytes : List ℕ) → IfOk (reader bytes) (λ x. P x.0)

text_says : {Said : Type 0} (P : Said → Type 0) (form : Form Said) (size : ℕ) (bytes : List ℕ) → ((text : List ℕ) → IfSome (form.said text) P) → IfOk (text_of form size bytes) (λ x. P x.0)
unfolding text_of
text_says {Said} P form size bytes some = by_size (nat_le size (length bytes)) (some (take size bytes))
  where
    by_said : (said : Option Said) → IfSome said P → IfOk (said_before said (drop size bytes) (length bytes)) (λ x. P x.0)
    by_said None is = tt
    by_said (Some x) is = is

    by_end : (mended : Bool) → IfOk {T = Said × List ℕ} (if mended then Err 0 else Err (length bytes)) (λ x. P x.0)
    by_end true = tt
    by_end false = tt

    by_size : (there : Bool) → IfSome (form.said (take size bytes)) P → IfOk (if there then said_before (form.said (take size bytes)) (drop size bytes) (length bytes) else (if is_mended form bytes then Err 0 else Err (length bytes))) (λ x. P x.0)
    by_size true is = by_said (form.said (take size bytes)) is
    by_size false is = by_end (is_mended form bytes)

serial_says : Says (λ n. n < 10 ^ 8) serial_of
unfolding Says serial_of
serial_says bytes = text_says (λ n. n < 10 ^ 8) serial_form 8 bytes some_serial

number_says : Says IsDisplay number_of
unfolding Says number_of
number_says bytes = text_says IsDisplay number_form (number_size bytes) bytes some_number

between_says : {Said : Type 0} (P : Said → Type 0) (opening closing : List ℕ) (reader : Reader Said) → Says P reader → Says P (between opening reader closing)
unfolding Says
between_says P opening closing reader says bytes =
    ok_both (λ inner. Unit {0}) (λ x. P x.0) (behind opening bytes) _ (ok_any (behind opening bytes))
    (λ inner any. ok_both (λ x. P x.0) (λ x. P x.0) (reader inner) _ (says inner)
    (λ x is. ok_both (λ rest. Unit {0}) (λ x. P x.0) (behind closing x.1) _ (ok_any (behind closing x.1))
    (λ rest any. is)))

-- ---- lines

first_says : Says IsLegible first_lines
unfolding Says first_lines
first_says bytes =
    let legible : Message × List ℕ → Type 0 = λ x. IsLegible x.0 in
    ok_both (λ x. x.0 < 10 ^ 8) legible (between (2 ∷ codes "9.21(") serial_of (codes ")\r\n") bytes) _ (between_says (λ n. n < 10 ^ 8) (2 ∷ codes "9.21(") (codes ")\r\n") serial_of serial_says bytes)
    (λ serial small. ok_both (λ x. IsDisplay x.0) legible (between (codes "6.8(") number_of (codes "*kWh)\r\n") serial.1) _ (between_says IsDisplay (codes "6.8(") (codes "*kWh)\r\n") number_of number_says serial.1)
    (λ energy shown. ok_both (λ x. IsDisplay x.0) legible (between (codes "6.26(") number_of (codes "*m3)\r\n") energy.1) _ (between_says IsDisplay (codes "6.26(") (codes "*m3)\r\n") number_of number_says energy.1)
    (λ volume read. ok_both (λ x. Unit {0}) legible (between (codes "9.36(") day_of (codes ")\r\n") volume.1) _ (ok_any (between (codes "9.36(") day_of (codes ")\r\n") volume.1))
    (λ day any. record { serial = small; energy = shown; volume = read; entries = All-nil IsShowable }))))

entry_says : (mark : ℕ) → mark ≤ 99 → Says IsShowable (entry_of mark)
unfolding Says entry_of
entry_says mark two bytes =
    let showable : Shown × List ℕ → Type 0 = λ x. IsShowable x.0 in
    ok_both (λ x. Unit {0}) showable (between (energy_opening mark) day_of (codes ")") bytes) _ (ok_any (between (energy_opening mark) day_of (codes ")") bytes))
    (λ day any. ok_both (λ x. IsDisplay x.0) showable (between (codes "(") number_of (codes "*kWh)\r\n") day.1) _ (between_says IsDisplay (codes "(") (codes "*kWh)\r\n") number_of number_says day.1)
    (λ energy shown. ok_both (λ x. Unit {0}) showable (between (volume_opening mark) (same_of day.0.1) (codes ")") energy.1) _ (ok_any (between (volume_opening mark) (same_of day.0.1) (codes ")") energy.1))
    (λ same any. ok_both (λ x. IsDisplay x.0) showable (between (codes "(") number_of (codes "*m3)\r\n") same.1) _ (between_says IsDisplay (codes "(") (codes "*m3)\r\n") number_of number_says same.1)
    (λ volume read. record { mark = two; energy = shown; volume = read }))))

entries_say : (n : ℕ) → Says (All IsShowable) (entries_of n)
unfolding Says
entries_say zero bytes = All-nil IsShowable
entries_say (suc n) bytes =
    let all : List Shown × List ℕ → Type 0 = λ x. All IsShowable x.0 in
    ok_if all (byte bytes 0 == 33) (Ok ([], bytes)) _ (All-nil IsShowable)
    (ok_both (λ x. IsShowable x.0) all (entry_of (25 - n) bytes) _ (entry_says (25 - n) (omega arith) bytes)
    (λ first is. ok_both all all (entries_of n first.1) _ (entries_say n first.1)
    (λ others are. All-cons IsShowable first.0 others.0 is are)))

-- ---- the message

with_all : (m : Message) (entries : List Shown) → IsLegible m → All IsShowable entries → IsLegible (with_entries m entries)
with_all m entries is all = record { serial = is.serial; energy = is.energy; volume = is.volume; entries = all }

ok_lines : (bytes : List ℕ) → IfOk (lines_of bytes) IsLegible
unfolding lines_of Says
ok_lines bytes =
    ok_both (λ x. IsLegible x.0) IsLegible (first_lines bytes) _ (first_says bytes)
    (λ first is. ok_both (λ x. All IsShowable x.0) IsLegible (entries_of (marks_of first.1) first.1) _ (entries_say (marks_of first.1) first.1)
    (λ entries all. ok_both (λ rest. Unit {0}) IsLegible (behind (codes "!\r\n" ++ 3 ∷ []) entries.1) _ (ok_any (behind (codes "!\r\n" ++ 3 ∷ []) entries.1))
    (λ rest any. ok_both (λ ended. Unit {0}) IsLegible (ends_with (check_before bytes (length rest)) rest) _ (ok_any (ends_with (check_before bytes (length rest)) rest))
    (λ ended any. with_all first.0 entries.0 is all))))

ok_placed : (size : ℕ) (said : Result Message ℕ) → IfOk said IsLegible → IfOk (placed size said) IsLegible
ok_placed size (Ok m) is = is
ok_placed size (Err left) is = tt

pub legible : (bytes : List ℕ) (m : Message) → message_in bytes ≡ Ok m → IsLegible m
legible bytes m is = let P : Result Message ℕ → Type 0 = λ said. IfOk said IsLegible in subst P is (ok_placed (length bytes) (lines_of bytes) (ok_lines bytes))
