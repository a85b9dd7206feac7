-- The data message that a meter writes is read as what it was written from.
use Rattle.std.proofs.Common.{◌≡◌, ◌∙◌, ℕ, zero, suc, ◌+◌, ◌-◌, ◌*◌, ◌/◌, ◌%◌, ◌<◌, ◌≤◌, nat_eq, true, false, cond, List, [], ◌∷◌, ◌++◌, length, take, drop, Option, None, Some, Result, Ok, refl, sym, ap, append_assoc, append-nil, length-append, eq-eqb, arith}
use Rattle.std.specs.Prelude.{codes, nat_le, reverse, pos, ℤ}
use Rattle.jiff_core.proofs.SignedLemmas.{signed_arith}
use Rattle.std.specs.Option.{option_to_list, option_map}
use Rattle.std.specs.Cmp.Lexicographic.{pointwise}
use Rattle.std.proofs.Math.Seq.{take-append_seam, drop-append_seam}
use Rattle.std.proofs.lemmas.Bool.{le-leb}
use Rattle.std.proofs.lemmas.List.{length-reverse}
use Rattle.jiff_core.proofs.CalendarLemmas.{days_in_month_bounds}
use Rattle.calendar_model.specs.Calendar.{IsCenturyDate, IsDay, day_number}
use Rattle.calendar_model.specs.Entries.{MonthEntry}
use Rattle.calendar_model.specs.Texts.{IsDayText, date_text, two_digits}
use Rattle.display_model.specs.Display.{eight_digits, pointed, shown_digits, energy_unit, volume_unit}
use Rattle.config_model.specs.Configuration.{Configuration, IsConfiguration}
use Rattle.metering_model.specs.Records.{Register, MeterRecord}
use Rattle.show_model.specs.Lines.{energy_display, volume_display}
use Rattle.optical_model.specs.Messages as written
use Rattle.optical_model.specs.Messages.{entry_lines, AreEntryLines, IsBlock, IsDataMessage, checked, check_character}
use Rattle.script_model.specs.Grammar.{◌>>=◌}
use Rattle.script_model.specs.Dates.{date_in, is_century_date, day_in_century, is_date_form}
use Rattle.script_model.specs.Numbers.{is_digit, all_digits, value_after}
use Rattle.reading_model.specs.Fields.{Shown, Message}
use Rattle.reading_model.specs.Messages.{behind, Form, text_of, serial_form, serial_said, number_form, number_said, number_size, decimals_of, digits_of, is_point, day_form, same_form, Reader, serial_of, number_of, day_of, same_of, between, first_lines, energy_opening, volume_opening, entry_of, entries_of, marks_of, ends_with, check_before, with_entries, lines_of, placed, message_in}
use Rattle.reading_model.specs.Written.{energy_number, volume_number, energy_digits, volume_digits, shown_from, message_said}

bound : {A B : Type 0} (said : Result A ℕ) (x : A) (more : A → Result B ℕ) → said ≡ Ok x → (said >>= more) ≡ more x
bound said x more is = ap (λ s. s >>= more) is

-- ---- texts

behind_same : (fixed rest : List ℕ) → behind fixed (fixed ++ rest) ≡ Ok rest
behind_same [] rest = refl
behind_same (f ∷ fs) rest = rw (eq-eqb f f refl) (behind_same fs rest)

-- a text is said to be this, whatever follows
abbrev pub IsSaid : {Said : Type 0} → Reader Said → List ℕ → Said → Type 0
IsSaid reader text x = (rest : List ℕ) → reader (text ++ rest) ≡ Ok (x, rest)

between_said : {Said : Type 0} (opening closing text : List ℕ) (reader : Reader Said) (x : Said) (rest : List ℕ) → IsSaid reader text x → between opening reader closing (opening ++ (text ++ (closing ++ rest))) ≡ Ok (x, rest)
between_said opening closing text reader x rest said =
    bound (behind opening (opening ++ (text ++ (closing ++ rest)))) (text ++ (closing ++ rest)) _ (behind_same opening (text ++ (closing ++ rest)))
    ∙ bound (reader (text ++ (closing ++ rest))) (x, closing ++ rest) _ (said (closing ++ rest))
    ∙ bound (behind closing (closing ++ rest)) rest _ (behind_same closing rest)

text_said : {Said : Type 0} (form : Form Said) (size : ℕ) (text : List ℕ) (x : Said) → length text ≡ size → form.said text ≡ Some x → IsSaid (text_of form size) text x
unfolding text_of
text_said form size text x sized said rest =
    let there : nat_le size (length (text ++ rest)) ≡ true = le-leb size (length (text ++ rest)) (omega (arith, length-append text rest)) in
    let front : take size (text ++ rest) ≡ text = ap (λ n. take n (text ++ rest)) (sym sized) ∙ take-append_seam text rest in
    let back : drop size (text ++ rest) ≡ rest = ap (λ n. drop n (text ++ rest)) (sym sized) ∙ drop-append_seam text rest in
    rw (there, front, back, said) refl

digit : (n : ℕ) → is_digit (48 + n % 10) ≡ true
digit n = rw (le-leb 48 (48 + n % 10) (omega arith), le-leb (48 + n % 10) 57 (omega arith)) refl

tens : (n : ℕ) → n < 100 → is_digit (48 + n / 10) ≡ true
tens n lt = rw (le-leb 48 (48 + n / 10) (omega arith), le-leb (48 + n / 10) 57 (omega arith)) refl

eight_said : (n : ℕ) → all_digits (eight_digits n) ≡ true
eight_said n =
    rw (digit (n / 10000000), digit (n / 1000000), digit (n / 100000), digit (n / 10000), digit (n / 1000), digit (n / 100), digit (n / 10), digit (n / 1)) refl

without_48 : (d : ℕ) → 48 + d - 48 ≡ d
without_48 d = omega arith

eight_value : (n : ℕ) → n < 100000000 → value_after 0 (eight_digits n) ≡ n
eight_value n lt =
    rw (without_48 (n / 10000000 % 10), without_48 (n / 1000000 % 10), without_48 (n / 100000 % 10), without_48 (n / 10000 % 10), without_48 (n / 1000 % 10), without_48 (n / 100 % 10), without_48 (n / 10 % 10), without_48 (n / 1 % 10)) (omega arith)

serial_read : (n : ℕ) → n ≤ 99999999 → IsSaid serial_of (eight_digits n) n
unfolding serial_of serial_said
serial_read n small rest = text_said serial_form 8 (eight_digits n) n refl (rw (eight_said n, eight_value n (omega arith)) refl) rest

not_point : (n : ℕ) → is_point (48 + n % 10) ≡ false
not_point n = grind arith

-- how many bytes a number has, by its point
number_sized : (decimals n : ℕ) (rest : List ℕ) → decimals ≤ 3 → number_size (pointed decimals (eight_digits n) ++ rest) ≡ length (pointed decimals (eight_digits n))
unfolding number_size decimals_of
number_sized zero n rest few = rw (not_point (n / 100), not_point (n / 10), not_point (n / 1)) refl
number_sized (suc zero) n rest few = rw (not_point (n / 100), not_point (n / 10)) refl
number_sized (suc (suc zero)) n rest few = rw (not_point (n / 100)) refl
number_sized (suc (suc (suc zero))) n rest few = refl
number_sized (suc (suc (suc (suc d)))) n rest few = absurd (omega arith)

number_form_said : (decimals n : ℕ) → decimals ≤ 3 → n < 100000000 → number_said (pointed decimals (eight_digits n)) ≡ Some (record { digits = n; decimals = decimals })
unfolding number_said number_size decimals_of digits_of
number_form_said zero n few small = rw (not_point (n / 100), not_point (n / 10), not_point (n / 1), eight_said n, eight_value n small) refl
number_form_said (suc zero) n few small = rw (not_point (n / 100), not_point (n / 10), eight_said n, eight_value n small) refl
number_form_said (suc (suc zero)) n few small = rw (not_point (n / 100), eight_said n, eight_value n small) refl
number_form_said (suc (suc (suc zero))) n few small = rw (eight_said n, eight_value n small) refl
number_form_said (suc (suc (suc (suc d)))) n few small = absurd (omega arith)

number_read : (decimals n : ℕ) → decimals ≤ 3 → n < 100000000 → IsSaid number_of (pointed decimals (eight_digits n)) (record { digits = n; decimals = decimals })
unfolding number_of
number_read decimals n few small rest =
    ap (λ size. text_of number_form size (pointed decimals (eight_digits n) ++ rest)) (number_sized decimals n rest few)
    ∙ text_said number_form (length (pointed decimals (eight_digits n))) (pointed decimals (eight_digits n)) (record { digits = n; decimals = decimals }) refl (number_form_said decimals n few small) rest

century : (y m d : ℕ) → IsCenturyDate y m d → is_century_date y m d ≡ true
century y m d date =
    rw (le-leb _ _ date.early, le-leb _ _ date.late, le-leb _ _ date.civil.1.0, le-leb _ _ date.civil.1.1, le-leb _ _ date.civil.2.0, le-leb _ _ date.civil.2.1) refl

date_said : (n y m d : ℕ) → IsDay n y m d → date_in (date_text y m d) ≡ Some n
date_said n y m d is =
    let late : y ≤ 2099 = is.date.late in
    let months : m ≤ 12 = is.date.civil.1.1 in
    let days : d ≤ 31 = omega (arith, is.date.civil.2.1, days_in_month_bounds (pos y) m) in
    let year : value_after 0 (take 4 (date_text y m d)) ≡ y = omega arith in
    let month : value_after 0 (take 2 (drop 5 (date_text y m d))) ≡ m = omega arith in
    let day : value_after 0 (drop 8 (date_text y m d)) ≡ d = omega arith in
    let form : is_date_form (date_text y m d) ≡ true =
    rw (tens (y / 100) (omega arith), digit (y / 100), tens (y % 100) (omega arith), digit (y % 100), tens m (omega arith), digit m, tens d (omega arith), digit d) refl in
    let of_century : day_in_century y m d ≡ Some n = ap (λ b. cond b (Some (day_number y m d)) None) (century y m d is.date) ∙ ap Some (sym is.counted) in
    ap (λ b. cond b (day_in_century (value_after 0 (take 4 (date_text y m d))) (value_after 0 (take 2 (drop 5 (date_text y m d)))) (value_after 0 (drop 8 (date_text y m d)))) None) form
    ∙ (λ i. day_in_century (year i) (month i) (day i))
    ∙ of_century

day_read : (n : ℕ) (text : List ℕ) → IsDayText n text → IsSaid day_of text (n, text)
unfolding day_of
day_read n text is rest =
    let said : date_in text ≡ Some n = ap date_in is.written ∙ date_said n is.year is.month is.day is.dated in
    text_said day_form 10 text (n, text) (ap length is.written) (ap (option_map (λ day. (day, text))) said) rest

same_as_itself : (text : List ℕ) → pointwise nat_eq text text ≡ true
same_as_itself [] = refl
same_as_itself (b ∷ bs) = rw (eq-eqb b b refl) (same_as_itself bs)

same_read : (text : List ℕ) → length text ≡ 10 → IsSaid (same_of text) text text
unfolding same_of
same_read text sized rest = text_said (same_form text) 10 text text sized (rw (same_as_itself text) refl) rest

-- ---- lines

shown_small : (z : ℤ) (unit : ℕ) → shown_digits z unit < 100000000
shown_small z unit = omega (arith, signed_arith)

energy_said : (c : Configuration) (r : Register) → IsConfiguration c → IsSaid number_of (energy_display c r) (energy_number c r)
energy_said c r is = number_read c.energy_decimals (energy_digits c r) is.energy_decimals (shown_small r.energy_mj (energy_unit c.energy_decimals))

volume_said : (c : Configuration) (r : Register) → IsConfiguration c → IsSaid number_of (volume_display c r) (volume_number c r)
volume_said c r is = number_read c.volume_decimals (volume_digits c r) is.volume_decimals (shown_small (pos (r.pulses * c.litres_per_pulse)) (volume_unit c.volume_decimals))

three_parts : (a b c rest : List ℕ) → (a ++ b ++ c) ++ rest ≡ a ++ (b ++ (c ++ rest))
three_parts a b c rest = simp append_assoc refl

five_parts : (a b c d e rest : List ℕ) → (a ++ b ++ c ++ d ++ e) ++ rest ≡ a ++ (b ++ (c ++ (d ++ (e ++ rest))))
five_parts a b c d e rest = simp append_assoc refl

six_parts : (a b c d e f rest : List ℕ) → (a ++ b ++ c ++ d ++ e ++ f) ++ rest ≡ a ++ (b ++ (c ++ (d ++ (e ++ (f ++ rest)))))
six_parts a b c d e f rest = simp append_assoc refl

entry_form : (mark : ℕ) (day energy volume rest : List ℕ) → (codes "6.8" ++ written.marked mark day ++ (codes "(" ++ energy ++ codes "*kWh)\r\n") ++ codes "6.26" ++ written.marked mark day ++ (codes "(" ++ volume ++ codes "*m3)\r\n")) ++ rest
    ≡ energy_opening mark ++ (day ++ (codes ")" ++ (codes "(" ++ (energy ++ (codes "*kWh)\r\n" ++ (volume_opening mark ++ (day ++ (codes ")" ++ (codes "(" ++ (volume ++ (codes "*m3)\r\n" ++ rest)))))))))))
entry_form mark day energy volume rest =
    let marked = written.marked mark day in
    let shown : List ℕ = codes "(" ++ energy ++ codes "*kWh)\r\n" in
    let read : List ℕ = codes "(" ++ volume ++ codes "*m3)\r\n" in
    let last : List ℕ = codes "(" ++ (volume ++ (codes "*m3)\r\n" ++ rest)) in
    let third : List ℕ = codes "6.26" ++ (codes "*" ++ (two_digits mark ++ (codes "(" ++ (day ++ (codes ")" ++ last))))) in
    six_parts (codes "6.8") marked shown (codes "6.26") marked read rest
    ∙ ap (λ (l : List ℕ). codes "6.8" ++ (marked ++ (shown ++ (codes "6.26" ++ (marked ++ l))))) (three_parts (codes "(") volume (codes "*m3)\r\n") rest)
    ∙ ap (λ (l : List ℕ). codes "6.8" ++ (marked ++ (shown ++ (codes "6.26" ++ l)))) (five_parts (codes "*") (two_digits mark) (codes "(") day (codes ")") last)
    ∙ ap (λ (l : List ℕ). codes "6.8" ++ (marked ++ l)) (three_parts (codes "(") energy (codes "*kWh)\r\n") third)
    ∙ ap (λ (l : List ℕ). codes "6.8" ++ l) (five_parts (codes "*") (two_digits mark) (codes "(") day (codes ")") (codes "(" ++ (energy ++ (codes "*kWh)\r\n" ++ third))))

abbrev shown_of : Configuration → ℕ → MonthEntry Register → Shown
shown_of c mark e = record { mark = mark; day = e.day; energy = energy_number c e.register; volume = volume_number c e.register }

entry_said : (c : Configuration) (mark : ℕ) (e : MonthEntry Register) (day rest : List ℕ) → IsConfiguration c → IsDayText e.day day → entry_of mark (entry_lines c e.register mark day ++ rest) ≡ Ok (shown_of c mark e, rest)
unfolding entry_of
entry_said c mark e day rest is dated =
    let energy = energy_display c e.register in
    let volume = volume_display c e.register in
    let sized : length day ≡ 10 = ap length dated.written in
    let last : List ℕ = codes "(" ++ (volume ++ (codes "*m3)\r\n" ++ rest)) in
    let third : List ℕ = volume_opening mark ++ (day ++ (codes ")" ++ last)) in
    let second : List ℕ = codes "(" ++ (energy ++ (codes "*kWh)\r\n" ++ third)) in
    ap (entry_of mark) (entry_form mark day energy volume rest)
    ∙ bound (between (energy_opening mark) day_of (codes ")") (energy_opening mark ++ (day ++ (codes ")" ++ second)))) ((e.day, day), second) _ (between_said (energy_opening mark) (codes ")") day day_of (e.day, day) second (day_read e.day day dated))
    ∙ bound (between (codes "(") number_of (codes "*kWh)\r\n") second) (energy_number c e.register, third) _ (between_said (codes "(") (codes "*kWh)\r\n") energy number_of (energy_number c e.register) third (energy_said c e.register is))
    ∙ bound (between (volume_opening mark) (same_of day) (codes ")") third) (day, last) _ (between_said (volume_opening mark) (codes ")") day (same_of day) day last (same_read day sized))
    ∙ bound (between (codes "(") number_of (codes "*m3)\r\n") last) (volume_number c e.register, rest) _ (between_said (codes "(") (codes "*m3)\r\n") volume number_of (volume_number c e.register) rest (volume_said c e.register is))

-- entries to the mark 25 at most, up to an exclamation mark
entries_said : (c : Configuration) (n mark : ℕ) (es : List (MonthEntry Register)) (text tail : List ℕ) → IsConfiguration c → n + mark ≡ 26 → length es ≤ n → AreEntryLines c mark es text → entries_of n (text ++ 33 ∷ tail) ≡ Ok (shown_from c mark es, 33 ∷ tail)
entries_said c zero mark [] text tail is sum few lines = ap (λ (l : List ℕ). entries_of 0 (l ++ 33 ∷ tail)) lines
entries_said c (suc n) mark [] text tail is sum few lines = ap (λ (l : List ℕ). entries_of (suc n) (l ++ 33 ∷ tail)) lines
entries_said c zero mark (e ∷ es) text tail is sum few lines = absurd (omega arith)
entries_said c (suc n) mark (e ∷ es) text tail is sum few lines =
    one_more lines.0 lines.1 lines.2 (entries_said c n (mark + 1) es lines.1 tail is (omega arith) (omega arith) lines.3) lines.4
  where
    one_more : (day rest : List ℕ) → IsDayText e.day day → entries_of n (rest ++ 33 ∷ tail) ≡ Ok (shown_from c (mark + 1) es, 33 ∷ tail) → text ≡ entry_lines c e.register mark day ++ rest → entries_of (suc n) (text ++ 33 ∷ tail) ≡ Ok (shown_from c mark (e ∷ es), 33 ∷ tail)
    one_more day rest dated behind_it whole =
        let at : 25 - n ≡ mark = omega arith in
        let first : entry_of (25 - n) (entry_lines c e.register mark day ++ (rest ++ 33 ∷ tail)) ≡ Ok (shown_of c mark e, rest ++ 33 ∷ tail) =
        ap (λ m. entry_of m (entry_lines c e.register mark day ++ (rest ++ 33 ∷ tail))) at ∙ entry_said c mark e day (rest ++ 33 ∷ tail) is dated in
        ap (λ (l : List ℕ). entries_of (suc n) (l ++ 33 ∷ tail)) whole
        ∙ ap (entries_of (suc n)) (append_assoc (entry_lines c e.register mark day) rest (33 ∷ tail))
        ∙ bound (entry_of (25 - n) (entry_lines c e.register mark day ++ (rest ++ 33 ∷ tail))) (shown_of c mark e, rest ++ 33 ∷ tail) _ first
        ∙ bound (entries_of n (rest ++ 33 ∷ tail)) (shown_from c (mark + 1) es, 33 ∷ tail) _ behind_it

marks_of_months : (c : Configuration) (months : List (MonthEntry Register)) (others tail : List ℕ) → AreEntryLines c 2 months others → marks_of (others ++ 33 ∷ tail) ≡ 24
unfolding marks_of
marks_of_months c [] others tail lines = ap (λ (l : List ℕ). marks_of (l ++ 33 ∷ tail)) lines
marks_of_months c (e ∷ es) others tail lines = ap (λ (l : List ℕ). marks_of (l ++ 33 ∷ tail)) lines.4

marks_of_set_day : (c : Configuration) (e : MonthEntry Register) (first more : List ℕ) → AreEntryLines c 1 (e ∷ []) first → marks_of (first ++ more) ≡ 25
unfolding marks_of
marks_of_set_day c e first more lines = ap (λ (l : List ℕ). marks_of (l ++ more)) lines.4

-- the entry of the set day, where there is one, and those of the months
set_day_and_months : (c : Configuration) (set_day : Option (MonthEntry Register)) (months : List (MonthEntry Register)) (first others tail : List ℕ) → IsConfiguration c → length months ≤ 24 → AreEntryLines c 1 (option_to_list set_day) first → AreEntryLines c 2 months others
    → entries_of (marks_of (first ++ others ++ 33 ∷ tail)) (first ++ others ++ 33 ∷ tail) ≡ Ok (shown_from c 1 (option_to_list set_day) ++ shown_from c 2 months, 33 ∷ tail)
set_day_and_months c None months first others tail is few set_day_lines lines =
    ap (λ (l : List ℕ). entries_of (marks_of (l ++ others ++ 33 ∷ tail)) (l ++ others ++ 33 ∷ tail)) set_day_lines
    ∙ ap (λ n. entries_of n (others ++ 33 ∷ tail)) (marks_of_months c months others tail lines)
    ∙ entries_said c 24 2 months others tail is (omega arith) few lines
set_day_and_months c (Some e) months first others tail is few set_day_lines lines =
    let joined : first ++ others ≡ entry_lines c e.register 1 set_day_lines.0 ++ others =
    ap (λ (l : List ℕ). l ++ others) (set_day_lines.4 ∙ ap (λ (l : List ℕ). entry_lines c e.register 1 set_day_lines.0 ++ l) set_day_lines.3 ∙ append-nil (entry_lines c e.register 1 set_day_lines.0)) in
    let marks : marks_of (first ++ others ++ 33 ∷ tail) ≡ 25 =
    ap marks_of (append_assoc first others (33 ∷ tail)) ∙ marks_of_set_day c e first (others ++ 33 ∷ tail) set_day_lines in
    ap (λ n. entries_of n (first ++ others ++ 33 ∷ tail)) marks
    ∙ entries_said c 25 1 (e ∷ months) (first ++ others) tail is (omega arith) (omega arith) (set_day_lines.0, others, set_day_lines.2, lines, joined)

-- ---- the message

eleven_parts : (a b c d e f g h i j k : List ℕ) → (a ++ b ++ c ++ d ++ e ++ f ++ g ++ h ++ i ++ j) ++ k ≡ a ++ (b ++ (c ++ (d ++ (e ++ (f ++ (g ++ h ++ (i ++ (j ++ k))))))))
eleven_parts a b c d e f g h i j k = simp append_assoc refl

first_form : (serial energy volume day set_day months : List ℕ) (check : ℕ)
    → 2 ∷ (codes "9.21(" ++ serial ++ codes ")\r\n" ++ codes "6.8" ++ (codes "(" ++ energy ++ codes "*kWh)\r\n") ++ codes "6.26" ++ (codes "(" ++ volume ++ codes "*m3)\r\n") ++ (codes "9.36(" ++ day ++ codes ")\r\n") ++ set_day ++ months ++ codes "!\r\n" ++ 3 ∷ []) ++ check ∷ []
    ≡ (2 ∷ codes "9.21(") ++ (serial ++ (codes ")\r\n" ++ (codes "6.8(" ++ (energy ++ (codes "*kWh)\r\n" ++ (codes "6.26(" ++ (volume ++ (codes "*m3)\r\n" ++ (codes "9.36(" ++ (day ++ (codes ")\r\n" ++ (set_day ++ months ++ 33 ∷ 13 ∷ 10 ∷ 3 ∷ check ∷ []))))))))))))
first_form serial energy volume day set_day months check =
    let rest : List ℕ = set_day ++ months ++ 33 ∷ 13 ∷ 10 ∷ 3 ∷ check ∷ [] in
    let serial_line : List ℕ = codes "9.21(" ++ serial ++ codes ")\r\n" in
    let shown : List ℕ = codes "(" ++ energy ++ codes "*kWh)\r\n" in
    let read : List ℕ = codes "(" ++ volume ++ codes "*m3)\r\n" in
    let fourth : List ℕ = codes "9.36(" ++ (day ++ (codes ")\r\n" ++ rest)) in
    let third : List ℕ = codes "6.26" ++ (codes "(" ++ (volume ++ (codes "*m3)\r\n" ++ fourth))) in
    let second : List ℕ = codes "6.8" ++ (codes "(" ++ (energy ++ (codes "*kWh)\r\n" ++ third))) in
    ap (λ (l : List ℕ). 2 ∷ l) (
    eleven_parts serial_line (codes "6.8") shown (codes "6.26") read (codes "9.36(" ++ day ++ codes ")\r\n") set_day months (codes "!\r\n") (3 ∷ []) (check ∷ [])
    ∙ ap (λ (l : List ℕ). serial_line ++ (codes "6.8" ++ (shown ++ (codes "6.26" ++ (read ++ l))))) (three_parts (codes "9.36(") day (codes ")\r\n") rest)
    ∙ ap (λ (l : List ℕ). serial_line ++ (codes "6.8" ++ (shown ++ (codes "6.26" ++ l)))) (three_parts (codes "(") volume (codes "*m3)\r\n") fourth)
    ∙ ap (λ (l : List ℕ). serial_line ++ (codes "6.8" ++ l)) (three_parts (codes "(") energy (codes "*kWh)\r\n") third)
    ∙ three_parts (codes "9.21(") serial (codes ")\r\n") second
    )

first_said : (c : Configuration) (r : Register) (n : ℕ) (day rest : List ℕ) → IsConfiguration c → IsDayText n day
    → first_lines ((2 ∷ codes "9.21(") ++ (eight_digits c.serial ++ (codes ")\r\n" ++ (codes "6.8(" ++ (energy_display c r ++ (codes "*kWh)\r\n" ++ (codes "6.26(" ++ (volume_display c r ++ (codes "*m3)\r\n" ++ (codes "9.36(" ++ (day ++ (codes ")\r\n" ++ rest))))))))))))
    ≡ Ok (record { serial = c.serial; energy = energy_number c r; volume = volume_number c r; day = n; entries = [] }, rest)
unfolding first_lines
first_said c r n day rest is dated =
    let fourth : List ℕ = codes "9.36(" ++ (day ++ (codes ")\r\n" ++ rest)) in
    let third : List ℕ = codes "6.26(" ++ (volume_display c r ++ (codes "*m3)\r\n" ++ fourth)) in
    let second : List ℕ = codes "6.8(" ++ (energy_display c r ++ (codes "*kWh)\r\n" ++ third)) in
    bound (between (2 ∷ codes "9.21(") serial_of (codes ")\r\n") ((2 ∷ codes "9.21(") ++ (eight_digits c.serial ++ (codes ")\r\n" ++ second)))) (c.serial, second) _ (between_said (2 ∷ codes "9.21(") (codes ")\r\n") (eight_digits c.serial) serial_of c.serial second (serial_read c.serial is.serial))
    ∙ bound (between (codes "6.8(") number_of (codes "*kWh)\r\n") second) (energy_number c r, third) _ (between_said (codes "6.8(") (codes "*kWh)\r\n") (energy_display c r) number_of (energy_number c r) third (energy_said c r is))
    ∙ bound (between (codes "6.26(") number_of (codes "*m3)\r\n") third) (volume_number c r, fourth) _ (between_said (codes "6.26(") (codes "*m3)\r\n") (volume_display c r) number_of (volume_number c r) fourth (volume_said c r is))
    ∙ bound (between (codes "9.36(") day_of (codes ")\r\n") fourth) ((n, day), rest) _ (between_said (codes "9.36(") (codes ")\r\n") day day_of (n, day) rest (day_read n day dated))

check_said : (counted : List ℕ) (check : ℕ) → check_before (2 ∷ counted ++ check ∷ []) 1 ≡ check_character counted
unfolding check_before
check_said counted check =
    let size : length (2 ∷ counted ++ check ∷ []) - 1 - 1 ≡ length counted = omega (arith, length-append counted (check ∷ [])) in
    ap check_character (ap (λ n. take n (counted ++ check ∷ [])) size ∙ take-append_seam counted (check ∷ []))

-- a message by its parts
lines_said : (bytes : List ℕ) (front : Message) (rest : List ℕ) (entries : List Shown) (check : ℕ) → first_lines bytes ≡ Ok (front, rest) → entries_of (marks_of rest) rest ≡ Ok (entries, 33 ∷ 13 ∷ 10 ∷ 3 ∷ check ∷ []) → check_before bytes 1 ≡ check → lines_of bytes ≡ Ok (with_entries front entries)
unfolding lines_of
lines_said bytes front rest entries check first others sum =
    let last : ends_with (check_before bytes 1) (check ∷ []) ≡ Ok tt = rw (eq-eqb check (check_before bytes 1) (sym sum)) refl in
    bound (first_lines bytes) (front, rest) _ first
    ∙ bound (entries_of (marks_of rest) rest) (entries, 33 ∷ 13 ∷ 10 ∷ 3 ∷ check ∷ []) _ others
    ∙ bound (behind (codes "!\r\n" ++ 3 ∷ []) (33 ∷ 13 ∷ 10 ∷ 3 ∷ check ∷ [])) (check ∷ []) (λ left. ends_with (check_before bytes (length left)) left >>= λ ended. Ok (with_entries front entries)) (behind_same (codes "!\r\n" ++ 3 ∷ []) (check ∷ []))
    ∙ bound (ends_with (check_before bytes 1) (check ∷ [])) tt (λ ended. Ok (with_entries front entries)) last

pub message_whole : (c : Configuration) (m : MeterRecord) (text : List ℕ) → IsConfiguration c → length m.months ≤ 24 → IsDataMessage c m text → message_in text ≡ Ok (message_said c m)
message_whole c m text is few message =
    let block = message.lines in
    let day = block.day in
    let serial = eight_digits c.serial in
    let energy = energy_display c m.register in
    let volume = volume_display c m.register in
    let check = check_character (checked message.block) in
    let bytes : List ℕ = 2 ∷ checked message.block ++ check ∷ [] in
    let rest : List ℕ = block.set_day ++ block.months ++ 33 ∷ 13 ∷ 10 ∷ 3 ∷ check ∷ [] in
    let fourth : List ℕ = codes "9.36(" ++ (day ++ (codes ")\r\n" ++ rest)) in
    let third : List ℕ = codes "6.26(" ++ (volume ++ (codes "*m3)\r\n" ++ fourth)) in
    let second : List ℕ = codes "6.8(" ++ (energy ++ (codes "*kWh)\r\n" ++ third)) in
    let form : bytes ≡ (2 ∷ codes "9.21(") ++ (serial ++ (codes ")\r\n" ++ second)) =
    ap (λ (l : List ℕ). 2 ∷ checked l ++ check ∷ []) block.is ∙ first_form serial energy volume day block.set_day block.months check in
    let first = first_said c m.register m.day day rest is block.day_text in
    let sum : check_before bytes 1 ≡ check = check_said (checked message.block) check in
    let front : Message = record { serial = c.serial; energy = energy_number c m.register; volume = volume_number c m.register; day = m.day; entries = [] } in
    let entries = set_day_and_months c m.set_day (reverse m.months) block.set_day block.months (13 ∷ 10 ∷ 3 ∷ check ∷ []) is (omega (arith, length-reverse m.months)) block.set_day_lines block.month_lines in
    ap message_in message.is
    ∙ ap (placed (length bytes)) (lines_said bytes front rest (shown_from c 1 (option_to_list m.set_day) ++ shown_from c 2 (reverse m.months)) check (ap first_lines form ∙ first) entries sum)
