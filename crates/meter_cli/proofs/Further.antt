-- The first bytes decide what data message bytes are, whatever follows them.
use Rattle.std.proofs.Common.{◌≡◌, ◌∙◌, ℕ, zero, suc, ◌+◌, ◌-◌, ◌*◌, ◌<◌, ◌≤◌, ◌==◌, Bool, true, false, if◌then◌else◌, nat_eq, List, [], ◌∷◌, ◌++◌, length, take, drop, Option, None, Some, Result, Ok, Err, refl, ap, subst, length-append, length-drop, arith}
use Rattle.std.specs.Prelude.{codes, nat_le, IfOk}
use Rattle.std.specs.List.{starts_with}
use Rattle.std.proofs.lemmas.Bool.{le-leb}
use Rattle.std.proofs.lemmas.List.{get_or_append_left, take-append-le, drop-append-le}
use Rattle.script_model.specs.Grammar.{◌>>=◌}
use Rattle.optical_model.specs.Messages.{check_character}
use Rattle.answer_lines.proofs.Said.{ok_both, ok_if}
use Rattle.reading_model.specs.Rules.{byte}
use Rattle.reading_model.specs.Fields.{Shown, Message}
use Rattle.reading_model.specs.Messages.{behind, Form, said_before, is_mended, text_of, serial_form, serial_of, number_form, number_size, decimals_of, number_of, day_form, day_of, same_form, same_of, Reader, between, first_lines, energy_opening, volume_opening, entry_of, onto_entries, entries_of, marks_of, ends_with, check_before, with_entries, lines_of, placed, message_in}

-- ---- what is said of bytes, and with more behind them

ok_weaker : {A : Type 0} (P Q : A → Type 0) (said : Result A ℕ) → IfOk said P → ((x : A) → P x → Q x) → IfOk said Q
ok_weaker P Q (Ok x) is weaker = weaker x is
ok_weaker P Q (Err left) is weaker = tt

ok_at : {A : Type 0} (P : A → Type 0) (said : Result A ℕ) (x : A) → IfOk said P → said ≡ Ok x → P x
ok_at {A} P said x is same = let Q : Result A ℕ → Type 0 = λ s. IfOk s P in subst Q same is

-- the same, where so many bytes are left behind what is said, and behind a place
grown : {A : Type 0} → (A → A) → ℕ → Result A ℕ → Result A ℕ
grown grow n (Ok x) = Ok (grow x)
grown grow n (Err left) = Err (left + n)

grown_on : {A B : Type 0} (grow : A → A) (grow_on : B → B) (n : ℕ) (said : Result A ℕ) (more more_on : A → Result B ℕ) → ((x : A) → said ≡ Ok x → more_on (grow x) ≡ grown grow_on n (more x))
    → (grown grow n said >>= more_on) ≡ grown grow_on n (said >>= more)
unfolding grown
grown_on grow grow_on n (Ok x) more more_on next = next x refl
grown_on grow grow_on n (Err left) more more_on next = refl

bound : {A B : Type 0} (grow : A → A) (grow_on : B → B) (n : ℕ) (said longer : Result A ℕ) (more more_on : A → Result B ℕ) → longer ≡ grown grow n said → ((x : A) → said ≡ Ok x → more_on (grow x) ≡ grown grow_on n (more x))
    → (longer >>= more_on) ≡ grown grow_on n (said >>= more)
bound grow grow_on n said longer more more_on is next = ap (λ s. s >>= more_on) is ∙ grown_on grow grow_on n said more more_on next

abbrev longer : {Said : Type 0} → List ℕ → Said × List ℕ → Said × List ℕ
longer more x = (x.0, x.1 ++ more)

-- a reader takes at most so many bytes, and where there are so many, what follows is left as it is
record Takes {Said : Type 0} (size : ℕ) (reader : Reader Said) : Type 0 where
  most : (bytes : List ℕ) → IfOk (reader bytes) (λ x. length bytes ≤ length x.1 + size)
  steady : (bytes more : List ℕ) → size ≤ length bytes → reader (bytes ++ more) ≡ grown (longer more) (length more) (reader bytes)

-- ---- fixed bytes

behind_most : (fixed bytes : List ℕ) → IfOk (behind fixed bytes) (λ rest. length bytes ≤ length rest + length fixed)
behind_most [] bytes = omega arith
behind_most (f ∷ fs) [] = tt
behind_most (f ∷ fs) (b ∷ bs) = by_test (b == f) (behind_most fs bs)
  where
    by_test : (same : Bool) → IfOk (behind fs bs) (λ rest. length bs ≤ length rest + length fs) → IfOk (if same then behind fs bs else Err (length (b ∷ bs))) (λ rest. length (b ∷ bs) ≤ length rest + length (f ∷ fs))
    by_test true others = ok_weaker (λ rest. length bs ≤ length rest + length fs) (λ rest. length (b ∷ bs) ≤ length rest + length (f ∷ fs)) (behind fs bs) others (λ rest le. omega arith)
    by_test false others = tt

behind_steady : (fixed bytes more : List ℕ) → length fixed ≤ length bytes → behind fixed (bytes ++ more) ≡ grown (λ rest. rest ++ more) (length more) (behind fixed bytes)
unfolding grown
behind_steady [] bytes more le = refl
behind_steady (f ∷ fs) [] more le = absurd (omega arith)
behind_steady (f ∷ fs) (b ∷ bs) more le = by_test (b == f) (behind_steady fs bs more (omega arith))
  where
    by_test : (same : Bool) → behind fs (bs ++ more) ≡ grown (λ rest. rest ++ more) (length more) (behind fs bs) → (if same then behind fs (bs ++ more) else Err (length (b ∷ (bs ++ more)))) ≡ grown (λ rest. rest ++ more) (length more) (if same then behind fs bs else Err (length (b ∷ bs)))
    by_test true others = others
    by_test false others = ap Err (length-append (b ∷ bs) more)

-- ---- texts

text_most : {Said : Type 0} (form : Form Said) (size : ℕ) (bytes : List ℕ) → IfOk (text_of form size bytes) (λ x. length bytes ≤ length x.1 + size)
unfolding text_of
text_most {Said} form size bytes = by_size (nat_le size (length bytes))
  where
    enough : length bytes ≤ length (drop size bytes) + size
    enough = omega (arith, length-drop size bytes)

    by_said : (said : Option Said) → IfOk (said_before said (drop size bytes) (length bytes)) (λ x. length bytes ≤ length x.1 + size)
    by_said None = tt
    by_said (Some x) = enough

    by_end : (mended : Bool) → IfOk {T = Said × List ℕ} (if mended then Err 0 else Err (length bytes)) (λ x. length bytes ≤ length x.1 + size)
    by_end true = tt
    by_end false = tt

    by_size : (there : Bool) → IfOk (if there then said_before (form.said (take size bytes)) (drop size bytes) (length bytes) else (if is_mended form bytes then Err 0 else Err (length bytes))) (λ x. length bytes ≤ length x.1 + size)
    by_size true = by_said (form.said (take size bytes))
    by_size false = by_end (is_mended form bytes)

text_steady : {Said : Type 0} (form : Form Said) (size : ℕ) (bytes more : List ℕ) → size ≤ length bytes → text_of form size (bytes ++ more) ≡ grown (longer more) (length more) (text_of form size bytes)
unfolding text_of grown
text_steady {Said} form size bytes more le =
    let there : nat_le size (length bytes) ≡ true = le-leb size (length bytes) le in
    let there_too : nat_le size (length (bytes ++ more)) ≡ true = le-leb size (length (bytes ++ more)) (omega (arith, length-append bytes more)) in
    rw (there_too, there, take-append-le size bytes more le, drop-append-le size bytes more le) (by_said (form.said (take size bytes)))
  where
    by_said : (said : Option Said) → said_before said (drop size bytes ++ more) (length (bytes ++ more)) ≡ grown (longer more) (length more) (said_before said (drop size bytes) (length bytes))
    by_said None = ap Err (length-append bytes more)
    by_said (Some x) = refl

serial_takes : Takes 8 serial_of
unfolding serial_of
serial_takes = record { most = text_most serial_form 8; steady = text_steady serial_form 8 }

day_takes : Takes 10 day_of
unfolding day_of
day_takes = record { most = text_most day_form 10; steady = text_steady day_form 10 }

same_takes : (before : List ℕ) → Takes 10 (same_of before)
unfolding same_of
same_takes before = record { most = text_most (same_form before) 10; steady = text_steady (same_form before) 10 }

eight_or_nine : (b : Bool) → (if b then 8 else 9) ≤ 9
eight_or_nine true = omega arith
eight_or_nine false = omega arith

pub number_size-most : (text : List ℕ) → number_size text ≤ 9
unfolding number_size
number_size-most text = eight_or_nine (decimals_of text == 0)

same_decimals : (bytes more : List ℕ) → 9 ≤ length bytes → decimals_of (bytes ++ more) ≡ decimals_of bytes
unfolding decimals_of
same_decimals bytes more le =
    let same : (k : ℕ) → k < 9 → byte (bytes ++ more) k ≡ byte bytes k = λ k lt. get_or_append_left bytes more 0 k (omega arith) in
    rw (same 5 (omega arith), same 6 (omega arith), same 7 (omega arith)) refl

number_takes : Takes 9 number_of
unfolding number_of number_size
number_takes = record {
  most = λ bytes. ok_weaker (λ x. length bytes ≤ length x.1 + number_size bytes) (λ x. length bytes ≤ length x.1 + 9) (number_of bytes) (text_most number_form (number_size bytes) bytes) (λ x le. omega (arith, number_size-most bytes));
  steady = λ bytes more le.
      ap (λ n. text_of number_form (if n == 0 then 8 else 9) (bytes ++ more)) (same_decimals bytes more le)
      ∙ text_steady number_form (number_size bytes) bytes more (omega (arith, number_size-most bytes));
}

-- ---- what stands between fixed bytes

between_takes : {Said : Type 0} (opening closing : List ℕ) (size : ℕ) (reader : Reader Said) → Takes size reader → Takes (length opening + size + length closing) (between opening reader closing)
unfolding grown
between_takes {Said} opening closing size reader takes = record {
  most = λ bytes. ok_both (λ inner. length bytes ≤ length inner + length opening) (left bytes) (behind opening bytes) _ (behind_most opening bytes)
      (λ inner first. ok_both (λ x. length inner ≤ length x.1 + size) (left bytes) (reader inner) _ (takes.most inner)
      (λ x second. ok_both (λ rest. length x.1 ≤ length rest + length closing) (left bytes) (behind closing x.1) _ (behind_most closing x.1)
      (λ rest third. omega arith)));
  steady = λ bytes more le.
      bound (λ inner. inner ++ more) (longer more) (length more) (behind opening bytes) (behind opening (bytes ++ more)) _ _ (behind_steady opening bytes more (omega arith))
      (λ inner is. bound (longer more) (longer more) (length more) (reader inner) (reader (inner ++ more)) _ _ (takes.steady inner more (omega (arith, first bytes inner is)))
      (λ x said. bound (λ rest. rest ++ more) (longer more) (length more) (behind closing x.1) (behind closing (x.1 ++ more)) _ _ (behind_steady closing x.1 more (omega (arith, first bytes inner is, second inner x said)))
      (λ rest ends. done x rest more)));
}
  where
    left : List ℕ → Said × List ℕ → Type 0
    left bytes x = length bytes ≤ length x.1 + (length opening + size + length closing)

    first : (bytes inner : List ℕ) → behind opening bytes ≡ Ok inner → length bytes ≤ length inner + length opening
    first bytes inner is = ok_at (λ rest. length bytes ≤ length rest + length opening) (behind opening bytes) inner (behind_most opening bytes) is

    second : (inner : List ℕ) (x : Said × List ℕ) → reader inner ≡ Ok x → length inner ≤ length x.1 + size
    second inner x is = ok_at (λ y. length inner ≤ length y.1 + size) (reader inner) x (takes.most inner) is

    done : (x : Said × List ℕ) (rest more : List ℕ) → Ok (x.0, rest ++ more) ≡ grown (longer more) (length more) (Ok (x.0, rest))
    done x rest more = refl

-- ---- lines

then_most : {A B : Type 0} (size size_on : ℕ) (bytes : List ℕ) (said : Result (A × List ℕ) ℕ) (more : A × List ℕ → Result (B × List ℕ) ℕ) → IfOk said (λ x. length bytes ≤ length x.1 + size) → ((x : A × List ℕ) → IfOk (more x) (λ y. length x.1 ≤ length y.1 + size_on))
    → IfOk (said >>= more) (λ y. length bytes ≤ length y.1 + (size + size_on))
then_most {A} {B} size size_on bytes said more first next =
    ok_both (λ x. length bytes ≤ length x.1 + size) (λ y. length bytes ≤ length y.1 + (size + size_on)) said more first
    (λ x le. ok_weaker (λ y. length x.1 ≤ length y.1 + size_on) (λ y. length bytes ≤ length y.1 + (size + size_on)) (more x) (next x) (λ y le_on. omega arith))

-- one reader, and then one that knows what the first says
then_takes : {A B : Type 0} (size size_on : ℕ) (reader : Reader A) (more : A → Reader B) → Takes size reader → ((a : A) → Takes size_on (more a)) → Takes (size + size_on) (λ bytes. reader bytes >>= λ x. more x.0 x.1)
unfolding grown
then_takes {A} {B} size size_on reader more first next = record {
  most = λ bytes. then_most size size_on bytes (reader bytes) (λ x. more x.0 x.1) (first.most bytes) (λ x. (next x.0).most x.1);
  steady = λ bytes behind_it le.
      bound (longer behind_it) (longer behind_it) (length behind_it) (reader bytes) (reader (bytes ++ behind_it)) _ _ (first.steady bytes behind_it (omega arith))
      (λ x is. (next x.0).steady x.1 behind_it (omega (arith, left_over bytes x is)));
}
  where
    left_over : (bytes : List ℕ) (x : A × List ℕ) → reader bytes ≡ Ok x → length bytes ≤ length x.1 + size
    left_over bytes x is = ok_at (λ y. length bytes ≤ length y.1 + size) (reader bytes) x (first.most bytes) is

said_takes : {A : Type 0} (a : A) → Takes 0 (λ bytes. Ok (a, bytes))
unfolding grown
said_takes a = record { most = λ bytes. omega arith; steady = λ bytes more le. refl }

first_takes : Takes 75 first_lines
unfolding first_lines
first_takes =
    then_takes 17 58 (between (2 ∷ codes "9.21(") serial_of (codes ")\r\n")) _ (between_takes (2 ∷ codes "9.21(") (codes ")\r\n") 8 serial_of serial_takes)
    (λ serial. then_takes 20 38 (between (codes "6.8(") number_of (codes "*kWh)\r\n")) _ (between_takes (codes "6.8(") (codes "*kWh)\r\n") 9 number_of number_takes)
    (λ energy. then_takes 20 18 (between (codes "6.26(") number_of (codes "*m3)\r\n")) _ (between_takes (codes "6.26(") (codes "*m3)\r\n") 9 number_of number_takes)
    (λ volume. then_takes 18 0 (between (codes "9.36(") day_of (codes ")\r\n")) (λ day rest. Ok (record { serial = serial; energy = energy; volume = volume; day = day.0; entries = [] }, rest)) (between_takes (codes "9.36(") (codes ")\r\n") 10 day_of day_takes)
    (λ day. said_takes (record { serial = serial; energy = energy; volume = volume; day = day.0; entries = [] })))))

entry_takes : (mark : ℕ) → Takes 70 (entry_of mark)
unfolding entry_of
entry_takes mark =
    then_takes 18 52 (between (energy_opening mark) day_of (codes ")")) _ (between_takes (energy_opening mark) (codes ")") 10 day_of day_takes)
    (λ day. then_takes 17 35 (between (codes "(") number_of (codes "*kWh)\r\n")) _ (between_takes (codes "(") (codes "*kWh)\r\n") 9 number_of number_takes)
    (λ energy. then_takes 19 16 (between (volume_opening mark) (same_of day.1) (codes ")")) _ (between_takes (volume_opening mark) (codes ")") 10 (same_of day.1) (same_takes day.1))
    (λ same. then_takes 16 0 (between (codes "(") number_of (codes "*m3)\r\n")) (λ volume rest. Ok (record { mark = mark; day = day.0; energy = energy; volume = volume }, rest)) (between_takes (codes "(") (codes "*m3)\r\n") 9 number_of number_takes)
    (λ volume. said_takes (record { mark = mark; day = day.0; energy = energy; volume = volume })))))

-- ---- entries

if_steady : {A : Type 0} (b : Bool) (grow : A → A) (n : ℕ) (said other said_on other_on : Result A ℕ) → said_on ≡ grown grow n said → other_on ≡ grown grow n other → (if b then said_on else other_on) ≡ grown grow n (if b then said else other)
if_steady true grow n said other said_on other_on first second = first
if_steady false grow n said other said_on other_on first second = second

onto_takes : (n : ℕ) → Takes (70 * n) (entries_of n) → (first : Shown) → Takes (70 * n) (λ bytes. entries_of n bytes >>= λ others. onto_entries first others)
unfolding grown
onto_takes n others first = record {
  most = λ bytes. ok_both (λ x. length bytes ≤ length x.1 + 70 * n) (λ x. length bytes ≤ length x.1 + 70 * n) (entries_of n bytes) (onto_entries first) (others.most bytes) (λ x le. le);
  steady = λ bytes more le. bound (longer more) (longer more) (length more) (entries_of n bytes) (entries_of n (bytes ++ more)) (onto_entries first) (onto_entries first) (others.steady bytes more le) (λ x is. refl);
}

entries_take : (n : ℕ) → Takes (70 * n) (entries_of n)
unfolding grown
entries_take zero = record { most = λ bytes. omega arith; steady = λ bytes more le. refl }
entries_take (suc n) =
    let rest = then_takes 70 (70 * n) (entry_of (25 - n)) (λ first bytes. entries_of n bytes >>= λ others. onto_entries first others) (entry_takes (25 - n)) (onto_takes n (entries_take n)) in
    record {
      most = λ bytes. ok_if (λ x. length bytes ≤ length x.1 + 70 * suc n) (byte bytes 0 == 33) (Ok ([], bytes)) _ (omega arith)
          (ok_weaker (λ x. length bytes ≤ length x.1 + (70 + 70 * n)) (λ x. length bytes ≤ length x.1 + 70 * suc n) (entry_of (25 - n) bytes >>= λ first. entries_of n first.1 >>= λ others. onto_entries first.0 others) (rest.most bytes) (λ x le. omega arith));
      steady = λ bytes more le.
          let same : byte (bytes ++ more) 0 ≡ byte bytes 0 = get_or_append_left bytes more 0 0 (omega arith) in
          ap (λ b. if b == 33 then Ok ([], bytes ++ more) else entry_of (25 - n) (bytes ++ more) >>= λ first. entries_of n first.1 >>= λ others. onto_entries first.0 others) same
          ∙ if_steady (byte bytes 0 == 33) (longer more) (length more) (Ok ([], bytes)) _ (Ok ([], bytes ++ more)) _ refl (rest.steady bytes more (omega arith));
    }

marks_few : (bytes : List ℕ) → marks_of bytes ≤ 25
unfolding marks_of
marks_few bytes = by_test (starts_with nat_eq bytes (codes "6.8*01"))
  where
    by_test : (b : Bool) → (if b then 25 else 24) ≤ 25
    by_test true = omega arith
    by_test false = omega arith

same_marks : (bytes more : List ℕ) → 6 ≤ length bytes → marks_of (bytes ++ more) ≡ marks_of bytes
unfolding marks_of
same_marks bytes more le = rw (take-append-le 6 bytes more le) refl

-- ---- the message

same_check : (bytes more : List ℕ) (left : ℕ) → 1 ≤ length bytes → check_before (bytes ++ more) (left + length more) ≡ check_before bytes left
unfolding check_before
same_check bytes more left some =
    let size : length (bytes ++ more) - 1 - (left + length more) ≡ length bytes - 1 - left = omega (arith, length-append bytes more) in
    let within : length bytes - 1 - left ≤ length (drop 1 bytes) = omega (arith, length-drop 1 bytes) in
    ap check_character (
    ap (λ n. take n (drop 1 (bytes ++ more))) size
    ∙ ap (take (length bytes - 1 - left)) (drop-append-le 1 bytes more some)
    ∙ take-append-le (length bytes - 1 - left) (drop 1 bytes) more within
    )

-- two bytes at least are one too many
too_many : (check : ℕ) (rest more : List ℕ) (said : Message) → 2 ≤ length rest
    → (ends_with check (rest ++ more) >>= λ ended. Ok said) ≡ grown (λ (m : Message). m) (length more) (ends_with check rest >>= λ ended. Ok said)
unfolding grown
too_many check [] more said many = absurd (omega arith)
too_many check (b ∷ []) more said many = absurd (omega arith)
too_many check (b ∷ c ∷ cs) more said many = by_test (b == check) (length (c ∷ cs) == 0) (length (c ∷ cs ++ more) == 0) (Ok tt) (grind arith) (grind arith)
  where
    by_test : (same one one_on : Bool) (whole : Result (Unit {0}) ℕ) → one ≡ false → one_on ≡ false
        → ((if same then (if one_on then whole else Err (length (c ∷ cs ++ more))) else Err (length (b ∷ c ∷ cs ++ more))) >>= λ ended. Ok said)
        ≡ grown (λ (m : Message). m) (length more) ((if same then (if one then whole else Err (length (c ∷ cs))) else Err (length (b ∷ c ∷ cs))) >>= λ ended. Ok said)
    by_test true one one_on whole none none_on = rw (none, none_on) (ap Err (length-append (c ∷ cs) more))
    by_test false one one_on whole none none_on = ap Err (length-append (b ∷ c ∷ cs) more)

lines_steady : (bytes more : List ℕ) → 2049 ≤ length bytes → lines_of (bytes ++ more) ≡ grown (λ (m : Message). m) (length more) (lines_of bytes)
unfolding lines_of
lines_steady bytes more many =
    bound (longer more) (λ (m : Message). m) (length more) (first_lines bytes) (first_lines (bytes ++ more)) _ _ (first_takes.steady bytes more (omega arith))
    (λ first is.
    let left : length bytes ≤ length first.1 + 75 = ok_at (λ (x : Message × List ℕ). length bytes ≤ length x.1 + 75) (first_lines bytes) first (first_takes.most bytes) is in
    let marks = marks_of first.1 in
    let few : marks ≤ 25 = marks_few first.1 in
    bound (longer more) (λ (m : Message). m) (length more) (entries_of marks first.1) (entries_of (marks_of (first.1 ++ more)) (first.1 ++ more)) _ _
    (ap (λ n. entries_of n (first.1 ++ more)) (same_marks first.1 more (omega arith)) ∙ (entries_take marks).steady first.1 more (omega arith))
    (λ entries said.
    let left_on : length first.1 ≤ length entries.1 + 70 * marks = ok_at (λ (x : List Shown × List ℕ). length first.1 ≤ length x.1 + 70 * marks) (entries_of marks first.1) entries ((entries_take marks).most first.1) said in
    bound (λ rest. rest ++ more) (λ (m : Message). m) (length more) (behind (codes "!\r\n" ++ 3 ∷ []) entries.1) (behind (codes "!\r\n" ++ 3 ∷ []) (entries.1 ++ more)) _ _ (behind_steady (codes "!\r\n" ++ 3 ∷ []) entries.1 more (omega arith))
    (λ rest ends.
    let left_last : length entries.1 ≤ length rest + 4 = ok_at (λ (r : List ℕ). length entries.1 ≤ length r + 4) (behind (codes "!\r\n" ++ 3 ∷ []) entries.1) rest (behind_most (codes "!\r\n" ++ 3 ∷ []) entries.1) ends in
    ap (λ check. ends_with check (rest ++ more) >>= λ ended. Ok (with_entries first.0 entries.0)) (ap (check_before (bytes ++ more)) (length-append rest more) ∙ same_check bytes more (length rest) (omega arith))
    ∙ too_many (check_before bytes (length rest)) rest more (with_entries first.0 entries.0) (omega arith))))

placed_grown : (size n : ℕ) (said : Result Message ℕ) → placed (size + n) (grown (λ (m : Message). m) n said) ≡ placed size said
unfolding grown
placed_grown size n (Ok m) = refl
placed_grown size n (Err left) =
    let same : size + n - (left + n) ≡ size - left = omega arith in
    ap Err same

-- whatever follows 2,049 bytes
pub further_message : (bytes more : List ℕ) → 2049 ≤ length bytes → message_in (bytes ++ more) ≡ message_in bytes
further_message bytes more many =
    ap (placed (length (bytes ++ more))) (lines_steady bytes more many)
    ∙ ap (λ n. placed n (grown (λ (m : Message). m) (length more) (lines_of bytes))) (length-append bytes more)
    ∙ placed_grown (length bytes) (length more) (lines_of bytes)
