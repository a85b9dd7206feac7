-- What telegrams say is in range.
use Rattle.std.proofs.Common.{◌≡◌, inl, inr, ◌∙◌, ℕ, zero, suc, ◌+◌, ◌-◌, ◌*◌, ◌/◌, ◌%◌, ◌^◌, ◌≤◌, ◌<◌, ◌==◌, ◌&&◌, ◌||◌, Bool, true, false, if◌then◌else◌, pos, ℤ, List, [], ◌∷◌, length, take, drop, drop-cons, Option, None, Some, Result, Ok, Err, refl, sym, ap, subst, arith}
use Rattle.std.specs.Prelude.{IfOk, IfSome, nat_le, min}
use Rattle.std.specs.List.{All, list_all}
use Rattle.std.proofs.lemmas.Bool.{cases_Bool, leb-true, and_parts}
use Rattle.std.proofs.lemmas.List.Elements.{All-nil, All-cons}
use Rattle.calendar_model.specs.Calendar.{last_day}
use Rattle.calendar_model.proofs.DayLemmas.{day_number-civil}
use Rattle.script_model.specs.Grammar.{◌>>=◌}
use Rattle.script_model.specs.Dates.{is_century_date, day_in_century}
use Rattle.billing_memory.proofs.Dates.{is_century_date-iff}
use Rattle.parts_model.specs.Ranges.{is_capital}
use Rattle.frame_model.specs.Frames.{checksum}
use Rattle.reading_model.specs.Rules.{Rule, rule, first_broken, unless_broken, byte}
use Rattle.reading_model.specs.Fields.{Kind, Energy, Volume, FlowTemp, ReturnTemp, Difference, Date, Reading, Telegram}
use Rattle.reading_model.specs.Records.{Coding, Integer16, Integer32, Decimal8, is_integer16, said_at, fitting_coding, extension, information_size, quantity, is_among, is_decimal, date_of, value_in, record_in, record_size, is_mark, records_in}
use Rattle.reading_model.specs.Telegrams.{counted_size, counted, start_rules, end_rules, link_rules, serial_rules, kind_rules, decimal_number, maker_in, record_bytes, with_records, telegram_in}
use Rattle.answer_lines.proofs.Said.{ok_any, ok_both, ok_if}
use Rattle.answer_lines.specs.ReadLines.{IsDayNumber, IsDated, IsReadable}

-- ---- what is said, where something is

ok_said : {A : Type 0} (P : A → Type 0) (said : Option A) (bytes : List ℕ) → IfSome said P → IfOk (said_at said bytes) P
ok_said P None bytes some = tt
ok_said P (Some x) bytes some = some

-- ---- dates

some_if : (P : Kind × ℤ → Type 0) (b : Bool) (said other : Option (Kind × ℤ)) → IfSome said P → IfSome other P → IfSome (if b then said else other) P
some_if P true said other first second = first
some_if P false said other first second = second

some_date : (b c : Bool) → IfSome {T = Kind × ℤ} (if b && c then Some (Date, pos 0) else None) (λ q. q.0 ≡ Date → c ≡ true)
some_date true true = λ is. refl
some_date true false = tt
some_date false c = tt

-- a date is of 16 bits
some_quantity : (coding : Coding) (vif : ℕ) → IfSome (quantity coding vif) (λ q. q.0 ≡ Date → is_integer16 coding ≡ true)
some_quantity coding vif =
    let P : Kind × ℤ → Type 0 = λ q. q.0 ≡ Date → is_integer16 coding ≡ true in
    some_if P (nat_le vif 7) _ _ (λ is. absurd cc)
    (some_if P (is_among 16 23 vif) _ _ (λ is. absurd cc)
    (some_if P (is_among 88 91 vif) _ _ (λ is. absurd cc)
    (some_if P (is_among 92 95 vif) _ _ (λ is. absurd cc)
    (some_if P (is_among 96 99 vif) _ _ (λ is. absurd cc)
    (some_date (vif == 108) (is_integer16 coding))))))

some_day : (y m d : ℕ) → IfSome (day_in_century y m d) (λ day. day ≤ last_day)
some_day y m d = elim (cases_Bool (is_century_date y m d)) [
  | inl is ↦ rw is ((day_number-civil y m d ((is_century_date-iff y m d).0 is)).1)
  | inr not ↦ rw not tt
]

ok_value : (kind : Kind) (coding : Coding) (bytes : List ℕ) → (kind ≡ Date → is_integer16 coding ≡ true) → IfOk (value_in kind coding bytes) (λ value. kind ≡ Date → IsDayNumber value)
ok_value Energy Integer16 bytes short = λ is. absurd cc
ok_value Volume Integer16 bytes short = λ is. absurd cc
ok_value FlowTemp Integer16 bytes short = λ is. absurd cc
ok_value ReturnTemp Integer16 bytes short = λ is. absurd cc
ok_value Difference Integer16 bytes short = λ is. absurd cc
ok_value Date Integer16 bytes short =
    ok_both (λ day. day ≤ last_day) (λ value. Date ≡ Date → IsDayNumber value) (said_at (date_of (byte bytes 0) (byte bytes 1)) bytes) _
    (ok_said (λ day. day ≤ last_day) (date_of (byte bytes 0) (byte bytes 1)) bytes (some_day (2000 + byte bytes 0 / 32 + 8 * (byte bytes 1 / 16)) (byte bytes 1 % 16) (byte bytes 0 % 32)))
    (λ day le is. (day, refl, le))
ok_value kind Integer32 bytes short = λ is. absurd (none (short is))
  where
    none : false ≡ true → ⊥
    none h = cc
ok_value kind Decimal8 bytes short =
    never (value_in kind Decimal8 bytes) (λ is. none (short is))
  where
    none : false ≡ true → ⊥
    none h = cc

    never : (said : Result ℤ ℕ) → (kind ≡ Date → ⊥) → IfOk said (λ value. kind ≡ Date → IsDayNumber value)
    never (Ok value) other = λ is. absurd (other is)
    never (Err left) other = tt

ok_record : (bytes : List ℕ) → IfOk (record_in bytes) IsDated
unfolding record_in
ok_record bytes =
    let unit = information_size (byte bytes 0) in
    ok_both (λ x. Unit {0}) IsDated (said_at (fitting_coding bytes) bytes) _ (ok_any (said_at (fitting_coding bytes) bytes))
    (λ coding some. ok_both (λ x. Unit {0}) IsDated (said_at (extension bytes) (drop 1 bytes)) _ (ok_any (said_at (extension bytes) (drop 1 bytes)))
    (λ dife some. ok_both (λ q. q.0 ≡ Date → is_integer16 coding ≡ true) IsDated (said_at (quantity coding (byte bytes unit)) (drop unit bytes)) _ (ok_said (λ q. q.0 ≡ Date → is_integer16 coding ≡ true) (quantity coding (byte bytes unit)) (drop unit bytes) (some_quantity coding (byte bytes unit)))
    (λ q short. ok_both (λ value. q.0 ≡ Date → IsDayNumber value) IsDated (value_in q.0 coding (drop (unit + 1) bytes)) _ (ok_value q.0 coding (drop (unit + 1) bytes) short)
    (λ value is. is))))

abbrev AllDated : List Reading × Bool → Type 0
AllDated records = All IsDated records.0

ok_records : (behind : ℕ) (bytes : List ℕ) → IfOk (records_in behind bytes) AllDated
ok_records zero [] = All-nil IsDated
ok_records (suc k) [] = All-nil IsDated
ok_records (suc k) (b ∷ bs) = ok_records k bs
ok_records zero (b ∷ bs) =
    ok_if AllDated (is_mark (b ∷ bs)) (Ok ([], true)) _ (All-nil IsDated)
    (ok_both IsDated AllDated (record_in (b ∷ bs)) _ (ok_record (b ∷ bs))
    (λ first dated. ok_both AllDated AllDated (records_in (record_size b - 1) bs) _ (ok_records (record_size b - 1) bs)
    (λ others all. All-cons IsDated first others.0 dated all)))

-- ---- telegrams

ok_unless : {A : Type 0} (P : A → Type 0) (broken : Option ℕ) (said : Result A ℕ) → (broken ≡ None → IfOk said P) → IfOk (unless_broken broken said) P
ok_unless P None said kept = kept refl
ok_unless P (Some at) said kept = tt

none_broken : (r : Rule) (rs : List Rule) → first_broken (r ∷ rs) ≡ None → (r.kept ≡ true) × (first_broken rs ≡ None)
none_broken r rs is = by_test r.kept is
  where
    by_test : (b : Bool) → (if b then first_broken rs else Some r.at) ≡ None → (b ≡ true) × (first_broken rs ≡ None)
    by_test true rest = (refl, rest)
    by_test false some = absurd cc

digits_of : (b : ℕ) → is_decimal b ≡ true → (b % 16 ≤ 9) × (b / 16 ≤ 9)
digits_of b is =
    let h = and_parts (nat_le (b % 16) 9) (nat_le (b / 16) 9) is in
    (leb-true _ _ h.0, leb-true _ _ h.1)

below : (a b c d e f g h : ℕ) → a ≤ 9 → b ≤ 9 → c ≤ 9 → d ≤ 9 → e ≤ 9 → f ≤ 9 → g ≤ 9 → h ≤ 9 → a + 10 * b + 100 * (c + 10 * d + 100 * (e + 10 * f + 100 * (g + 10 * h + 100 * 0))) < 10 ^ 8
below a b c d e f g h i j k l m n o p = omega arith

-- bytes from a place on
from : (bytes : List ℕ) (at count : ℕ) → at < length bytes → take (suc count) (drop at bytes) ≡ byte bytes at ∷ take count (drop (at + 1) bytes)
from bytes at count there =
    let next : suc at ≡ at + 1 = omega arith in
    ap (take (suc count)) (drop-cons bytes at 0 there) ∙ ap (λ n. byte bytes at ∷ take count (drop n bytes)) next

serial_bytes : (bytes : List ℕ) → 11 ≤ length bytes → take 4 (drop 7 bytes) ≡ byte bytes 7 ∷ byte bytes 8 ∷ byte bytes 9 ∷ byte bytes 10 ∷ []
serial_bytes bytes there =
    from bytes 7 3 (omega arith)
    ∙ ap (λ (l : List ℕ). byte bytes 7 ∷ l) (from bytes 8 2 (omega arith))
    ∙ ap (λ (l : List ℕ). byte bytes 7 ∷ byte bytes 8 ∷ l) (from bytes 9 1 (omega arith))
    ∙ ap (λ (l : List ℕ). byte bytes 7 ∷ byte bytes 8 ∷ byte bytes 9 ∷ l) (from bytes 10 0 (omega arith))

serial_below : (bytes : List ℕ) → 11 ≤ length bytes → first_broken (serial_rules bytes) ≡ None → decimal_number (take 4 (drop 7 bytes)) < 10 ^ 8
serial_below bytes there kept =
    let r8 = rule 8 (is_decimal (byte bytes 8)) in
    let r9 = rule 9 (is_decimal (byte bytes 9)) in
    let r10 = rule 10 (is_decimal (byte bytes 10)) in
    let first = none_broken (rule 7 (is_decimal (byte bytes 7))) (r8 ∷ r9 ∷ r10 ∷ []) kept in
    let second = none_broken r8 (r9 ∷ r10 ∷ []) first.1 in
    let third = none_broken r9 (r10 ∷ []) second.1 in
    let fourth = none_broken r10 [] third.1 in
    let a = digits_of (byte bytes 7) first.0 in
    let b = digits_of (byte bytes 8) second.0 in
    let c = digits_of (byte bytes 9) third.0 in
    let d = digits_of (byte bytes 10) fourth.0 in
    subst (λ n. n < 10 ^ 8) (ap decimal_number (sym (serial_bytes bytes there))) (below _ _ _ _ _ _ _ _ a.0 a.1 b.0 b.1 c.0 c.1 d.0 d.1)

-- capital letters are in ASCII
letter_below : (letter : ℕ) → is_capital letter ≡ true → letter < 128
letter_below letter is = grind arith

letters_below : (letters : List ℕ) → list_all is_capital letters ≡ true → All (λ letter. letter < 128) letters
letters_below [] all = All-nil (λ letter. letter < 128)
letters_below (l ∷ ls) all =
    let h = and_parts (is_capital l) (list_all is_capital ls) all in
    All-cons (λ letter. letter < 128) l ls (letter_below l h.0) (letters_below ls h.1)

long_enough : (bytes : List ℕ) → first_broken (start_rules bytes) ≡ None → first_broken (end_rules bytes) ≡ None → 11 ≤ length bytes
long_enough bytes first ended =
    let r1 = rule 1 (nat_le 15 (counted_size bytes)) in
    let later = rule 2 (byte bytes 2 == counted_size bytes) ∷ rule 3 (byte bytes 3 == 104) ∷ [] in
    let ends = rule (counted_size bytes + 4) (byte bytes (counted_size bytes + 4) == checksum (counted bytes)) ∷ rule (counted_size bytes + 5) (byte bytes (counted_size bytes + 5) == 22) ∷ [] in
    let start = none_broken (rule 0 (byte bytes 0 == 104)) (r1 ∷ later) first in
    let many = leb-true 15 (counted_size bytes) (none_broken r1 later start.1).0 in
    let size : (length bytes == counted_size bytes + 6) ≡ true = (none_broken (rule (min (length bytes) (counted_size bytes + 6)) (length bytes == counted_size bytes + 6)) ends ended).0 in
    let sum : length bytes ≡ counted_size bytes + 6 = grind arith in
    omega (arith, many, sum)

ok_with : (bytes : List ℕ) (said : Result (List Reading × Bool) ℕ) → decimal_number (take 4 (drop 7 bytes)) < 10 ^ 8 → list_all is_capital (maker_in bytes) ≡ true → IfOk said AllDated → IfOk (with_records bytes said) IsReadable
ok_with bytes (Ok records) serial maker dated = record { serial = serial; maker = letters_below (maker_in bytes) maker; dated = dated }
ok_with bytes (Err left) serial maker dated = tt

abbrev later_kinds : List ℕ → List Rule
later_kinds bytes =
    rule 14 ((byte bytes 14 == 4) || (byte bytes 14 == 12)) ∷ rule 17 (byte bytes 17 == 0) ∷ rule 18 (byte bytes 18 == 0) ∷ []

ok_telegram : (bytes : List ℕ) → IfOk (telegram_in bytes) IsReadable
ok_telegram bytes =
    ok_unless IsReadable (first_broken (start_rules bytes)) _
    (λ first. ok_unless IsReadable (first_broken (end_rules bytes)) _
    (λ ended. ok_unless IsReadable (first_broken (link_rules bytes)) _
    (λ link. ok_unless IsReadable (first_broken (serial_rules bytes)) _
    (λ serial. ok_unless IsReadable (first_broken (kind_rules bytes)) _
    (λ kind. ok_with bytes (records_in 0 (record_bytes bytes)) (serial_below bytes (long_enough bytes first ended) serial) (none_broken (rule 11 (list_all is_capital (maker_in bytes))) (later_kinds bytes) kind).0 (ok_records 0 (record_bytes bytes)))))))

pub readable : (bytes : List ℕ) (t : Telegram) → telegram_in bytes ≡ Ok t → IsReadable t
readable bytes t is = let P : Result Telegram ℕ → Type 0 = λ said. IfOk said IsReadable in subst P is (ok_telegram bytes)
