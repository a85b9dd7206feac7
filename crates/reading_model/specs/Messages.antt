-- What the bytes of a data message say (IEC 62056-21), or the place of the first that breaks a rule. A place is told by how
-- many bytes are left there.
use Rattle.std.specs.Prelude.{◌≡◌, ℕ, zero, suc, ◌-◌, ◌==◌, ◌&&◌, nat_eq, nat_le, if◌then◌else◌, Bool, true, List, [], ◌∷◌, ◌++◌, length, take, drop, codes, Option, None, Some, is_some, Result, Ok, Err}
use Rattle.std.specs.List.{list_any, starts_with}
use Rattle.std.specs.Option.{option_map}
use Rattle.std.specs.Cmp.Lexicographic.{pointwise}
use Rattle.calendar_model.specs.Texts.{two_digits}
use Rattle.optical_model.specs.Messages.{check_character}
use Rattle.script_model.specs.Dates.{date_in}
use Rattle.script_model.specs.Grammar.{◌>>=◌}
use Rattle.script_model.specs.Numbers.{all_digits, value_after}
use Rattle.reading_model.specs.Rules.{byte}
use Rattle.reading_model.specs.Fields.{Number, Shown, Message}

-- ---- fixed bytes

-- the bytes behind fixed ones
abbrev pub behind : (fixed : List ℕ) → List ℕ → Result (List ℕ) ℕ
behind [] bytes = Ok bytes
behind (f ∷ fs) [] = Err 0
behind (f ∷ fs) (b ∷ bs) = if b == f then behind fs bs else Err (length (b ∷ bs))

-- ---- serial numbers, numbers and days

-- a form of texts: what a text says where it is of the form, and endings by which one that is cut short is mended, if any
-- mends it
pub record Form (Said : Type 0) : Type 0 where
  pub said : List ℕ → Option Said
  pub endings : List (List ℕ)

-- whether further bytes mend a text that is cut short
unfoldable pub is_mended : {Said : Type 0} → Form Said → List ℕ → Bool
is_mended form text = list_any (λ ending. is_some (form.said (text ++ drop (length text) ending))) form.endings

-- some bytes follow with which a text is of a form: by law the endings of each form here tell exactly this
abbrev pub CanBeMended : {Said : Type 0} → Form Said → List ℕ → Type 0
CanBeMended form text = (more : List ℕ) × (is_some (form.said (text ++ more)) ≡ true)

-- what a text says, with the bytes behind it
abbrev pub said_before : {Said : Type 0} → Option Said → List ℕ → ℕ → Result (Said × List ℕ) ℕ
said_before None rest left = Err left
said_before (Some x) rest left = Ok (x, rest)

-- What the first so many bytes say, with those behind them. Where the bytes end before, the form is broken at the first of
-- them if nothing mends it, and else at their end.
unfoldable pub text_of : {Said : Type 0} → Form Said → (size : ℕ) → List ℕ → Result (Said × List ℕ) ℕ
text_of form size bytes =
    if nat_le size (length bytes) then said_before (form.said (take size bytes)) (drop size bytes) (length bytes)
    else (if is_mended form bytes then Err 0 else Err (length bytes))

-- eight digits
unfoldable pub serial_said : List ℕ → Option ℕ
serial_said text = if (length text == 8) && all_digits text then Some (value_after 0 text) else None

abbrev pub serial_form : Form ℕ
serial_form = record { said = serial_said; endings = codes "00000000" ∷ [] }

abbrev pub is_point : ℕ → Bool
is_point b = b == 46

-- a number without a point, and one with a point before its last three, two or one digits
unfoldable pub decimals_of : List ℕ → ℕ
decimals_of text =
    if is_point (byte text 5) then 3 else (if is_point (byte text 6) then 2 else (if is_point (byte text 7) then 1 else 0))

-- eight digits, with a point before the last so many of them where there are decimals
unfoldable pub digits_of : (decimals : ℕ) → List ℕ → List ℕ
digits_of decimals text = if decimals == 0 then text else take (8 - decimals) text ++ drop (9 - decimals) text

unfoldable pub number_size : List ℕ → ℕ
number_size text = if decimals_of text == 0 then 8 else 9

unfoldable pub number_said : List ℕ → Option Number
number_said text =
    let digits = digits_of (decimals_of text) text in
    if (length text == number_size text) && all_digits digits
    then Some (record { digits = value_after 0 digits; decimals = decimals_of text })
    else None

abbrev pub number_form : Form Number
number_form = record { said = number_said; endings = codes "00000000" ∷ codes "00000.000" ∷ [] }

-- the day that a date of 2000 to 2099 says, and its text
abbrev pub day_said : List ℕ → Option (ℕ × List ℕ)
day_said text = option_map (λ day. (day, text)) (date_in text)

-- each month can begin with the digit that it has in one of these, and so can each day
abbrev pub day_form : Form (ℕ × List ℕ)
day_form = record { said = day_said; endings = codes "2000-01-01" ∷ codes "2000-01-30" ∷ [] }

-- a text that was there before
abbrev pub same_form : List ℕ → Form (List ℕ)
same_form before = record {
  said = λ text. if pointwise nat_eq text before then Some before else None;
  endings = before ∷ [];
}

-- ---- what bytes say, with those behind it

abbrev pub Reader : Type 0 → Type 0
Reader Said = List ℕ → Result (Said × List ℕ) ℕ

unfoldable pub serial_of : Reader ℕ
serial_of bytes = text_of serial_form 8 bytes

unfoldable pub number_of : Reader Number
number_of bytes = text_of number_form (number_size bytes) bytes

unfoldable pub day_of : Reader (ℕ × List ℕ)
day_of bytes = text_of day_form 10 bytes

unfoldable pub same_of : List ℕ → Reader (List ℕ)
same_of before bytes = text_of (same_form before) 10 bytes

-- what stands between fixed bytes
abbrev pub between : {Said : Type 0} → (opening : List ℕ) → Reader Said → (closing : List ℕ) → Reader Said
between opening reader closing bytes =
    behind opening bytes >>= λ inner. reader inner >>= λ x. behind closing x.1 >>= λ rest. Ok (x.0, rest)

-- ---- lines

-- what the lines before the entries say
unfoldable pub first_lines : Reader Message
first_lines bytes =
    between (2 ∷ codes "9.21(") serial_of (codes ")\r\n") bytes >>= λ serial.
    between (codes "6.8(") number_of (codes "*kWh)\r\n") serial.1 >>= λ energy.
    between (codes "6.26(") number_of (codes "*m3)\r\n") energy.1 >>= λ volume.
    between (codes "9.36(") day_of (codes ")\r\n") volume.1 >>= λ day.
    Ok (record { serial = serial.0; energy = energy.0; volume = volume.0; day = day.0.0; entries = [] }, day.1)

-- the bytes before the day in the lines of an entry with this mark
abbrev pub energy_opening : ℕ → List ℕ
energy_opening mark = codes "6.8*" ++ two_digits mark ++ codes "("

abbrev pub volume_opening : ℕ → List ℕ
volume_opening mark = codes "6.26*" ++ two_digits mark ++ codes "("

-- the two lines of an entry with this mark, on one day
unfoldable pub entry_of : ℕ → Reader Shown
entry_of mark bytes =
    between (energy_opening mark) day_of (codes ")") bytes >>= λ day.
    between (codes "(") number_of (codes "*kWh)\r\n") day.1 >>= λ energy.
    between (volume_opening mark) (same_of day.0.1) (codes ")") energy.1 >>= λ same.
    between (codes "(") number_of (codes "*m3)\r\n") same.1 >>= λ volume.
    Ok (record { mark = mark; day = day.0.0; energy = energy.0; volume = volume.0 }, volume.1)

-- an entry before others
abbrev pub onto_entries : Shown → List Shown × List ℕ → Result (List Shown × List ℕ) ℕ
onto_entries first others = Ok (first ∷ others.0, others.1)

-- the entries up to an exclamation mark, of the last so many marks to 25, without a gap
abbrev pub entries_of : (marks : ℕ) → Reader (List Shown)
entries_of zero bytes = Ok ([], bytes)
entries_of (suc n) bytes =
    if byte bytes 0 == 33 then Ok ([], bytes)
    else entry_of (25 - n) bytes >>= λ first. entries_of n first.1 >>= λ others. onto_entries first.0 others

-- the marks are from 01 on where the first is 01, and else from 02 on
unfoldable pub marks_of : List ℕ → ℕ
marks_of bytes = if starts_with nat_eq bytes (codes "6.8*01") then 25 else 24

-- ---- the message

-- the bytes are the check character alone
abbrev pub ends_with : (check : ℕ) → List ℕ → Result Unit ℕ
ends_with check [] = Err 0
ends_with check (b ∷ bs) = if b == check then (if length bs == 0 then Ok tt else Err (length bs)) else Err (length (b ∷ bs))

-- the check character of the bytes behind the first, to where so many are left
unfoldable pub check_before : List ℕ → (left : ℕ) → ℕ
check_before bytes left = check_character (take (length bytes - 1 - left) (drop 1 bytes))

abbrev pub with_entries : Message → List Shown → Message
with_entries m entries = record m { entries = entries }

-- the data message that the bytes are
unfoldable pub lines_of : List ℕ → Result Message ℕ
lines_of bytes =
    first_lines bytes >>= λ first.
    entries_of (marks_of first.1) first.1 >>= λ entries.
    behind (codes "!\r\n" ++ 3 ∷ []) entries.1 >>= λ rest.
    ends_with (check_before bytes (length rest)) rest >>= λ ended.
    Ok (with_entries first.0 entries.0)

-- a place by the bytes before it
abbrev pub placed : {Said : Type 0} → (size : ℕ) → Result Said ℕ → Result Said ℕ
placed size (Ok x) = Ok x
placed size (Err left) = Err (size - left)

-- the data message that the bytes are, or the place of the first of them that breaks a rule
abbrev pub message_in : List ℕ → Result Message ℕ
message_in bytes = placed (length bytes) (lines_of bytes)
