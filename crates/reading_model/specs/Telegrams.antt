-- What the bytes of a telegram say (EN 13757-2 and -3), or the place of the first that breaks a rule, from 0.
use Rattle.std.specs.Prelude.{ℕ, ◌+◌, ◌-◌, ◌*◌, ◌/◌, ◌%◌, ◌==◌, ◌||◌, nat_le, min, if◌then◌else◌, Bool, List, [], ◌∷◌, length, take, drop, Result, Ok, Err}
use Rattle.std.specs.Int.{w16, from_le_bytes}
use Rattle.std.specs.List.{list_all}
use Rattle.parts_model.specs.Place.{Place, Flow, Return}
use Rattle.frame_model.specs.Frames.{checksum}
use Rattle.parts_model.specs.Ranges.{is_address, is_capital}
use Rattle.reading_model.specs.Rules.{Rule, rule, first_broken, unless_broken, byte}
use Rattle.reading_model.specs.Fields.{Reading, Telegram}
use Rattle.reading_model.specs.Records.{is_decimal, records_in}

-- ---- the frame

-- how many bytes the frame says that it counts
abbrev pub counted_size : List ℕ → ℕ
counted_size bytes = byte bytes 1

-- the bytes that the checksum is of
abbrev pub counted : List ℕ → List ℕ
counted bytes = take (counted_size bytes) (drop 4 bytes)

-- 68, the number of counted bytes, which the header alone makes 15, that again, 68; all hexadecimal
abbrev pub start_rules : List ℕ → List Rule
start_rules bytes =
    rule 0 (byte bytes 0 == 104)
    ∷ rule 1 (nat_le 15 (counted_size bytes))
    ∷ rule 2 (byte bytes 2 == counted_size bytes)
    ∷ rule 3 (byte bytes 3 == 104)
    ∷ []

-- as many bytes as that makes, their checksum, and the stop byte 16 (hexadecimal)
abbrev pub end_rules : List ℕ → List Rule
end_rules bytes =
    rule (min (length bytes) (counted_size bytes + 6)) (length bytes == counted_size bytes + 6)
    ∷ rule (counted_size bytes + 4) (byte bytes (counted_size bytes + 4) == checksum (counted bytes))
    ∷ rule (counted_size bytes + 5) (byte bytes (counted_size bytes + 5) == 22)
    ∷ []

-- ---- the header

-- control field 08, an address of one meter, control information 72
abbrev pub link_rules : List ℕ → List Rule
link_rules bytes =
    rule 4 (byte bytes 4 == 8) ∷ rule 5 (is_address (byte bytes 5)) ∷ rule 6 (byte bytes 6 == 114) ∷ []

-- a serial number of eight decimal digits
abbrev pub serial_rules : List ℕ → List Rule
serial_rules bytes =
    rule 7 (is_decimal (byte bytes 7))
    ∷ rule 8 (is_decimal (byte bytes 8))
    ∷ rule 9 (is_decimal (byte bytes 9))
    ∷ rule 10 (is_decimal (byte bytes 10))
    ∷ []

-- the number that bytes of two decimal digits say, the lowest first
abbrev pub decimal_number : List ℕ → ℕ
decimal_number [] = 0
decimal_number (b ∷ bs) = b % 16 + 10 * (b / 16) + 100 * decimal_number bs

-- the letters of a code, of five bits each, with A = 1
abbrev pub letters_of : ℕ → List ℕ
letters_of code = (64 + code / 1024) ∷ (64 + code / 32 % 32) ∷ (64 + code % 32) ∷ []

-- the letters that the bytes 11 and 12 are the code of
abbrev pub maker_in : List ℕ → List ℕ
maker_in bytes = letters_of (from_le_bytes w16 (take 2 (drop 11 bytes)))

-- a maker of three letters; heat, with the flow sensor in the return or in the flow; and no signature
abbrev pub kind_rules : List ℕ → List Rule
kind_rules bytes =
    rule 11 (list_all is_capital (maker_in bytes))
    ∷ rule 14 ((byte bytes 14 == 4) || (byte bytes 14 == 12))
    ∷ rule 17 (byte bytes 17 == 0)
    ∷ rule 18 (byte bytes 18 == 0)
    ∷ []

abbrev pub place_of : ℕ → Place
place_of medium = if medium == 4 then Return else Flow

-- ---- the telegram

-- the bytes of the records: those behind the header that the checksum is of
abbrev pub record_bytes : List ℕ → List ℕ
record_bytes bytes = drop 15 (counted bytes)

-- the telegram of these records
abbrev pub telegram_of : List ℕ → List Reading × Bool → Telegram
telegram_of bytes records = record {
  address = byte bytes 5;
  serial = decimal_number (take 4 (drop 7 bytes));
  maker = maker_in bytes;
  version = byte bytes 13;
  place = place_of (byte bytes 14);
  access = byte bytes 15;
  status = byte bytes 16;
  records = records.0;
  more = records.1;
}

-- what bytes with these records say, where a place in the records is told by the bytes that are left there
abbrev pub with_records : List ℕ → Result (List Reading × Bool) ℕ → Result Telegram ℕ
with_records bytes (Ok records) = Ok (telegram_of bytes records)
with_records bytes (Err left) = Err (counted_size bytes + 4 - left)

-- what the bytes behind a right frame say
abbrev pub counted_telegram : List ℕ → Result Telegram ℕ
counted_telegram bytes =
    unless_broken (first_broken (link_rules bytes))
    (unless_broken (first_broken (serial_rules bytes))
    (unless_broken (first_broken (kind_rules bytes)) (with_records bytes (records_in 0 (record_bytes bytes)))))

-- the telegram that the bytes are, or the place of the first of them that breaks a rule
abbrev pub telegram_in : List ℕ → Result Telegram ℕ
telegram_in bytes =
    unless_broken (first_broken (start_rules bytes)) (unless_broken (first_broken (end_rules bytes)) (counted_telegram bytes))
