-- What the data records of a telegram say (EN 13757-3). A place is told by how many bytes are left there: those from it on
-- to the end of the records.
use Rattle.std.specs.Prelude.{ℕ, zero, suc, ◌+◌, ◌-◌, ◌*◌, ◌/◌, ◌%◌, ◌==◌, ◌&&◌, nat_lt, nat_le, if◌then◌else◌, Bool, true, false, ℤ, pos, ◌-ℤ◌, List, [], ◌∷◌, length, take, drop, Option, None, Some, Result, Ok, Err}
use Rattle.std.specs.Int.{w16, w32, from_le_bytes, cast_signed}
use Rattle.script_model.specs.Dates.{day_in_century}
use Rattle.script_model.specs.Grammar.{◌>>=◌}
use Rattle.reading_model.specs.Rules.{byte}
use Rattle.reading_model.specs.Fields.{Kind, Energy, Volume, FlowTemp, ReturnTemp, Difference, Date, Reading}

-- what the first of these bytes says, where it keeps its rule
abbrev pub said_at : {A : Type 0} → Option A → List ℕ → Result A ℕ
said_at None bytes = Err (length bytes)
said_at (Some x) bytes = Ok x

-- ---- the data information field

-- how data are written: a whole number of 16 bits, one of 32 bits, or eight decimal digits
pub data Coding : Type 0 where
  Integer16 : Coding
  Integer32 : Coding
  Decimal8 : Coding

-- by the lowest four bits
abbrev pub coding_of : ℕ → Option Coding
coding_of bits =
    if bits == 2 then Some Integer16 else (if bits == 4 then Some Integer32 else (if bits == 12 then Some Decimal8 else None))

-- the coding that a data information field says, where it says one: an instantaneous value, bits 4 and 5 are clear
abbrev pub information_coding : ℕ → Option Coding
information_coding dif = if dif / 16 % 4 == 0 then coding_of (dif % 16) else None

-- a second field follows, which bit 7 tells
abbrev pub is_extended : ℕ → Bool
is_extended dif = nat_le 128 dif

-- how many bytes are before the value information field
abbrev pub information_size : ℕ → ℕ
information_size dif = if is_extended dif then 2 else 1

-- how many bytes a record has, which its first tells: data of 16 bits, or else of four bytes
abbrev pub record_size : ℕ → ℕ
record_size dif = information_size dif + 1 + (if dif % 16 == 2 then 2 else 4)

-- the coding of a record that these bytes begin with, where its first byte says one and the record ends among them
abbrev pub fitting_coding : List ℕ → Option Coding
fitting_coding bytes =
    if nat_le (record_size (byte bytes 0)) (length bytes) then information_coding (byte bytes 0) else None

-- the second field, which is the last: below 10 (hexadecimal)
abbrev pub extension : List ℕ → Option ℕ
extension bytes =
    if is_extended (byte bytes 0) then (if nat_lt (byte bytes 1) 16 then Some (byte bytes 1) else None) else Some 0

-- the storage number: bit 6 of the first field, and the second above it
abbrev pub storage_of : (dif dife : ℕ) → ℕ
storage_of dif dife = dif / 64 % 2 + 2 * dife

-- ---- the value information field

abbrev pub is_among : (low high n : ℕ) → Bool
is_among low high n = nat_le low n && nat_le n high

abbrev pub is_integer16 : Coding → Bool
is_integer16 Integer16 = true
is_integer16 Integer32 = false
is_integer16 Decimal8 = false

-- What a value is of, and the power of ten of its unit. In hexadecimal: 00 to 07 energy from 0.001 Wh on, 10 to 17 volume
-- from 10^-6 m³ on, 58 to 5B, 5C to 5F and 60 to 63 temperatures from 0.001 °C on, and 6C a date, which has 16 bits.
abbrev pub quantity : Coding → ℕ → Option (Kind × ℤ)
quantity coding vif =
    if nat_le vif 7 then Some (Energy, pos vif -ℤ pos 3)
    else (if is_among 16 23 vif then Some (Volume, pos (vif - 16) -ℤ pos 6)
    else (if is_among 88 91 vif then Some (FlowTemp, pos (vif - 88) -ℤ pos 3)
    else (if is_among 92 95 vif then Some (ReturnTemp, pos (vif - 92) -ℤ pos 3)
    else (if is_among 96 99 vif then Some (Difference, pos (vif - 96) -ℤ pos 3)
    else (if (vif == 108) && is_integer16 coding then Some (Date, pos 0)
    else None)))))

-- ---- the data

-- two decimal digits in a byte
abbrev pub is_decimal : ℕ → Bool
is_decimal b = nat_le (b % 16) 9 && nat_le (b / 16) 9

-- the number of so many bytes of decimal digits, the lowest first
abbrev pub decimal_in : ℕ → List ℕ → Result ℕ ℕ
decimal_in zero bytes = Ok 0
decimal_in (suc n) [] = Err 0
decimal_in (suc n) (b ∷ bs) =
    if is_decimal b then (decimal_in n bs >>= λ higher. Ok (b % 16 + 10 * (b / 16) + 100 * higher)) else Err (length (b ∷ bs))

-- the day of a date of type G: five bits of day and three of year in the low byte, four of month and four of year in the high
abbrev pub date_of : (low high : ℕ) → Option ℕ
date_of low high = day_in_century (2000 + low / 32 + 8 * (high / 16)) (high % 16) (low % 32)

abbrev pub is_date : Kind → Bool
is_date Energy = false
is_date Volume = false
is_date FlowTemp = false
is_date ReturnTemp = false
is_date Difference = false
is_date Date = true

-- the value that the data say, which these bytes begin with
abbrev pub value_in : Kind → Coding → List ℕ → Result ℤ ℕ
value_in kind Integer16 bytes =
    if is_date kind
    then (said_at (date_of (byte bytes 0) (byte bytes 1)) bytes >>= λ day. Ok (pos day))
    else Ok (cast_signed w16 (from_le_bytes w16 (take 2 bytes)))
value_in kind Integer32 bytes = Ok (cast_signed w32 (from_le_bytes w32 (take 4 bytes)))
value_in kind Decimal8 bytes = decimal_in 4 bytes >>= λ number. Ok (pos number)

-- ---- records

-- the record that these bytes begin with
unfoldable pub record_in : List ℕ → Result Reading ℕ
record_in bytes =
    let dif = byte bytes 0 in
    let unit = information_size dif in
    said_at (fitting_coding bytes) bytes >>= λ coding.
    said_at (extension bytes) (drop 1 bytes) >>= λ dife.
    said_at (quantity coding (byte bytes unit)) (drop unit bytes) >>= λ q.
    value_in q.0 coding (drop (unit + 1) bytes) >>= λ value.
    Ok (record { storage = storage_of dif dife; kind = q.0; value = value; exp = q.1 })

-- whether these bytes are the mark 1F that a further telegram follows, which stands last
abbrev pub is_mark : List ℕ → Bool
is_mark [] = false
is_mark (b ∷ []) = b == 31
is_mark (b ∷ c ∷ bs) = false

-- a record before others
abbrev pub onto : Reading → List Reading × Bool → Result (List Reading × Bool) ℕ
onto first others = Ok (first ∷ others.0, others.1)

-- The records of these bytes, and whether the mark stands behind them, where the first so many bytes are of a record that
-- was read before.
abbrev pub records_in : (behind : ℕ) → List ℕ → Result (List Reading × Bool) ℕ
records_in behind [] = Ok ([], false)
records_in (suc behind) (b ∷ bs) = records_in behind bs
records_in zero (b ∷ bs) =
    if is_mark (b ∷ bs) then Ok ([], true)
    else record_in (b ∷ bs) >>= λ first. records_in (record_size b - 1) bs >>= λ others. onto first others
