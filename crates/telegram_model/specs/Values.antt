-- The values of a telegram's data records, as bytes.
use Rattle.std.specs.Prelude.{ℕ, ◌+◌, ◌-◌, ◌*◌, ◌/◌, ◌%◌, ◌^◌, ◌==◌, if◌then◌else◌, ℤ, pos, List, [], ◌∷◌, map, length}
use Rattle.std.specs.Int.{w32, to_le_bytes, cast_unsigned, int_div_euclid}
use Rattle.calendar_model.specs.Calendar.{month_of_year, first_day, months_to}

-- The information field of a value of this kind with this storage number: the kind plus 40 (hexadecimal) for the lowest bit
-- of the number. Where more of the number is left, plus 80, and the rest in a second byte.
abbrev pub information : (kind storage : ℕ) → List ℕ
information kind storage =
    if storage / 2 == 0 then (kind + 64 * storage) ∷ [] else (kind + 128 + 64 * (storage % 2)) ∷ storage / 2 ∷ []

-- the eight digits of a number below 10^8, two in a byte, the lowest first
unfoldable pub decimal_bytes : ℕ → List ℕ
decimal_bytes n = map (λ place. n / 100 ^ place % 10 + 16 * (n / 100 ^ place / 10 % 10)) (0 ∷ 1 ∷ 2 ∷ 3 ∷ [])

-- a whole number of 32 bits as two's complement, the lowest byte first
unfoldable pub integer_bytes : ℤ → List ℕ
integer_bytes z = to_le_bytes w32 (cast_unsigned w32 z)

-- microdegrees, rounded down to thousandths of a degree
abbrev pub thousandths : ℤ → ℤ
thousandths microdegrees = int_div_euclid microdegrees (pos 1000)

-- The date of type G, from the year since 2000, the month and the day. Low byte: the day, plus 32 times the lowest three bits
-- of the year. High byte: the month, plus 16 times the next four.
abbrev pub type_g : (year month day : ℕ) → List ℕ
type_g year month day = (day + 32 * (year % 8)) ∷ (month + 16 * (year / 8 % 16)) ∷ []

-- the month that a day lies in, from January 2000: the last that has begun
abbrev pub month_in : ℕ → ℕ
month_in day = length (months_to day) - 1

-- a day's date of type G
unfoldable pub date_bytes : ℕ → List ℕ
date_bytes day = type_g (month_in day / 12) (month_of_year (month_in day)) (day - first_day (month_in day) + 1)
