-- What a display of eight digits shows of a register.
use Rattle.std.specs.Prelude.{ℕ, ◌+◌, ◌-◌, ◌/◌, ◌%◌, ◌^◌, ◌==◌, if◌then◌else◌, ℤ, pos, unsigned_abs, List, [], ◌∷◌, ◌++◌, map, take, drop}
use Rattle.std.specs.Int.{int_div_euclid, int_rem_euclid}

-- the unit of the last digit of an energy in kWh with so many decimals, in millijoules
abbrev pub energy_unit : ℕ → ℕ
energy_unit decimals = 3600000000 / 10 ^ decimals

-- the unit of the last digit of a volume in cubic metres with so many decimals, in litres
abbrev pub volume_unit : ℕ → ℕ
volume_unit decimals = 1000 / 10 ^ decimals

-- the whole units of a register, rounded down, modulo 10^8 and so never negative
abbrev pub shown_digits : ℤ → ℕ → ℕ
shown_digits register unit =
    unsigned_abs (int_rem_euclid (int_div_euclid register (pos unit)) (pos (10 ^ 8)))

-- a number below 10^8 in eight digits
abbrev pub eight_digits : ℕ → List ℕ
eight_digits n = map (λ place. 48 + n / 10 ^ place % 10) (7 ∷ 6 ∷ 5 ∷ 4 ∷ 3 ∷ 2 ∷ 1 ∷ 0 ∷ [])

-- the text with a point before its last so many digits, where that is above 0
abbrev pub pointed : ℕ → List ℕ → List ℕ
pointed decimals text =
    if decimals == 0 then text else take (8 - decimals) text ++ 46 ∷ drop (8 - decimals) text
