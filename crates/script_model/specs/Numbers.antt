-- Number words.
use Rattle.std.specs.Prelude.{ℕ, ◌+◌, ◌-◌, ◌*◌, Bool, true, false, cond, not, ◌&&◌, nat_le, ◌==◌, List, [], ◌∷◌, Option, None, Some}

abbrev pub is_digit : ℕ → Bool
is_digit c = nat_le 48 c && nat_le c 57

abbrev pub all_digits : List ℕ → Bool
all_digits [] = true
all_digits (c ∷ cs) = is_digit c && all_digits cs

-- A number has decimal digits alone, and no leading zero but `0` itself.
abbrev pub is_number : List ℕ → Bool
is_number [] = false
is_number (c ∷ []) = is_digit c
is_number (c ∷ d ∷ ds) = not (c == 48) && all_digits (c ∷ d ∷ ds)

-- the number that digits say, written after the number n
abbrev pub value_after : ℕ → List ℕ → ℕ
value_after n [] = n
value_after n (c ∷ cs) = value_after (10 * n + (c - 48)) cs

-- the number that a word says, where it says one from low to high
abbrev pub number_in : ℕ → ℕ → List ℕ → Option ℕ
number_in low high word = cond (is_number word && nat_le low (value_after 0 word) && nat_le (value_after 0 word) high) (Some (value_after 0 word)) None
