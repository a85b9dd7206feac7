-- Hexadecimal words.
use Rattle.std.specs.Prelude.{ℕ, cond, nat_le, List, [], ◌∷◌, length, Option, None, Some}
use Rattle.std.specs.Option.{option_and_then}
use Rattle.std.specs.Result.{result_ok}
use Rattle.hex.specs.Hex.{decode_of}

-- the bytes that a word says: an even number of hexadecimal digits of either case, and at least two
abbrev pub hex_in : List ℕ → Option (List ℕ)
hex_in word = cond (nat_le 2 (length word)) (result_ok (decode_of word)) None

-- the byte of a list of one
abbrev pub only_byte : List ℕ → Option ℕ
only_byte [] = None
only_byte (b ∷ []) = Some b
only_byte (b ∷ c ∷ cs) = None

-- the one byte that a word says: two hexadecimal digits of either case
abbrev pub byte_in : List ℕ → Option ℕ
byte_in word = option_and_then only_byte (hex_in word)
