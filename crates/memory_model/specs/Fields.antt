-- Fields of a memory, and the rules that they keep.
use Rattle.std.specs.Prelude.{ℕ, ◌+◌, ◌*◌, ◌==◌, ℤ, Bool, true, if◌then◌else◌, List, [], ◌∷◌, take, drop, map, Option, None, Some, Result, Ok, Err}
use Rattle.std.specs.Int.{w128, cast_signed}
use Rattle.std.specs.List.{list_all, range_with_len}

-- the bytes of a part, by its offset and its size
abbrev pub part : (at size : ℕ) → List ℕ → List ℕ
part at size bytes = take size (drop at bytes)

-- the number that bytes spell, the lowest byte first
abbrev pub little_endian : List ℕ → ℕ
little_endian [] = 0
little_endian (b ∷ bs) = b + 256 * little_endian bs

-- the number of a part
unfoldable pub number : (at size : ℕ) → List ℕ → ℕ
number at size bytes = little_endian (part at size bytes)

-- the whole number that 16 bytes spell in two's complement
abbrev pub signed : ℕ → ℤ
signed n = cast_signed w128 n

abbrev pub are_zero : List ℕ → Bool
are_zero bytes = list_all (λ b. b == 0) bytes

-- a field: its offset, how many bytes it has, and whether it keeps its rule, which may look at any byte
pub record Field : Type 0 where
  pub at : ℕ
  pub size : ℕ
  pub keeps : List ℕ → Bool

-- its number
abbrev pub value : Field → List ℕ → ℕ
value f bytes = number f.at f.size bytes

-- a field with a rule on its number
abbrev pub field : (at size : ℕ) → (ℕ → Bool) → Field
field at size rule = record { at = at; size = size; keeps = λ bytes. rule (number at size bytes) }

-- a rule that each number keeps
abbrev pub any : ℕ → Bool
any n = true

-- a field with a rule on its number and all the bytes
abbrev pub field_among : (at size : ℕ) → (ℕ → List ℕ → Bool) → Field
field_among at size rule = record { at = at; size = size; keeps = λ bytes. rule (number at size bytes) bytes }

-- a field of zeros
abbrev pub blank : (at size : ℕ) → Field
blank at size = record { at = at; size = size; keeps = λ bytes. are_zero (part at size bytes) }

-- a byte that is zero
abbrev pub zero_byte : ℕ → Field
zero_byte at = field at 1 (λ n. n == 0)

unfoldable pub zero_bytes : (at count : ℕ) → List Field
zero_bytes at count = map zero_byte (range_with_len at count)

abbrev pub keep_all : List Field → List ℕ → Bool
keep_all fields bytes = list_all (λ f. f.keeps bytes) fields

-- the offset of the first field that breaks its rule
abbrev pub first_broken : List Field → List ℕ → Option ℕ
first_broken [] bytes = None
first_broken (f ∷ fs) bytes = if f.keeps bytes then first_broken fs bytes else Some f.at

-- what the bytes hold, or else the offset of the first field that breaks its rule
abbrev pub unless_broken : {Value : Type 0} → Option ℕ → Value → Result Value ℕ
unless_broken None held = Ok held
unless_broken (Some at) held = Err at
