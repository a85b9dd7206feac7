-- What an optical head is asked, after IEC 62056-21.
use Rattle.std.specs.Prelude.{◌≡◌, ◌⊎◌, ℕ, ◌≤◌, ◌==◌, ◌||◌, if◌then◌else◌, Bool, IsTrue, List, [], ◌∷◌, ◌++◌, length, codes}
use Rattle.std.specs.Char.{is_ascii_alphanumeric}
use Rattle.std.specs.List.{list_all}
use Rattle.display_model.specs.Display.{eight_digits}
use Rattle.config_model.specs.Configuration.{Configuration}

-- a letter, a digit or a space in ASCII
abbrev pub is_address_byte : ℕ → Bool
is_address_byte byte = is_ascii_alphanumeric byte || (byte == 32)

-- a text without the zeros that it begins with
abbrev pub without_zeros : List ℕ → List ℕ
without_zeros [] = []
without_zeros (byte ∷ bytes) = if byte == 48 then without_zeros bytes else byte ∷ bytes

-- the request to an address
abbrev pub request : List ℕ → List ℕ
request address = codes "/?" ++ address ++ codes "!\r\n"

-- an address has at most 32 letters, digits and spaces
pub record IsAddress (address : List ℕ) : Type 0 where
  pub short : length address ≤ 32
  pub bytes : IsTrue (list_all is_address_byte address)

-- an address is this meter's where it is empty, or its serial number but for zeros at the front of either
abbrev pub IsOwn : Configuration → List ℕ → Type 0
IsOwn c address = (address ≡ []) ⊎ (without_zeros address ≡ without_zeros (eight_digits c.serial))

-- the message is a request to this meter
pub record IsRequest (c : Configuration) (message : List ℕ) : Type 0 where
  pub address : List ℕ
  pub form : message ≡ request address
  pub allowed : IsAddress address
  pub own : IsOwn c address

-- the message is an option select for the data message: ACK, `0`, a baud rate from 0 to 6, `0`, CR LF
pub record IsDataSelect (message : List ℕ) : Type 0 where
  pub rate : ℕ
  pub form : message ≡ 6 ∷ 48 ∷ rate ∷ 48 ∷ codes "\r\n"
  pub low : 48 ≤ rate
  pub high : rate ≤ 54
