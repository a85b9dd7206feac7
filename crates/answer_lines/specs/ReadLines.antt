-- The lines of `read`.
use Rattle.std.specs.Prelude.{◌≡◌, ℕ, ◌^◌, ◌<◌, ◌≤◌, ℤ, pos, Bool, true, false, List, [], ◌∷◌, ◌++◌, codes}
use Rattle.std.specs.Fmt.{decimal, signed_decimal}
use Rattle.std.specs.List.{All}
use Rattle.calendar_model.specs.Calendar.{last_day}
use Rattle.calendar_model.specs.Texts.{IsDayText, two_digits}
use Rattle.display_model.specs.Display.{eight_digits, pointed}
use Rattle.parts_model.specs.Place.{Place, Flow, Return}
use Rattle.reading_model.specs.Fields.{Kind, Energy, Volume, FlowTemp, ReturnTemp, Difference, Date, Reading, Telegram, Number, Shown, Message}

-- ---- telegrams

-- the number of a day of 2000 to 2099
abbrev pub IsDayNumber : ℤ → Type 0
IsDayNumber value = (day : ℕ) × (value ≡ pos day) × (day ≤ last_day)

-- a date's value is one
abbrev pub IsDated : Reading → Type 0
IsDated r = r.kind ≡ Date → IsDayNumber r.value

-- what a telegram says has lines: a serial number of eight digits, letters in ASCII, and dates
pub record IsReadable (t : Telegram) : Type 0 where
  pub serial : t.serial < 10 ^ 8
  pub maker : All (λ letter. letter < 128) t.maker
  pub dated : All IsDated t.records

-- the pipe in which the flow sensor sits
abbrev pub place_word : Place → List ℕ
place_word Flow = codes "flow"
place_word Return = codes "return"

-- the lines before those of the records, the serial number in eight digits
abbrev pub header_lines : Telegram → List (List ℕ)
header_lines t =
    (codes "serial " ++ eight_digits t.serial ++ codes "\n")
    ∷ (codes "maker " ++ t.maker ++ codes "\n")
    ∷ (codes "version " ++ decimal t.version ++ codes "\n")
    ∷ (codes "medium " ++ place_word t.place ++ codes "\n")
    ∷ (codes "address " ++ decimal t.address ++ codes "\n")
    ∷ (codes "access " ++ decimal t.access ++ codes "\n")
    ∷ (codes "status " ++ decimal t.status ++ codes "\n")
    ∷ []

-- `S NAME N X`: the storage number, the value, and the power of ten of its unit
abbrev pub value_line : (name : List ℕ) → Reading → List ℕ
value_line name r =
    decimal r.storage ++ codes " " ++ name ++ codes " " ++ signed_decimal r.value ++ codes " " ++ signed_decimal r.exp ++ codes "\n"

-- `S date YYYY-MM-DD`
pub record IsDateLine (r : Reading) (line : List ℕ) : Type 0 where
  pub number : ℕ
  pub day : List ℕ
  pub dated : r.value ≡ pos number
  pub text : IsDayText number day
  pub is : line ≡ decimal r.storage ++ codes " date " ++ day ++ codes "\n"

abbrev pub IsLineOf : Kind → Reading → List ℕ → Type 0
IsLineOf Energy r line = line ≡ value_line (codes "energy") r
IsLineOf Volume r line = line ≡ value_line (codes "volume") r
IsLineOf FlowTemp r line = line ≡ value_line (codes "flow") r
IsLineOf ReturnTemp r line = line ≡ value_line (codes "return") r
IsLineOf Difference r line = line ≡ value_line (codes "difference") r
IsLineOf Date r line = IsDateLine r line

-- one line for each record, in their order
abbrev pub AreRecordLines : List Reading → List (List ℕ) → Type 0
AreRecordLines [] lines = lines ≡ []
AreRecordLines (r ∷ rs) [] = ⊥
AreRecordLines (r ∷ rs) (line ∷ lines) = IsLineOf r.kind r line × AreRecordLines rs lines

-- `more` where a further telegram follows
abbrev pub more_lines : Bool → List (List ℕ)
more_lines true = codes "more\n" ∷ []
more_lines false = []

-- the lines of a telegram
pub record AreTelegramLines (t : Telegram) (lines : List (List ℕ)) : Type 0 where
  pub records : List (List ℕ)
  pub records_are : AreRecordLines t.records records
  pub are : lines ≡ (header_lines t ++ records) ++ more_lines t.more

-- ---- data messages

-- a number has eight digits, and at most three of them are decimals
pub record IsDisplay (n : Number) : Type 0 where
  pub digits : n.digits < 10 ^ 8
  pub decimals : n.decimals ≤ 3

-- an entry has a mark of two digits, and displays
pub record IsShowable (e : Shown) : Type 0 where
  pub mark : e.mark ≤ 99
  pub energy : IsDisplay e.energy
  pub volume : IsDisplay e.volume

-- what a data message says has lines: a serial number of eight digits, displays, and entries that have lines
pub record IsLegible (m : Message) : Type 0 where
  pub serial : m.serial < 10 ^ 8
  pub energy : IsDisplay m.energy
  pub volume : IsDisplay m.volume
  pub entries : All IsShowable m.entries

-- a number with its decimals
abbrev pub number_text : Number → List ℕ
number_text n = pointed n.decimals (eight_digits n.digits)

-- the lines before those of the entries
pub record AreFirstLines (m : Message) (lines : List (List ℕ)) : Type 0 where
  pub day : List ℕ
  pub dated : IsDayText m.day day
  pub are : lines
      ≡ (codes "serial " ++ eight_digits m.serial ++ codes "\n")
      ∷ (codes "energy " ++ number_text m.energy ++ codes " kWh\n")
      ∷ (codes "volume " ++ number_text m.volume ++ codes " m3\n")
      ∷ (codes "day " ++ day ++ codes "\n")
      ∷ []

-- `MM YYYY-MM-DD ENERGY kWh VOLUME m3`, the mark in two digits
pub record IsShownLine (e : Shown) (line : List ℕ) : Type 0 where
  pub day : List ℕ
  pub dated : IsDayText e.day day
  pub is : line ≡ two_digits e.mark ++ codes " " ++ day ++ codes " " ++ number_text e.energy ++ codes " kWh " ++ number_text e.volume ++ codes " m3\n"

-- one line for each entry, in their order
abbrev pub AreShownLines : List Shown → List (List ℕ) → Type 0
AreShownLines [] lines = lines ≡ []
AreShownLines (e ∷ es) [] = ⊥
AreShownLines (e ∷ es) (line ∷ lines) = IsShownLine e line × AreShownLines es lines

-- the lines of a data message
pub record AreMessageLines (m : Message) (lines : List (List ℕ)) : Type 0 where
  pub before : List (List ℕ)
  pub entries : List (List ℕ)
  pub before_are : AreFirstLines m before
  pub entries_are : AreShownLines m.entries entries
  pub are : lines ≡ before ++ entries
