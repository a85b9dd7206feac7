-- What readouts say.
use Rattle.std.specs.Prelude.{ℕ, ℤ, Bool, List}
use Rattle.parts_model.specs.Place.{Place}

-- what a data record is a value of
pub data Kind : Type 0 where
  Energy : Kind
  Volume : Kind
  FlowTemp : Kind
  ReturnTemp : Kind
  Difference : Kind
  Date : Kind

-- A data record: its storage number, what it is a value of, and the value times ten to this power, in Wh, m³ or °C. A date
-- has the days since 2000-01-01 and the power 0.
pub record Reading : Type 0 where
  pub storage : ℕ
  pub kind : Kind
  pub value : ℤ
  pub exp : ℤ

-- a telegram: its header, its data records, and whether it says that a further telegram follows
pub record Telegram : Type 0 where
  pub address : ℕ
  pub serial : ℕ
  pub maker : List ℕ
  pub version : ℕ
  pub place : Place
  pub access : ℕ
  pub status : ℕ
  pub records : List Reading
  pub more : Bool

-- a number of eight digits with so many decimals
pub record Number : Type 0 where
  pub digits : ℕ
  pub decimals : ℕ

-- an entry of a data message: its mark, its day from 2000-01-01 on, and what was shown then, in kWh and m³
pub record Shown : Type 0 where
  pub mark : ℕ
  pub day : ℕ
  pub energy : Number
  pub volume : Number

-- a data message: the serial number, what is shown in kWh and m³, the day, and the entries
pub record Message : Type 0 where
  pub serial : ℕ
  pub energy : Number
  pub volume : Number
  pub day : ℕ
  pub entries : List Shown
