-- What a step appends to a message.
use Rattle.std.specs.Prelude.{◌≡◌, ℕ, ◌≤◌, List, ◌++◌, length}
use Rattle.calendar_model.specs.Texts.{IsDayText}

-- new is old with a text of this kind, of at most so many bytes, behind it
pub record Appends (Kind : List ℕ → Type 0) (most : ℕ) (old new : List ℕ) : Type 0 where
  pub text : List ℕ
  pub kind : Kind text
  pub is : new ≡ old ++ text
  pub short : length text ≤ most

-- a text with a day in it
pub record IsDated (with_day : List ℕ → List ℕ) (number : ℕ) (text : List ℕ) : Type 0 where
  pub day : List ℕ
  pub dated : IsDayText number day
  pub is : text ≡ with_day day
