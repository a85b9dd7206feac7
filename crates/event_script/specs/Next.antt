-- The lines of a script, as a source gives its bytes.
use Rattle.std.specs.Prelude.{◌≡◌, ℕ, ◌<◌, ◌≤◌, ◌⊎◌, Bool, true, false, List, [], ◌∷◌, ◌++◌, length, take, Some, Ok}
use Rattle.metering_model.specs.Records.{MeterRecord}
use Rattle.script_model.specs.Lines.{after_line, lines_of}
use Rattle.script_model.specs.Grammar as grammar
use Rattle.script_model.specs.Grammar.{line_of}
use Rattle.answer_model.specs.Faults.{Command, fault_of, has_no_end, is_open, max_line_len, max_lines}
use Rattle.event_script.specs.declared.LineFault.{LineFault}
use Rattle.event_script.specs.declared.LineFault.TheVariants.{Grammar, DateBack, PulsesFull, EventsFull, TooLong, TooMany, NotDry}
use Rattle.event_script.specs.declared.next.Next.{Next}
use Rattle.event_script.specs.declared.next.Next.TheVariants.{Got, Bad, End, ReadFault}
use Rattle.event_script.specs.Views.{HasMessage, IsInRange, fault_view, line_view}

-- the line after n lines says this, and is neither one too many nor too long
pub record SaysAt (n : ℕ) (line : List ℕ) (said : grammar.Line) : Type 0 where
  pub few : n < max_lines
  pub short : length line ≤ max_line_len
  pub says : line_of line ≡ Ok said

-- this is the first line of these bytes, and those are the bytes behind it
pub record IsFirst (bytes line behind : List ℕ) : Type 0 where
  pub lines : lines_of bytes ≡ line ∷ lines_of behind
  pub after : behind ≡ after_line bytes

-- the first line of these bytes, which stand behind n lines, says this, and those are the bytes behind it
pub record SaysNext (n : ℕ) (bytes : List ℕ) (said : grammar.Line) (behind : List ℕ) : Type 0 where
  pub line : List ℕ
  pub first : IsFirst bytes line behind
  pub says : SaysAt n line said

-- the line after n lines is refused for this, whatever the record in force
abbrev pub IsRefusedFor : ℕ → List ℕ → LineFault → Type 0
IsRefusedFor n line kind = (command : Command) → (r : MeterRecord) → fault_of command r n line ≡ Some (fault_view kind)

-- so is the first line of these bytes
pub record RefusesNext (n : ℕ) (bytes : List ℕ) (kind : LineFault) : Type 0 where
  pub line : List ℕ
  pub first : IsFirst bytes line (after_line bytes)
  pub why : IsRefusedFor n line kind

-- what is answered where these bytes stand behind n lines, with which message, and which of the bytes are left
abbrev pub NextGives : ℕ → List ℕ → Next → List ℕ → List ℕ → Type 0
NextGives n bytes (Got line) message left = SaysNext n bytes (line_view line message) left
NextGives n bytes (Bad kind) message left = RefusesNext n bytes kind
NextGives n bytes End message left = (bytes ≡ []) × (left ≡ [])
NextGives n bytes ReadFault message left = left ≡ bytes

-- the bytes of the last read were asked for where those before left the next line open
pub record AsksWhereOpen (n : ℕ) (held left left' : List ℕ) : Type 0 where
  pub before : List ℕ
  pub last : List ℕ
  pub delivered : left ≡ before ++ (last ++ left')
  pub needed : is_open n (held ++ before) ≡ true

abbrev pub is_got : Next → Bool
is_got (Got line) = true
is_got (Bad kind) = false
is_got End = false
is_got ReadFault = false

-- a fault that a line has by itself, whatever the record in force
abbrev pub IsOfLine : LineFault → Type 0
IsOfLine (Grammar at) = Unit {0}
IsOfLine (DateBack in_force) = ⊥
IsOfLine (PulsesFull sum) = ⊥
IsOfLine (EventsFull seq) = ⊥
IsOfLine TooLong = Unit {0}
IsOfLine TooMany = Unit {0}
IsOfLine NotDry = ⊥

-- the numbers of a line that was given are in their ranges, and one that was refused is so by itself
abbrev pub GivesInRange : Next → Type 0
GivesInRange (Got line) = IsInRange line
GivesInRange (Bad kind) = IsOfLine kind
GivesInRange End = Unit {0}
GivesInRange ReadFault = Unit {0}

-- the message of a line that was given has 1 byte at least
abbrev pub GivesMessage : Next → List ℕ → Type 0
GivesMessage (Got line) message = HasMessage line message
GivesMessage (Bad kind) message = Unit {0}
GivesMessage End message = Unit {0}
GivesMessage ReadFault message = Unit {0}

-- the first line ends behind the first bytes, so many
pub record EndsBehind (bytes : List ℕ) (len : ℕ) : Type 0 where
  pub rest : List ℕ
  pub is : bytes ≡ take len bytes ++ 10 ∷ rest
  pub front : has_no_end (take len bytes) ≡ true

-- so many bytes of a line behind n lines are too many for it, or the line is one too many
abbrev pub AreTooMany : (n len : ℕ) → Type 0
AreTooMany n len = (max_line_len < len) ⊎ ((max_lines ≤ n) × (0 < len))

-- The first bytes, so many, decide what the first line says or why it is refused: they are the line, or all that there is
-- of it so far and too many.
abbrev pub Decides : (n : ℕ) (bytes : List ℕ) (len : ℕ) → Type 0
Decides n bytes len = EndsBehind bytes len ⊎ ((has_no_end bytes ≡ true) × (len ≡ length bytes) × AreTooMany n len)

-- what is answered for this line, behind which these bytes are held, with which message, and what is held then
abbrev pub GivesLine : ℕ → List ℕ → Next → List ℕ → List ℕ → List ℕ → Type 0
GivesLine n line (Got said) message behind left = SaysAt n line (line_view said message) × (left ≡ behind)
GivesLine n line (Bad kind) message behind left = IsRefusedFor n line kind
GivesLine n line End message behind left = ⊥
GivesLine n line ReadFault message behind left = ⊥
