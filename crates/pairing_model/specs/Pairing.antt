-- Output lines answer script lines, one by one.
use Rattle.std.specs.Prelude.{◌≡◌, ◌⊎◌, ℕ, ◌+◌, ℤ, Bool, true, false, IsTrue, List, [], ◌∷◌, ◌++◌, Option, None, Some, Ok, option_map}
use Rattle.std.specs.List.{list_all}
use Rattle.metering_model.specs.Events.{Event, Kept}
use Rattle.metering_model.specs.Records.{MeterRecord}
use Rattle.trace_model.specs.Trace.{Entry, Store, Sync, Missed, Put, Arm, Cut}
use Rattle.trace_model.specs.Output.{OutputLine}
use Rattle.script_model.specs.Grammar as grammar
use Rattle.script_model.specs.Grammar.{Line, Metering, Power, Opt, Mbus, line_of}
use Rattle.answer_model.specs.Faults.{fault_of}
use Rattle.answer_model.specs.Texts.{armed_text, mbus_text, ok_text, opt_text, power_text}
use Rattle.optical_model.specs.Replies as optical
use Rattle.frame_model.specs.Frames.{Frame, Spells, frame_bytes}
use Rattle.slave_model.specs.Heard.{Heard}
use Rattle.slave_model.specs.Replies.{reply_to}
use Rattle.pairing_model.specs.Setup.{Setup, settings_in}
use Rattle.pairing_model.specs.Journal.{Journal, in_force, started}

-- ---- what happens on the board behind the output line before, up to the one that answers a line

-- a store or a sync, missed ones too, but no order of a cut and no cut
abbrev pub is_work : Entry → Bool
is_work (Store at bytes) = true
is_work Sync = true
is_work Missed = true
is_work (Put bytes) = false
is_work (Arm n keep fill) = false
is_work (Cut forced image) = false

-- the memory works for an event
abbrev pub IsWork : List Entry → Type 0
IsWork entries = IsTrue (list_all is_work entries)

-- and then the power fails, within one of its calls
pub record IsCutWork (entries : List Entry) : Type 0 where
  pub work : List Entry
  pub image : List ℕ
  pub is : entries ≡ work ++ Cut true image ∷ []
  pub worked : IsWork work

-- the power fails by a call of its own, and nothing else happens
pub record IsPowerFailure (entries : List Entry) : Type 0 where
  pub image : List ℕ
  pub is : entries ≡ Cut false image ∷ []

-- ---- the answers

-- an `ok` line keeps the event: it shows the record that stands for the events kept so far and this one
pub record Acknowledges (s : Setup) (o : MeterRecord) (old : Journal) (event : Event) (a : OutputLine) (new : Journal) : Type 0 where
  pub energy_mj : ℤ
  pub bound_mj : ℕ
  pub keeps : new ≡ record old { kept = old.kept ++ record { event = event; energy_mj = energy_mj; bound_mj = bound_mj } ∷ [] }
  pub shows : a.text ≡ ok_text (settings_in s) (in_force s o new)
  pub worked : IsWork a.segment

-- a `power` line shows the record that was recovered: it stands for these events; nothing was heard since
pub record Restarts (s : Setup) (o : MeterRecord) (kept : List Kept) (interrupted : ℕ) (text : List ℕ) (new : Journal) : Type 0 where
  pub starts : new ≡ started kept interrupted
  pub shows : text ≡ power_text (settings_in s) (in_force s o new)

-- the event alone, with some energy and bound
pub record IsEvent (event : Event) (kept : List Kept) : Type 0 where
  pub energy_mj : ℤ
  pub bound_mj : ℕ
  pub is : kept ≡ record { event = event; energy_mj = energy_mj; bound_mj = bound_mj } ∷ []

-- the power failed while the memory came to hold an event: it holds it, or not
pub record Interrupts (s : Setup) (o : MeterRecord) (old : Journal) (event : Event) (a : OutputLine) (new : Journal) : Type 0 where
  pub held : List Kept
  pub either : (held ≡ []) ⊎ IsEvent event held
  pub restarts : Restarts s o (old.kept ++ held) (old.interrupted + 1) a.text new
  pub cut : IsCutWork a.segment

-- the power failed between two events: all that was kept is held
pub record Fails (s : Setup) (o : MeterRecord) (old : Journal) (a : OutputLine) (new : Journal) : Type 0 where
  pub restarts : Restarts s o old.kept old.interrupted a.text new
  pub cut : IsPowerFailure a.segment

-- an `armed` line tells that a cut was ordered, by these numbers, and nothing else
pub record Arms (n keep fill : ℕ) (old : Journal) (a : OutputLine) (new : Journal) : Type 0 where
  pub stays : new ≡ old
  pub says : a.text ≡ armed_text
  pub ordered : a.segment ≡ Arm n keep fill ∷ []

-- an `opt` line shows the reply to a message, which then is the last one heard; nothing happens for it
pub record RepliesAtHead (s : Setup) (o : MeterRecord) (old : Journal) (message : List ℕ) (a : OutputLine) (new : Journal) : Type 0 where
  pub reply : Option (List ℕ)
  pub replies : optical.Replies s.configuration (in_force s o old) old.last_message message reply
  pub hears : new ≡ record old { last_message = Some message }
  pub shows : a.text ≡ opt_text (in_force s o old) reply
  pub still : a.segment ≡ []

-- the frame, heard while the record in force is that of the events kept
abbrev pub heard_in : Setup → MeterRecord → Journal → Frame → Heard
heard_in s o old frame = record { frame = frame; in_force = in_force s o old }

-- an `mbus` line shows the reply to a frame, which then is heard; nothing happens for it
pub record RepliesToFrame (s : Setup) (o : MeterRecord) (old : Journal) (bytes : List ℕ) (a : OutputLine) (new : Journal) : Type 0 where
  pub frame : Frame
  pub spells : Spells frame bytes
  pub hears : new ≡ record old { frames = old.frames ++ heard_in s o old frame ∷ [] }
  pub shows : a.text ≡ mbus_text (in_force s o old) (option_map frame_bytes (reply_to s.configuration old.frames (heard_in s o old frame)))
  pub still : a.segment ≡ []

-- bytes that are no frame are not heard, and have no reply
pub record IgnoresBytes (s : Setup) (o : MeterRecord) (old : Journal) (bytes : List ℕ) (a : OutputLine) (new : Journal) : Type 0 where
  pub no_frame : (frame : Frame) → ¬ (Spells frame bytes)
  pub hears : new ≡ old
  pub shows : a.text ≡ mbus_text (in_force s o old) None
  pub still : a.segment ≡ []

-- how an output line and what happened before it answer what a line says, where the journal goes from old to new
abbrev pub Replies : Setup → MeterRecord → (old : Journal) → Line → OutputLine → (new : Journal) → Type 0
Replies s o old (Metering event) a new = Acknowledges s o old event a new ⊎ Interrupts s o old event a new
Replies s o old Power a new = Fails s o old a new
Replies s o old (grammar.Cut n keep fill) a new = Arms n keep fill old a new
Replies s o old (Opt message) a new = RepliesAtHead s o old message a new
Replies s o old (Mbus bytes) a new = RepliesToFrame s o old bytes a new ⊎ IgnoresBytes s o old bytes a new

-- the line after n lines is not refused, and has this output line
pub record Answers (s : Setup) (o : MeterRecord) (n : ℕ) (old : Journal) (line : List ℕ) (a : OutputLine) (new : Journal) : Type 0 where
  pub taken : fault_of s.command (in_force s o old) n line ≡ None
  pub said : Line
  pub says : line_of line ≡ Ok said
  pub reply : Replies s o old said a new

-- output lines pair with the first lines of the script after n lines, where the journal goes from old to new
abbrev pub Pairs : Setup → MeterRecord → ℕ → (old : Journal) → List (List ℕ) → List OutputLine → (new : Journal) → Type 0
Pairs s o n old lines [] new = new ≡ old
Pairs s o n old [] (a ∷ more) new = ⊥
Pairs s o n old (l ∷ ls) (a ∷ more) new = (mid : Journal) × Answers s o n old l a mid × Pairs s o (n + 1) mid ls more new
