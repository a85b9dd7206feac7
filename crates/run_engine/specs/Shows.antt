-- What a readout shows.
use Rattle.std.specs.Prelude.{◌≡◌, ◌⊎◌, ℕ, List, [], ◌∷◌, ◌++◌, Option, None, Result, option_map}
use Rattle.metering_model.specs.Records.{MeterRecord}
use Rattle.trace_model.specs.Trace.{Trace}
use Rattle.config_model.specs.Configuration.{Configuration}
use Rattle.answer_model.specs.Texts.{mbus_text, opt_text}
use Rattle.optical_model.specs.Replies.{Replies}
use Rattle.frame_model.specs.Frames.{Frame, Spells, frame_bytes}
use Rattle.slave_model.specs.Heard.{Heard}
use Rattle.slave_model.specs.Replies.{reply_to}
use Rattle.meter_board.specs.Puts.{PutGives}
use Rattle.mbus_records.specs.State.{IsAfter}
use Rattle.mbus_records.specs.declared.slave.Slave.{Slave}

-- the reply to a message is shown, where this was the last one before it
pub record ShowsReply (c : Configuration) (r : MeterRecord) (last : Option (List ℕ)) (message : List ℕ) {T E : Type 0} (t : Trace) (result : Result T E) (t' : Trace) : Type 0 where
  pub reply : Option (List ℕ)
  pub replies : Replies c r last message reply
  pub shown : PutGives t (opt_text r reply) result t'

-- the bytes spell this frame, which the slave now has heard, and this is the reply
pub record RepliesToFrame (c : Configuration) (r : MeterRecord) (heard : List Heard) (bytes : List ℕ) (reply : Option (List ℕ)) (new : Slave) : Type 0 where
  pub frame : Frame
  pub spells : Spells frame bytes
  pub reply_is : reply ≡ option_map frame_bytes (reply_to c heard (record { frame = frame; in_force = r }))
  pub after : IsAfter c (heard ++ record { frame = frame; in_force = r } ∷ []) new

-- the bytes spell no frame: nothing is heard, and there is no reply
pub record IgnoresBytes (c : Configuration) (heard : List Heard) (bytes : List ℕ) (reply : Option (List ℕ)) (new : Slave) : Type 0 where
  pub no_frame : (frame : Frame) → ¬ (Spells frame bytes)
  pub reply_is : reply ≡ None
  pub after : IsAfter c heard new

abbrev pub RepliesOnBus : Configuration → MeterRecord → List Heard → List ℕ → Option (List ℕ) → Slave → Type 0
RepliesOnBus c r heard bytes reply new = RepliesToFrame c r heard bytes reply new ⊎ IgnoresBytes c heard bytes reply new

-- and the reply is shown
pub record ShowsOnBus (c : Configuration) (r : MeterRecord) (heard : List Heard) (bytes : List ℕ) (new : Slave) {T E : Type 0} (t : Trace) (result : Result T E) (t' : Trace) : Type 0 where
  pub reply : Option (List ℕ)
  pub replies : RepliesOnBus c r heard bytes reply new
  pub shown : PutGives t (mbus_text r reply) result t'
