-- What the code's frames are, in the words of the definitions.
use Rattle.std.specs.Prelude.{ℕ, List, Option, None, Some}
use Rattle.frame_model.specs.Frames as frames
use Rattle.frame_model.specs.Frames.{Spells}
use Rattle.mbus_link.specs.declared.frame.Frame.{Frame}
use Rattle.mbus_link.specs.declared.frame.Frame.TheVariants.{Ack, Short, Long}

abbrev pub frame_view : Frame → frames.Frame
frame_view Ack = frames.Ack
frame_view (Short c a) = frames.Short c a
frame_view (Long c a ci body) = frames.Long c a ci body.items

-- the bytes are those of this frame, or of none
abbrev pub Parses : List ℕ → Option Frame → Type 0
Parses bytes (Some f) = Spells (frame_view f) bytes
Parses bytes None = (f : frames.Frame) → ¬ (Spells f bytes)
