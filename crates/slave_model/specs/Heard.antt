-- What the frames that are heard ask of the meter. Lists of frames have the latest first.
use Rattle.std.specs.Prelude.{ℕ, ◌==◌, Bool, false, not, ◌&&◌, ◌||◌, if◌then◌else◌, List, [], ◌∷◌, Option, None, Some}
use Rattle.config_model.specs.Configuration.{Configuration}
use Rattle.metering_model.specs.Records.{MeterRecord}
use Rattle.frame_model.specs.Frames.{Frame, Ack, Short, Long}

-- a frame, and the record in force when it is heard
pub record Heard : Type 0 where
  pub frame : Frame
  pub in_force : MeterRecord

-- sent to the meter alone: its address, or FE, which is whichever slave there is
abbrev pub is_own : Configuration → ℕ → Bool
is_own c a = (a == c.address) || (a == 254)

-- sent to all: FF
abbrev pub is_to_all : ℕ → Bool
is_to_all a = a == 255

-- a reset: a short frame of control field 40 to the meter or to all
abbrev pub is_reset : Configuration → Frame → Bool
is_reset c Ack = false
is_reset c (Short control a) = (control == 64) && (is_own c a || is_to_all a)
is_reset c (Long control a ci body) = false

-- a request: a short frame of control field 5B or 7B to the meter
abbrev pub is_request : Configuration → Frame → Bool
is_request c Ack = false
is_request c (Short control a) = ((control == 91) || (control == 123)) && is_own c a
is_request c (Long control a ci body) = false

-- the control field of a frame that has one
abbrev pub control_of : Frame → Option ℕ
control_of Ack = None
control_of (Short control a) = Some control
control_of (Long control a ci body) = Some control

-- the control field of the last request after the last reset, or after the start
abbrev pub last_control : Configuration → List Heard → Option ℕ
last_control c [] = None
last_control c (h ∷ before) =
    if is_reset c h.frame then None else if is_request c h.frame then control_of h.frame else last_control c before

abbrev pub is_same : Option ℕ → Option ℕ → Bool
is_same None other = false
is_same (Some x) None = false
is_same (Some x) (Some y) = x == y

-- a request repeats where the last one since the reset has the same control field
abbrev pub repeats : Configuration → List Heard → Frame → Bool
repeats c before frame = is_request c frame && is_same (last_control c before) (control_of frame)

-- every other request advances
abbrev pub advances : Configuration → List Heard → Frame → Bool
advances c before frame = is_request c frame && not (repeats c before frame)

-- the advancing requests since the last reset, or since the start
abbrev pub advancing : Configuration → List Heard → List Heard
advancing c [] = []
advancing c (h ∷ before) =
    if is_reset c h.frame then [] else if advances c before h.frame then h ∷ advancing c before else advancing c before
