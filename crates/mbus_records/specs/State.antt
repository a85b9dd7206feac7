-- The state of a slave after the frames that it has heard.
use Rattle.std.specs.Prelude.{◌≡◌, ℕ, ◌+◌, ◌%◌, ◌<◌, List, [], ◌∷◌, length, reverse, Option, None, Some}
use Rattle.config_model.specs.Configuration.{Configuration}
use Rattle.metering_model.specs.Records as records
use Rattle.frame_model.specs.Frames as frames
use Rattle.telegram_model.specs.Telegram.{telegram}
use Rattle.slave_model.specs.Heard.{Heard, last_control, advancing}
use Rattle.slave_model.specs.Replies.{telegram_count, frozen, reading, advances_heard, request_reply}
use Rattle.billing_memory.specs.Records.{record_view}
use Rattle.billing_memory.specs.declared.meter_record.MeterRecord.{MeterRecord}
use Rattle.mbus_link.specs.Views.{frame_view}
use Rattle.mbus_link.specs.declared.frame.Frame.{Frame}
use Rattle.mbus_records.specs.Orders.{IsRequestWith}
use Rattle.mbus_records.specs.Readings.{IsAt}
use Rattle.mbus_records.specs.declared.reading.Reading.{Reading}
use Rattle.mbus_records.specs.declared.slave.Slave.{Slave}

-- a frame that is heard while this record is in force
abbrev pub heard_now : Frame → MeterRecord → Heard
heard_now f m = record { frame = frame_view f; in_force = record_view m }

-- the reading has come to what the latest of these requests asks for
abbrev pub IsAsked : List Heard → Reading → Type 0
IsAsked [] r = ⊥
IsAsked (h ∷ before) r = IsAt r (frozen h before) (length before)

-- the reply to the last request
abbrev pub reply_of : Configuration → (access : ℕ) → Option Reading → Option frames.Frame
reply_of c access None = None
reply_of c access (Some r) = telegram c (record_view r.frozen) r.number ((access + 255) % 256)

abbrev pub last_reply_of : Configuration → Slave → Option frames.Frame
last_reply_of c s = reply_of c s.access s.reading

-- no request since the reset
pub record IsIdle (c : Configuration) (past : List Heard) : Type 0 where
  pub control : last_control c past ≡ None
  pub none : advancing c past ≡ []

-- a reading since the reset
pub record IsUnderWay (c : Configuration) (past : List Heard) (access : ℕ) (r : Reading) : Type 0 where
  pub control : last_control c past ≡ Some r.control
  pub asked : IsAsked (reading (advancing c past)) r
  pub there : r.number < telegram_count (record_view r.frozen)
  pub reply : request_reply c past ≡ reply_of c access (Some r)

abbrev pub IsReadingAfter : Configuration → List Heard → (access : ℕ) → Option Reading → Type 0
IsReadingAfter c past access None = IsIdle c past
IsReadingAfter c past access (Some r) = IsUnderWay c past access r

-- the state after these frames, the latest first
pub record IsAfterLatest (c : Configuration) (past : List Heard) (s : Slave) : Type 0 where
  pub access : s.access ≡ advances_heard c past % 256
  pub reading : IsReadingAfter c past s.access s.reading

-- the state after the frames heard since the start, in their order
abbrev pub IsAfter : Configuration → (heard : List Heard) → Slave → Type 0
IsAfter c heard s = IsAfterLatest c (reverse heard) s

-- what a request with this control field does, while this record is in force
abbrev pub TakesRequest : (control : ℕ) → records.MeterRecord → (old new : Slave) → Type 0
TakesRequest control in_force old new =
    (c : Configuration) → (past : List Heard) → (h : Heard) → IsAfterLatest c past old → IsRequestWith c h.frame control → h.in_force ≡ in_force → IsAfterLatest c (h ∷ past) new
