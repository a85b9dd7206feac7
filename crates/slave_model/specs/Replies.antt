-- The replies to the frames that are heard. Lists of frames have the latest first.
use Rattle.std.specs.Prelude.{ℕ, ◌+◌, ◌/◌, ◌%◌, ◌==◌, if◌then◌else◌, List, [], ◌∷◌, length, map, reverse, Option, None, Some}
use Rattle.calendar_model.specs.Entries.{last_or}
use Rattle.config_model.specs.Configuration.{Configuration}
use Rattle.metering_model.specs.Records.{MeterRecord}
use Rattle.frame_model.specs.Frames.{Frame, Ack, Short, Long}
use Rattle.telegram_model.specs.Telegram.{newest, telegram}
use Rattle.slave_model.specs.Heard.{Heard, is_to_all, is_reset, is_request, advances, advancing}

-- how many telegrams a record has
abbrev pub telegram_count : MeterRecord → ℕ
telegram_count m = (length (newest m) + 7) / 8 + 1

-- the record that the requests of a reading ask for: the one in force at the first of them
abbrev pub frozen : Heard → List Heard → MeterRecord
frozen latest before = last_or latest.in_force (map (λ h. h.in_force) before)

-- an advancing request, behind the requests of a reading: it belongs to that reading, or begins one where that
-- reading has given its last telegram or there is none
abbrev pub reading_with : Heard → List Heard → List Heard
reading_with h [] = h ∷ []
reading_with h (last ∷ before) =
    if length (last ∷ before) == telegram_count (frozen last before) then h ∷ [] else h ∷ last ∷ before

-- of advancing requests those that belong to the reading of the latest
abbrev pub reading : List Heard → List Heard
reading [] = []
reading (h ∷ before) = reading_with h (reading before)

-- how many requests advance, since the start
abbrev pub advances_heard : Configuration → List Heard → ℕ
advances_heard c [] = 0
advances_heard c (h ∷ before) = (if advances c before h.frame then 1 else 0) + advances_heard c before

-- the telegram that the latest request of a reading asks for: its number is how many came before it in the reading
abbrev pub telegram_asked : Configuration → (access : ℕ) → List Heard → Option Frame
telegram_asked c access [] = None
telegram_asked c access (h ∷ before) = telegram c (frozen h before) (length before) access

-- The reply to the latest request: where it advances, its telegram, with the number of advancing requests before it
-- as the access number; where it repeats, the reply to the request before it.
abbrev pub request_reply : Configuration → List Heard → Option Frame
request_reply c [] = None
request_reply c (h ∷ before) =
    if advances c before h.frame
    then telegram_asked c (advances_heard c before % 256) (reading (h ∷ advancing c before))
    else request_reply c before

-- a reset is acknowledged where it is not sent to all
abbrev pub reset_reply : Frame → Option Frame
reset_reply Ack = None
reset_reply (Short control a) = if is_to_all a then None else Some Ack
reset_reply (Long control a ci body) = None

-- the reply to a frame after those heard before it
abbrev pub reply_after : Configuration → (before : List Heard) → Heard → Option Frame
reply_after c before h =
    if is_reset c h.frame
    then reset_reply h.frame
    else if is_request c h.frame then request_reply c (h ∷ before) else None

-- the reply to a frame after those heard since the start, in their order
abbrev pub reply_to : Configuration → (heard : List Heard) → Heard → Option Frame
reply_to c heard h = reply_after c (reverse heard) h
