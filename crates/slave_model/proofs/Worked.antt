-- Replies of a meter at address 1, worked by hand.
use Rattle.std.proofs.Common.{◌≡◌, ℕ, List, [], ◌∷◌, Option, None, Some, pos, refl}
use Rattle.calendar_model.specs.Entries.{MonthEntry}
use Rattle.config_model.specs.Standard.{standard}
use Rattle.metering_model.specs.Records.{Register, MeterRecord}
use Rattle.frame_model.specs.Frames.{Frame, Ack, Short}
use Rattle.telegram_model.specs.Telegram.{telegram}
use Rattle.slave_model.specs.Heard.{Heard}
use Rattle.slave_model.specs.Replies.{reply_to}

abbrev register : Register
register = record { pulses = 3; energy_mj = pos 0; bound_mj = 0 }

-- a record on a day, with these month entries
abbrev record_on : ℕ → List (MonthEntry Register) → MeterRecord
record_on day months = record {
  seq = 1;
  day = day;
  samples = None;
  faulty = 0;
  register = register;
  months = months;
  set_day = None;
}

abbrev entry : MonthEntry Register
entry = record { day = 8797; register = register }

-- 2024-01-15 without month entries, 2024-02-01 with one and 2024-03-01 with two
abbrev january : MeterRecord
january = record_on 8780 []

abbrev february : MeterRecord
february = record_on 8797 (entry ∷ [])

abbrev march : MeterRecord
march = record_on 8826 (entry ∷ entry ∷ [])

-- a record with 13 month entries has three telegrams
abbrev full : MeterRecord
full = record_on 9200 (entry ∷ entry ∷ entry ∷ entry ∷ entry ∷ entry ∷ entry ∷ entry ∷ entry ∷ entry ∷ entry ∷ entry ∷ entry ∷ [])

abbrev short : (control address : ℕ) → MeterRecord → Heard
short control address in_force = record { frame = Short control address; in_force = in_force }

-- requests with the control fields 5B and 7B, and a reset
abbrev ask_5b : MeterRecord → Heard
ask_5b in_force = short 91 1 in_force

abbrev ask_7b : MeterRecord → Heard
ask_7b in_force = short 123 1 in_force

abbrev reset : MeterRecord → Heard
reset in_force = short 64 1 in_force

abbrev reply : List Heard → Heard → Option Frame
reply heard h = reply_to standard heard h

-- a reset to the meter is acknowledged, also to whichever slave there is; one to all or to another address is not
acknowledged : reply [] (reset january) ≡ Some Ack
acknowledged = refl

whichever : reply [] (short 64 254 january) ≡ Some Ack
whichever = refl

silent : reply [] (short 64 255 january) ≡ None
silent = refl

for_another : reply [] (short 64 2 january) ≡ None
for_another = refl

-- a request to all, one to another address, and one to FD have no reply; an acknowledgement has none
to_all : reply [] (short 123 255 january) ≡ None
to_all = refl

to_another : reply [] (short 123 2 january) ≡ None
to_another = refl

to_none : reply [] (short 123 253 january) ≡ None
to_none = refl

answer : reply [] (record { frame = Ack; in_force = january }) ≡ None
answer = refl

-- a first request, and the same again
first : reply [] (ask_7b january) ≡ telegram standard january 0 0
first = refl

again : reply (ask_7b january ∷ []) (ask_7b february) ≡ telegram standard january 0 0
again = refl

-- the next telegram is of the record that the reading has frozen
frozen_record : reply (ask_7b february ∷ []) (ask_5b march) ≡ telegram standard february 1 1
frozen_record = refl

-- where there is no further telegram, a reading begins anew
anew : reply (ask_7b january ∷ []) (ask_5b february) ≡ telegram standard february 0 1
anew = refl

-- after a reset a reading begins anew, and the access number goes on
after_reset : reply (ask_7b january ∷ reset january ∷ []) (ask_7b february) ≡ telegram standard february 0 1
after_reset = refl

after_reset_of_all : reply (ask_7b january ∷ short 64 255 january ∷ []) (ask_7b february) ≡ telegram standard february 0 1
after_reset_of_all = refl

-- frames for another address change nothing
others : reply (short 123 2 january ∷ ask_7b february ∷ short 64 2 march ∷ short 91 255 march ∷ []) (ask_5b march) ≡ telegram standard february 1 1
others = refl

-- a repeated request has the reply of the request before it, also behind a repeated one
third_time : reply (ask_7b february ∷ ask_5b march ∷ ask_5b march ∷ []) (ask_5b march) ≡ telegram standard february 1 1
third_time = refl

-- three telegrams of 13 month entries, and a reading anew
second_of_full : reply (ask_7b full ∷ []) (ask_5b march) ≡ telegram standard full 1 1
second_of_full = refl

third_of_full : reply (ask_7b full ∷ ask_5b march ∷ []) (ask_7b march) ≡ telegram standard full 2 2
third_of_full = refl

after_full : reply (ask_7b full ∷ ask_5b march ∷ ask_5b march ∷ ask_7b march ∷ []) (ask_5b march) ≡ telegram standard march 0 3
after_full = refl
