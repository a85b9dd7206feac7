-- The events that a number, the seed, generates.
use Rattle.std.specs.Prelude.{ℕ, zero, suc, ◌+◌, ◌*◌, ◌/◌, ◌%◌, ◌^◌, ◌==◌, if◌then◌else◌}
use Rattle.calendar_model.specs.Calendar.{day_number}
use Rattle.metering_model.specs.Events.{Event, Sample, Pulse, Date}

-- the next number of the linear congruential generator with the factor and the summand of MMIX
unfoldable pub next_number : ℕ → ℕ
next_number x = (6364136223846793005 * x + 1442695040888963407) % 2 ^ 64

-- the number that stands behind event i; the seed stands before event 1
unfoldable pub number_at : (seed : ℕ) → ℕ → ℕ
number_at seed zero = seed
number_at seed (suc i) = next_number (number_at seed i)

-- the draw of event i: the upper 32 bits of that number
abbrev pub draw_at : (seed i : ℕ) → ℕ
draw_at seed i = number_at seed i / 2 ^ 32

-- the event i, from 1 on, with the draw u
abbrev pub event_with : (i u : ℕ) → Event
event_with i u =
    if i % 1000 == 0 then Date (day_number 2024 1 15 + i / 1000)
    else if i % 10 == 1 then Sample (600000000 + u % 200000000) (510000000 + u % 80000000)
    else Pulse (1 + u % 9)

-- the event i, from 1 on: samples in flow and return in microohms, pulses, and each 1,000th time the next day
unfoldable pub event_at : (seed i : ℕ) → Event
event_at seed i = event_with i (draw_at seed i)
