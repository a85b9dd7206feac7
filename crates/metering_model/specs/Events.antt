-- Metering events, and the events that a meter kept.
use Rattle.std.specs.Prelude.{ℕ, ℤ, List, [], ◌∷◌, ◌++◌, Option, None, Some}

pub data Event : Type 0 where
  -- samples of the sensors in flow and return, in microohms
  Sample : (flow ret : ℕ) → Event
  -- some pulses of the flow sensor
  Pulse : (n : ℕ) → Event
  -- a new day, counted from 2000-01-01
  Date : (day : ℕ) → Event

-- an event that was kept, with the energy that it added and the bound of that energy's error, in millijoules
pub record Kept : Type 0 where
  pub event : Event
  pub energy_mj : ℤ
  pub bound_mj : ℕ

abbrev pub pulses_of : Event → ℕ
pulses_of (Sample flow ret) = 0
pulses_of (Pulse n) = n
pulses_of (Date day) = 0

abbrev pub samples_of : Event → Option (Option (ℕ × ℕ))
samples_of (Sample flow ret) = Some (Some (flow, ret))
samples_of (Pulse n) = None
samples_of (Date day) = None

abbrev pub day_of : Event → Option ℕ
day_of (Sample flow ret) = None
day_of (Pulse n) = None
day_of (Date day) = Some day

-- an event, with the events that were kept before it
pub record Placed : Type 0 where
  pub before : List Kept
  pub kept : Kept

-- each of the events that were kept after `before`, in its place
abbrev pub placed_after : List Kept → List Kept → List Placed
placed_after before [] = []
placed_after before (k ∷ ks) = record { before = before; kept = k } ∷ placed_after (before ++ k ∷ []) ks

abbrev pub placed : List Kept → List Placed
placed ks = placed_after [] ks
