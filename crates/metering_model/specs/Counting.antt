-- When samples are in range, and when they count energy.
use Rattle.std.specs.Prelude.{ℕ, zero, suc, ◌+◌, ◌*◌, Bool, ◌&&◌, cond, nat_le, int_le, pos, ◌*ℤ◌, Option, None, Some}
use Rattle.number_model.specs.Fraction.{Fraction, ◌+ℚ◌, ◌-ℚ◌, whole}
use Rattle.platinum_model.specs.Element.{Element, max_udeg, microdegrees, resistance}
use Rattle.metering_model.specs.Events.{Event, Sample, Pulse, Date}
use Rattle.metering_model.specs.Settings.{Settings}

-- whether x is at most y
abbrev pub is_at_most : Fraction → Fraction → Bool
is_at_most x y = int_le (x.num *ℤ pos y.den) (y.num *ℤ pos x.den)

-- whether a sample lies within the resistances at 0 °C and 180 °C by one microohm
unfoldable pub is_in_range : Element → ℕ → Bool
is_in_range e r =
    is_at_most (resistance e (whole 0) +ℚ whole 1) (whole r) && is_at_most (whole r) (resistance e (whole 180) -ℚ whole 1)

-- the greatest whole number of microdegrees up to n at which the resistance is at most r
unfoldable pub greatest_to : ℕ → Element → ℕ → ℕ
greatest_to zero e r = 0
greatest_to (suc n) e r = cond (is_at_most (resistance e (microdegrees (suc n))) (whole r)) (suc n) (greatest_to n e r)

-- the whole temperature of a sample in range, in microdegrees
unfoldable pub whole_temp : Element → ℕ → ℕ
whole_temp e r = greatest_to max_udeg e r

-- whether both samples are in range, and the flow is warmer by at least 10,000 microdegrees
abbrev pub counts : Settings → ℕ → ℕ → Bool
counts c rf rr =
    is_in_range c.flow rf && is_in_range c.ret rr && nat_le (whole_temp c.ret rr + 10000) (whole_temp c.flow rf)

-- pulses that count energy: the samples in force, and the litres
pub record Counted : Type 0 where
  pub flow : ℕ
  pub ret : ℕ
  pub litres : ℕ

-- what an event counts while these samples are in force
abbrev pub counted_by : Settings → Option (ℕ × ℕ) → Event → Option Counted
counted_by c None event = None
counted_by c (Some s) (Sample flow ret) = None
counted_by c (Some s) (Date day) = None
counted_by c (Some s) (Pulse n) =
    cond (counts c s.0 s.1) (Some (record { flow = s.0; ret = s.1; litres = n * c.litres_per_pulse })) None

-- the pulses of an event that come while samples are in force and one of them is out of range
abbrev pub faulty_by : Settings → Option (ℕ × ℕ) → ℕ → ℕ
faulty_by c None n = 0
faulty_by c (Some s) n = cond (is_in_range c.flow s.0 && is_in_range c.ret s.1) 0 n
