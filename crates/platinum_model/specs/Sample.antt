-- What a sample of r microohms says of the temperature.
use Rattle.std.specs.Prelude.{ℕ, ◌+◌, ◌≤◌, pos}
use Rattle.std.proofs.Common.{lit<}
use Rattle.number_model.specs.Fraction.{Fraction, ◌≤ℚ◌, ◌+ℚ◌, ◌-ℚ◌, whole}
use Rattle.number_model.specs.Enclosure.{SpanHolds, max_ndeg, nanodegrees}
use Rattle.platinum_model.specs.Element.{Element, max_udeg, microdegrees, resistance}

abbrev pub half : Fraction
half = record { num = pos 1; den = 2; positive = lit< tt }

-- the sample lies within the resistances at 0 °C and 180 °C by one microohm
pub record IsInRange (e : Element) (r : ℕ) : Type 0 where
  pub above : (resistance e (whole 0) +ℚ whole 1) ≤ℚ whole r
  pub below : whole r ≤ℚ (resistance e (whole 180) -ℚ whole 1)

-- t is the greatest whole number of microdegrees from 0 to 180 °C at which the resistance is at most r
pub record IsWholeTemp (e : Element) (r t : ℕ) : Type 0 where
  pub range : t ≤ max_udeg
  pub reached : resistance e (microdegrees t) ≤ℚ whole r
  pub greatest : (s : ℕ) → s ≤ max_udeg → resistance e (microdegrees s) ≤ℚ whole r → s ≤ t

-- The temperature t from 0 to 180 °C has a resistance that the sample stands for: within half a microohm of it.
-- The limits on t keep out the second root of the quadratic.
pub record IsInCell (e : Element) (r : ℕ) (t : Fraction) : Type 0 where
  pub above_0 : whole 0 ≤ℚ t
  pub below_180 : t ≤ℚ whole 180
  pub low : (whole r -ℚ half) ≤ℚ resistance e t
  pub high : resistance e t ≤ℚ (whole r +ℚ half)

-- Among the whole nanodegrees from 0 to 180 °C, lo is the greatest at which the resistance is at most r - 1/2,
-- and hi the least at which it is at least r + 1/2.
pub record AreCellEnds (e : Element) (r lo hi : ℕ) : Type 0 where
  pub lo_range : lo ≤ max_ndeg
  pub lo_before : resistance e (nanodegrees lo) ≤ℚ (whole r -ℚ half)
  pub lo_greatest : (s : ℕ) → s ≤ max_ndeg → resistance e (nanodegrees s) ≤ℚ (whole r -ℚ half) → s ≤ lo
  pub hi_range : hi ≤ max_ndeg
  pub hi_after : (whole r +ℚ half) ≤ℚ resistance e (nanodegrees hi)
  pub hi_least : (s : ℕ) → s ≤ max_ndeg → (whole r +ℚ half) ≤ℚ resistance e (nanodegrees s) → hi ≤ s

-- lo and hi nanodegrees are the ends of the cell, the whole cell lies between them, and they are at most 2,800 apart
pub record IsCellSpan (e : Element) (r lo hi : ℕ) : Type 0 where
  pub ends : AreCellEnds e r lo hi
  pub holds : (t : Fraction) → IsInCell e r t → SpanHolds lo hi t
  pub width : hi ≤ lo + 2800
