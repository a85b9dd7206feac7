-- What the definitions need of a meter's configuration.
use Rattle.std.specs.Prelude.{ℕ}
use Rattle.platinum_model.specs.Element.{Element}
use Rattle.parts_model.specs.Place.{Place}

-- Where the flow sensor sits, the pressure of the water in kPa, the elements of the sensors in flow and return, the
-- litres that a pulse stands for, the month of the year of the set day, and how many month entries are kept.
pub record Settings : Type 0 where
  pub place : Place
  pub pressure_kpa : ℕ
  pub flow : Element
  pub ret : Element
  pub litres_per_pulse : ℕ
  pub set_month : ℕ
  pub kept_months : ℕ
