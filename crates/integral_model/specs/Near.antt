-- How near the energy of events is to their exact integral, whatever the temperatures in the cells, and that there are some.
use Rattle.std.specs.Prelude.{ℕ, ◌*◌, ◌≤◌, pos, List}
use Rattle.number_model.specs.Enclosure.{nanodegrees}
use Rattle.platinum_model.specs.Element.{Element}
use Rattle.platinum_model.specs.Sample.{IsInCell}
use Rattle.metering_model.specs.Events.{Kept}
use Rattle.metering_model.specs.Settings.{Settings}
use Rattle.metering_model.specs.Records.{MeterRecord, bound_in, energy_in}
use Rattle.integral_model.specs.Integral.{IsChoice, IsNear, Temps, counted_litres, exact_integral, max_bound_per_litre}

-- Whatever temperatures the samples stand for, the energy of the events differs from their exact integral by at most their
-- bound, and by at most 600 mJ a counted litre. And their bound is at most 2,000 mJ a counted litre.
pub record AreNear (c : Settings) (o : MeterRecord) (ks : List Kept) : Type 0 where
  pub near : (choice : ℕ → Temps) → IsChoice c o choice ks → IsNear (energy_in ks) (pos (bound_in ks)) (exact_integral c o choice ks)
  pub finer : (choice : ℕ → Temps) → IsChoice c o choice ks → IsNear (energy_in ks) (pos (600 * counted_litres c o ks)) (exact_integral c o choice ks)
  pub cap : bound_in ks ≤ max_bound_per_litre * counted_litres c o ks

-- some whole number of nanodegrees lies in the cell of the sample
abbrev pub HasNanodegree : Element → ℕ → Type 0
HasNanodegree e r = (n : ℕ) × IsInCell e r (nanodegrees n)

-- there are temperatures that the samples stand for, at each of the events
abbrev pub HasChoice : Settings → MeterRecord → List Kept → Type 0
HasChoice c o ks = (choice : ℕ → Temps) × IsChoice c o choice ks
