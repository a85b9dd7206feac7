-- Meters at whose pressure the enthalpy rises, and what they count.
use Rattle.std.specs.Prelude.{◌≡◌, ℕ, ◌≤◌, List, ◌++◌, Option, Some}
use Rattle.parts_model.specs.Ranges.{max_pressure_kpa, min_pressure_kpa}
use Rattle.number_model.specs.Fraction.{◌≤ℚ◌, ◌<ℚ◌, whole}
use Rattle.heat_model.specs.Heat.{litre_energy}
use Rattle.pt_curve.specs.Curve.{element}
use Rattle.pt_curve.specs.declared.curve.Curve.{Curve}
use Rattle.metering_model.specs.Events.{Event, Kept}
use Rattle.metering_model.specs.Settings.{Settings}
use Rattle.metering_model.specs.Counting.{Counted, counted_by}
use Rattle.metering_model.specs.Records.{MeterRecord}
use Rattle.integral_model.specs.Integral.{Temps, AreInCells, IsChoice, exact_integral}
use Rattle.slope_model.specs.Slope.{EnthalpyRises}

-- the sensors have these curves, and the pressure is from 1,100 to 4,000 kPa and one at which the enthalpy rises
pub record MetersRising (c : Settings) : Type 0 where
  pub flow : Curve
  pub ret : Curve
  pub flow_is : c.flow ≡ element flow
  pub ret_is : c.ret ≡ element ret
  pub pressure_low : min_pressure_kpa ≤ c.pressure_kpa
  pub pressure_high : c.pressure_kpa ≤ max_pressure_kpa
  pub rises : EnthalpyRises c.pressure_kpa

-- each litre that is counted gives off energy, whatever the temperatures in the cells
abbrev pub CountedLitresHeat : Settings → Type 0
CountedLitresHeat c =
    (samples : Option (ℕ × ℕ)) (event : Event) (k : Counted) (t : Temps) → counted_by c samples event ≡ Some k → AreInCells c k t
    → whole 0 <ℚ litre_energy c.pressure_kpa c.place t.flow t.ret

-- the exact integral never falls as events are appended, whatever the temperatures in the cells
abbrev pub IntegralNeverFalls : Settings → Type 0
IntegralNeverFalls c =
    (o : MeterRecord) (choice : ℕ → Temps) (ks more : List Kept) → IsChoice c o choice (ks ++ more)
    → exact_integral c o choice ks ≤ℚ exact_integral c o choice (ks ++ more)
