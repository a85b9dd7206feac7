-- The output of `temp`.
use Rattle.std.specs.Prelude.{◌≡◌, ◌⊎◌, ℕ, List, ◌++◌, codes}
use Rattle.std.specs.Fmt.{decimal}
use Rattle.platinum_model.specs.Element.{Element, nominal}
use Rattle.platinum_model.specs.Sample.{IsInRange, IsWholeTemp}
use Rattle.meter_parts.specs.Views.{nominal_r0}
use Rattle.meter_parts.specs.declared.sensor.Sensor.{Sensor}

-- the element of a sensor with the nominal constants
abbrev pub element_of : Sensor → Element
element_of sensor = nominal (nominal_r0 sensor)

-- the whole temperature of a sample in microdegrees, or `out` where it is out of range
abbrev pub IsTempText : Element → ℕ → List ℕ → Type 0
IsTempText e r text = (IsInRange e r × (t : ℕ) × IsWholeTemp e r t × (text ≡ decimal t ++ codes "\n")) ⊎ ((IsInRange e r → ⊥) × (text ≡ codes "out\n"))
