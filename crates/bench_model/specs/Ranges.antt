-- The ranges of what a test bench judges.
use Rattle.std.specs.Prelude.{ℕ, ◌≤◌, ◌<◌}
use Rattle.platinum_model.specs.Element.{max_udeg}

-- the most litres that a calculator is tested with, and the most millijoules that it may indicate
abbrev pub max_litres : ℕ
max_litres = 1000000000

abbrev pub max_energy : ℕ
max_energy = 1000000000000000000

-- the classes of flow sensors are 1 to 3
abbrev pub last_class : ℕ
last_class = 3

-- the greatest flow that a flow sensor is tested with, in the unit of its permanent flow, and the most millilitres
abbrev pub max_flow : ℕ
max_flow = 1000000000

abbrev pub max_volume : ℕ
max_volume = 1000000000000

abbrev pub IsLeastDifference : ℕ → Type 0
IsLeastDifference dmin = (1 ≤ dmin) × (dmin ≤ max_udeg)

-- a calculator's least difference, the litres that it is given, and the energy that it indicates
abbrev pub IsCalculator : (dmin litres energy : ℕ) → Type 0
IsCalculator dmin litres energy = IsLeastDifference dmin × (1 ≤ litres) × (litres ≤ max_litres) × (energy ≤ max_energy)

-- a sensor pair's least difference, and the true temperatures in flow and return
abbrev pub IsSensorPair : (dmin tf tr : ℕ) → Type 0
IsSensorPair dmin tf tr = IsLeastDifference dmin × (tr < tf) × (tf ≤ max_udeg)

abbrev pub IsFlow : ℕ → Type 0
IsFlow q = (1 ≤ q) × (q ≤ max_flow)

-- a flow sensor's class, its permanent flow and a flow, and the volumes that flowed and that it indicates
abbrev pub IsFlowSensor : (class qp q reference indicated : ℕ) → Type 0
IsFlowSensor class qp q reference indicated = (1 ≤ class) × (class ≤ last_class) × IsFlow qp × IsFlow q × (1 ≤ reference) × (reference ≤ max_volume) × (indicated ≤ max_volume)
