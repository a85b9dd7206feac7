use Rattle.slope_cert.proofs.Metered.{litres_heat, never_falls}
use Rattle.slope_cert.proofs.laws.metered_energy_never_falls.Goals as goal

pub returns-clause-litres : goal.returns-clause-litres
returns-clause-litres c = litres_heat

pub returns-clause-integral : goal.returns-clause-integral
returns-clause-integral c = never_falls
