use Rattle.integral_model.proofs.Bounded.{all_bounded}
use Rattle.pulse_integrator.proofs.bounded.energies_are_bounded.Goals as goal

pub returns : goal.returns
returns c = all_bounded
