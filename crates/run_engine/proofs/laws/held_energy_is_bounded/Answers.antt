use Rattle.recovery_model.proofs.Bounded.{right_bounded}
use Rattle.run_engine.proofs.laws.held_energy_is_bounded.Goals as goal

pub returns : goal.returns
returns c = right_bounded
