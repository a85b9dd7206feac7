use Rattle.recovery_model.proofs.Bounded.{choice_exists}
use Rattle.run_engine.proofs.laws.temperatures_exist.Goals as goal

pub returns : goal.returns
returns c = choice_exists
