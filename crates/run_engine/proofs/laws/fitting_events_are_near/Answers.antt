use Rattle.recovery_model.proofs.Bounded.{margin_is_near}
use Rattle.run_engine.proofs.laws.fitting_events_are_near.Goals as goal

pub returns : goal.returns
returns c = margin_is_near
