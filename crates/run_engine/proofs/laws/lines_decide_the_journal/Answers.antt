use Rattle.recovery_model.proofs.Decided.{lines_decide}
use Rattle.run_engine.proofs.laws.lines_decide_the_journal.Goals as goal

pub returns : goal.returns
returns c = lines_decide
