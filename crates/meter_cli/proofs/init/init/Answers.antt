use Rattle.trace_model.specs.Moments.{same}
use Rattle.meter_cli.proofs.init.init.Goals as goal

pub returns-in-Err-clause-moments : goal.returns-in-Err-clause-moments
returns-in-Err-clause-moments g c = λ config reads tells accepts. same
