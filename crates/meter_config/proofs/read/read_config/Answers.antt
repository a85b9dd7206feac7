use Rattle.std.proofs.Common.{arith}
use Rattle.meter_config.proofs.Steps.{Answers-ok, Answers-err, accepted-value, accepted-none}
use Rattle.meter_config.specs.Views.{config_view}
use Rattle.meter_config.proofs.read.read_config.Goals as goal

pub returns-in-Ok-clause-ok : goal.returns-in-Ok-clause-ok
returns-in-Ok-clause-ok c =
    Answers-ok config_view c.config_of.result _ _ (accepted-value c.args.text.now _ (omega arith) c.in-Ok.ensures.ok.0 c.in-Ok.ensures.ok.1) c.config_of.ensures.said

pub returns-in-Ok-clause-err : goal.returns-in-Ok-clause-err
returns-in-Ok-clause-err c =
    Answers-err config_view c.config_of.result _ _ (accepted-value c.args.text.now _ (omega arith) c.in-Ok.ensures.ok.0 c.in-Ok.ensures.ok.1) c.config_of.ensures.said

pub returns-in-Err-2-clause-err : goal.returns-in-Err-2-clause-err
returns-in-Err-2-clause-err c =
    λ _. accepted-none c.args.text.now (omega arith) (c.in-Err.ensures.err (λ memory. let told = c.is_memory.ensures.1 memory in cc))
