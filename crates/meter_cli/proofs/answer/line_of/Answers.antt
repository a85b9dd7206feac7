use Rattle.std.proofs.Common.{subst, sym}
use Rattle.meter_cli.specs.Answer.{IsAnswer}
use Rattle.meter_cli.proofs.answer.line_of.Goals as goal

pub returns-in-BenchCalc-clause-text : goal.returns-in-BenchCalc-clause-text
returns-in-BenchCalc-clause-text c = subst (λ query. IsAnswer query c.calc_line.result.bytes) (sym c.in-BenchCalc.is) c.calc_line.ensures.text

pub returns-in-BenchPair-clause-text : goal.returns-in-BenchPair-clause-text
returns-in-BenchPair-clause-text c = subst (λ query. IsAnswer query c.pair_line.result.bytes) (sym c.in-BenchPair.is) c.pair_line.ensures.text
