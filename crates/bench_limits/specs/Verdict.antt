-- A verdict as the definitions name it.
use Rattle.bench_model.specs.Verdicts as model
use Rattle.bench_limits.specs.declared.verdict.Verdict.{Verdict}
use Rattle.bench_limits.specs.declared.verdict.Verdict.TheVariants.{Pass, High, Low}

abbrev pub verdict_view : Verdict → model.Verdict
verdict_view Pass = model.Pass
verdict_view High = model.High
verdict_view Low = model.Low
