use Rattle.std.proofs.Common.{◌∙◌, arith}
use Rattle.meter_cli.proofs.Lines.{line_went, line_failed, lines_done}
use Rattle.meter_cli.specs.declared.status.Status.TheVariants.{Done, Write}
use Rattle.meter_cli.proofs.puts.put_lines.Goals as goal

pub loop-line-preserved : goal.loop-line-preserved
loop-line-preserved g c = record {
  goes_on = λ tells new status rest.
      c.loop-line.invariant.goes_on tells new status
      (line_went c.args.lines.now c.loop-line.line-index c.line-item.result c.as_bytes.result.now c.loop-line-test.true c.line-item.is (c.as_bytes.ensures.value ∙ c.as_str.ensures.value) _ _ new status (c.in-Ok.ensures.gives tells) rest);
  memory_untouched = c.put.ensures.memory_calls ∙ c.loop-line.invariant.memory_untouched;
  later = omega (arith, c.loop-line.invariant.later, c.put.ensures.cause.later);
}

pub returns-in-Err-clause-puts : goal.returns-in-Err-clause-puts
returns-in-Err-clause-puts g c = λ tells.
    c.loop-line.invariant.goes_on tells _ Write
    (line_failed c.args.lines.now c.loop-line.line-index c.line-item.result c.as_bytes.result.now c.loop-line-test.true c.line-item.is (c.as_bytes.ensures.value ∙ c.as_str.ensures.value) _ _ (c.in-Err.ensures.gives tells))

pub returns-clause-puts : goal.returns-clause-puts
returns-clause-puts g c = λ tells.
    c.loop-line.invariant.goes_on tells _ Done (lines_done c.args.lines.now c.loop-line.line-index _ c.loop-line-test.false)
