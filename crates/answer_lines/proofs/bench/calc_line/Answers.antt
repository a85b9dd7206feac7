use Rattle.std.proofs.Common.{inl, inr, subst, sym}
use Rattle.platinum_model.specs.Sample.{IsInRange}
use Rattle.answer_lines.proofs.bench.calc_line.Goals as goal

pub returns-in-FlowOut-clause-text : goal.returns-in-FlowOut-clause-text
returns-in-FlowOut-clause-text c =
    let out = (c.judge.ensures.flow_out.0 c.in-FlowOut.is).0 in
    inl (inl (λ inside. out (subst (λ e. IsInRange e c.args.test.rf) (sym c.nominal-curve.ensures) inside)), c.ended.ensures.text)

pub returns-in-ReturnOut-clause-text : goal.returns-in-ReturnOut-clause-text
returns-in-ReturnOut-clause-text c =
    let out = (c.judge.ensures.return_out.0 c.in-ReturnOut.is).1 in
    inl (inr (λ inside. out (subst (λ e. IsInRange e c.args.test.rr) (sym c.nominal-curve.ensures) inside)), c.ended-in-ReturnOut.ensures.text)

pub returns-in-BothOut-clause-text : goal.returns-in-BothOut-clause-text
returns-in-BothOut-clause-text c =
    let out = (c.judge.ensures.both_out.0 c.in-BothOut.is).0 in
    inl (inl (λ inside. out (subst (λ e. IsInRange e c.args.test.rf) (sym c.nominal-curve.ensures) inside)), c.ended-in-BothOut.ensures.text)
