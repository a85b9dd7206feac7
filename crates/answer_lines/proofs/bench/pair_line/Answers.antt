use Rattle.std.proofs.Common.{◌≡◌, inl, inr, true, false, refl, sym, subst}
use Rattle.platinum_model.specs.Sample.{IsInRange}
use Rattle.pt_curve.specs.Curve.{element}
use Rattle.answer_lines.specs.Bench.{IsPairJudged}
use Rattle.answer_lines.proofs.Benches.{pair_judged}
use Rattle.answer_lines.proofs.bench.pair_line.Goals as goal

pub returns-clause-text : goal.returns-clause-text
returns-clause-text c =
    let test = c.args.test in
    let judged = pair_judged (element c.nominal-curve.result) test.dmin_udeg test.tf_udeg test.tr_udeg test.rf test.rr _ _ _ _ c.judge_pair.result (c.in-Some.ensures.in_range.0 refl) (c.in-Some-cell.ensures.in_range.0 refl) c.in-Some.ensures.span c.in-Some-cell.ensures.span c.judge_pair.ensures in
    inr (c.judge_pair.result, subst (λ e. IsPairJudged e test.dmin_udeg test.tf_udeg test.tr_udeg test.rf test.rr c.judge_pair.result) c.nominal-curve.ensures judged, c.judged_line.ensures.text)

pub returns-in_default-cell-clause-text : goal.returns-in_default-cell-clause-text
returns-in_default-cell-clause-text c =
    inl (inr (λ inside. let wrong : false ≡ true = c.in_default-cell.ensures.in_range.1 (subst (λ e. IsInRange e c.args.test.rr) (sym c.nominal-curve.ensures) inside) in cc), c.ended-in_default-cell.ensures.text)
