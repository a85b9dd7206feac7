use Rattle.std.proofs.Common.{subst}
use Rattle.heat_model.specs.Heat.{LiesBetween, litre_energy}
use Rattle.pt_curve.specs.Curve.{element}
use Rattle.meter_parts.specs.Views.{place_view}
use Rattle.answer_lines.proofs.Benches.{calculator_judged, litre_near}
use Rattle.answer_lines.proofs.bench.judge_calculator.Goals as goal

pub returns : goal.returns
returns c =
    let test = c.args.test in
    let kept = rw c.unwrap-water.ensures at c.new.ensures.kept in
    let given = c.litre_energy-q.ensures in
    calculator_judged (element c.args.curve) (place_view test.place) test.p_kpa test.dmin_udeg test.rf test.rr test.litres test.energy_mj _ c.litre_energy-q.result.lo_mj c.litre_energy-q.result.hi_mj c.judge_point.result c.difference-delta_udeg.ensures
    (λ tf tr f r. subst (λ p. LiesBetween c.litre_energy-q.result.lo_mj c.litre_energy-q.result.hi_mj (litre_energy p (place_view test.place) tf tr)) kept (given.holds tf tr (c.requires.flow_cell.holds tf f) (c.requires.return_cell.holds tr r)))
    (litre_near (element c.args.curve) test.rf test.rr c.litre_energy-q.result.lo_mj c.litre_energy-q.result.hi_mj _ _ _ _ c.requires.flow_cell c.requires.return_cell given.closer) c.judge_point.ensures
