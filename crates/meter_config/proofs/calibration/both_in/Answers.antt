use Rattle.std.proofs.Common.{◌≡◌, true, false, arith}
use Rattle.accept_model.specs.Calibration.{are_six, calibration}
use Rattle.serde_json.specs.Find.{as_object}
use Rattle.serde_json.specs.View.{view}
use Rattle.meter_config.proofs.Calibrations.{not_six, both_fit, both_found, no_flow_found, no_ret_found}
use Rattle.meter_config.proofs.calibration.both_in.Goals as goal

pub returns-then-not-has_six-clause-said : goal.returns-then-not-has_six-clause-said
unfolding calibration
returns-then-not-has_six-clause-said c =
    let other : are_six (as_object (view c.args.value.now)) ≡ false = grind (arith, c.has_six.ensures, c.if-not-has_six.true) in
    not_six _ _ other

pub returns-in-Some-Some-clause-said : goal.returns-in-Some-Some-clause-said
unfolding calibration
returns-in-Some-Some-clause-said c =
    let six : are_six (as_object (view c.args.value.now)) ≡ true = grind (arith, c.has_six.ensures, c.if-not-has_six.false) in
    both_found _ _ _ c.cal_in-flow.result c.cal_in-ret.result c.in-Some-Some.flow c.in-Some-Some.ret six c.cal_in-flow.ensures.said c.cal_in-ret.ensures.said c.in-Some-Some.is-0 c.in-Some-Some.is-1

pub returns-in-Some-Some-clause-range : goal.returns-in-Some-Some-clause-range
returns-in-Some-Some-clause-range c =
    both_fit _ c.cal_in-flow.result c.cal_in-ret.result c.in-Some-Some.flow c.in-Some-Some.ret c.cal_in-flow.ensures.fits c.cal_in-ret.ensures.fits c.in-Some-Some.is-0 c.in-Some-Some.is-1

pub returns-in_default-clause-said : goal.returns-in_default-clause-said
unfolding calibration
returns-in_default-clause-said c =
    no_ret_found _ _ _ c.cal_in-ret.result c.cal_in-ret.ensures.said c.in_default.is-1

pub returns-in_default-2-clause-said : goal.returns-in_default-2-clause-said
unfolding calibration
returns-in_default-2-clause-said c =
    no_flow_found _ _ _ c.cal_in-flow.result c.cal_in-flow.ensures.said c.in_default.is-0
