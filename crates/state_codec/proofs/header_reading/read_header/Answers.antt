use Rattle.std.proofs.lemmas.Result.{err_from_is_err_and}
use Rattle.state_codec.specs.Header.{identity_view, measuring_view, billing_view}
use Rattle.state_codec.proofs.Headers.{identity_fails, measuring_fails, billing_fails, calibration_fails, blank_fails, all_pass}
use Rattle.meter_parts.specs.Views.{calibration_view}
use Rattle.state_codec.proofs.header_reading.read_header.Goals as goal

pub returns-in_err-identity : goal.returns-in_err-identity
returns-in_err-identity c =
    let p = err_from_is_err_and c.from_residual.result c.from_residual.ensures.1 in
    rw (p.1, p.2) (identity_fails c.args.bytes.now c.in_err-identity.field-0.0.at c.in_err-identity.ensures)

pub returns-in_err-measuring : goal.returns-in_err-measuring
returns-in_err-measuring c =
    let p = err_from_is_err_and c.from_residual-in_err-measuring.result c.from_residual-in_err-measuring.ensures.1 in
    rw (p.1, p.2) (measuring_fails c.args.bytes.now (identity_view c.in_ok-identity.identity) c.in_err-measuring.field-0.0.at c.in_ok-identity.ensures c.in_err-measuring.ensures)

pub returns-in_err-billing : goal.returns-in_err-billing
returns-in_err-billing c =
    let p = err_from_is_err_and c.from_residual-in_err-billing.result c.from_residual-in_err-billing.ensures.1 in
    rw (p.1, p.2) (billing_fails c.args.bytes.now (identity_view c.in_ok-identity.identity) (measuring_view c.in_ok-measuring.measuring) c.in_err-billing.field-0.0.at c.in_ok-identity.ensures c.in_ok-measuring.ensures c.in_err-billing.ensures)

pub returns-in_err-cal : goal.returns-in_err-cal
returns-in_err-cal c =
    let p = err_from_is_err_and c.from_residual-in_err-cal.result c.from_residual-in_err-cal.ensures.1 in
    rw (p.1, p.2) (calibration_fails c.args.bytes.now (identity_view c.in_ok-identity.identity) (measuring_view c.in_ok-measuring.measuring) (billing_view c.in_ok-billing.billing) c.in_err-cal.field-0.0.at c.in_ok-identity.ensures c.in_ok-measuring.ensures c.in_ok-billing.ensures c.in_err-cal.ensures.said)

pub returns-in_err-check_blank : goal.returns-in_err-check_blank
returns-in_err-check_blank c =
    let p = err_from_is_err_and c.from_residual-in_err-check_blank.result c.from_residual-in_err-check_blank.ensures.1 in
    rw (p.1, p.2) (blank_fails c.args.bytes.now (identity_view c.in_ok-identity.identity) (measuring_view c.in_ok-measuring.measuring) (billing_view c.in_ok-billing.billing) (calibration_view c.in_ok-cal.cal) c.in_err-check_blank.field-0.0.at c.in_ok-identity.ensures c.in_ok-measuring.ensures c.in_ok-billing.ensures c.in_ok-cal.ensures.said c.in_err-check_blank.ensures)

pub returns : goal.returns
returns c =
    all_pass c.args.bytes.now (identity_view c.in_ok-identity.identity) (measuring_view c.in_ok-measuring.measuring) (billing_view c.in_ok-billing.billing) (calibration_view c.in_ok-cal.cal) c.in_ok-identity.ensures c.in_ok-measuring.ensures c.in_ok-billing.ensures c.in_ok-cal.ensures.said c.in_ok-check_blank.ensures
