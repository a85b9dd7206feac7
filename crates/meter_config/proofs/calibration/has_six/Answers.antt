use Rattle.std.proofs.Common.{nat_eq, ap, sym, ◌∙◌}
use Rattle.accept_model.specs.Calibration.{are_six}
use Rattle.meter_config.proofs.Names.{length-view}
use Rattle.meter_config.proofs.calibration.has_six.Goals as goal

pub returns-in-Some : goal.returns-in-Some
returns-in-Some c =
    ap (λ n. nat_eq n 6) (c.len.ensures.len ∙ sym (length-view c.in-Some.object.now.entries)) ∙ ap are_six c.in-Some.ensures
