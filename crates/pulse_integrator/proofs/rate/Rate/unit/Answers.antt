use Rattle.std.proofs.Common.{◌∙◌}
use Rattle.pulse_integrator.proofs.Litres.{times_one}
use Rattle.pulse_integrator.proofs.rate.Rate.unit.Goals as goal

pub returns-clause-step : goal.returns-clause-step
returns-clause-step c = c.add.ensures.times ∙ times_one _
