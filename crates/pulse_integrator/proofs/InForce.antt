-- An origin is that of samples in force in one way at most.
use Rattle.std.proofs.Common.{ℕ, Option, None, Some}
use Rattle.std.proofs.Props.{props}
use Rattle.metering_model.specs.Settings.{Settings}
use Rattle.pulse_integrator.specs.declared.origin.Origin.{Origin}
use Rattle.pulse_integrator.specs.Adds.{AreInForce}

pub AreInForce-prop : (c : Settings) (samples : Option (ℕ × ℕ)) (origin : Option Origin) → IsProp (AreInForce c samples origin)
AreInForce-prop c samples None = hlevel props
AreInForce-prop c samples (Some o) = hlevel props
