use Rattle.std.proofs.Common.{subst}
use Rattle.integral_model.specs.Integral.{AllFit, AllFitWithMargin, AllFitClosely}
use Rattle.metering_model.proofs.Joined.{stands-joined}
use Rattle.integral_model.proofs.Joined.{closely-joined, fit-joined, margin-joined}
use Rattle.run_engine.proofs.laws.histories_join.Goals as goal

pub returns-clause-stands : goal.returns-clause-stands
returns-clause-stands c = stands-joined

pub returns-clause-fit : goal.returns-clause-fit
returns-clause-fit c = λ s o m hs ls stands first second. fit-joined s o hs ls first (subst (λ r. AllFit s r ls) stands.is second)

pub returns-clause-margin : goal.returns-clause-margin
returns-clause-margin c = λ s o m hs ls stands first second. margin-joined s o hs ls first (subst (λ r. AllFitWithMargin s r ls) stands.is second)

pub returns-clause-closely : goal.returns-clause-closely
returns-clause-closely c = λ s o m hs ls stands first second. closely-joined s o hs ls first (subst (λ r. AllFitClosely s r ls) stands.is second)
