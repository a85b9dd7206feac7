use Rattle.std.proofs.Common.{rules}
use Rattle.if97_region1.proofs.variables.quarter.Goals as goal

pub returns-clause-holds : goal.returns-clause-holds
returns-clause-holds c = λ t s. c.at_48.ensures.holds _ (search rules)

pub returns-clause-sized : goal.returns-clause-sized
returns-clause-sized c = c.at_48.ensures.sized _ (search rules)
