use Rattle.std.proofs.Common.{rules}
use Rattle.platinum_model.proofs.Pairs.{small-unique, counting-unique}
use Rattle.sensor_pair.proofs.pair.Pair.judge.Goals as goal

-- The whole temperatures of the samples are the only ones, so a pair has one difference.
ruleset one_difference = (small-unique, counting-unique)

pub returns-then-flow_udeg-return_udeg-clause-small :
    goal.returns-then-flow_udeg-return_udeg-clause-small
returns-then-flow_udeg-return_udeg-clause-small c = search (rules, one_difference) depth 3

pub returns-then-flow_udeg-return_udeg-clause-counts :
    goal.returns-then-flow_udeg-return_udeg-clause-counts
returns-then-flow_udeg-return_udeg-clause-counts c = search (rules, one_difference) depth 3

pub returns-else-flow_udeg-return_udeg-clause-small :
    goal.returns-else-flow_udeg-return_udeg-clause-small
returns-else-flow_udeg-return_udeg-clause-small c = search (rules, one_difference) depth 3

pub returns-else-flow_udeg-return_udeg-clause-counts :
    goal.returns-else-flow_udeg-return_udeg-clause-counts
returns-else-flow_udeg-return_udeg-clause-counts c = search (rules, one_difference) depth 3
