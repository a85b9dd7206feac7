use Rattle.std.proofs.Common.{rules, arith}
use Rattle.mbus_link.proofs.Parts.{long_spelled, only_long}
use Rattle.mbus_link.proofs.reading.long_frame.Goals as goal

pub returns-in-len3-up : goal.returns-in-len3-up
returns-in-len3-up c =
    long_spelled c.args.len c.args.again c.args.rest.now c.in-Some.counted.now c.body_of.result.items (omega arith) (omega arith) (omega arith) c.in-len3-up.len_at_least
    (search rules) (search rules) (search rules)

pub returns-in_default : goal.returns-in_default
returns-in_default c = only_long c.args.len c.args.again c.args.rest.now (λ counted many one two. c.in_default.ensures counted)
