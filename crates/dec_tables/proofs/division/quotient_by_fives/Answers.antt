use Rattle.std.proofs.Common.{arith, ◌≡◌, ◌≤◌, ◌*◌, ◌/◌, ◌^◌, ◌-◌, ◌∙◌, ap}
use Rattle.dec_tables.proofs.Divisions.{five_above, five_small, first_size, split_fives}
use Rattle.dec_tables.proofs.division.quotient_by_fives.Goals as goal

pub long_quotient-first-requires-clause-positive : goal.long_quotient-first-requires-clause-positive
long_quotient-first-requires-clause-positive c = rw c.power_of_five.ensures (five_above c.min-direct.result)

pub long_quotient-first-requires-clause-divisor : goal.long_quotient-first-requires-clause-divisor
long_quotient-first-requires-clause-divisor c =
    let most : c.min-direct.result ≤ 54 = omega (arith, c.min-direct.ensures) in
    rw c.power_of_five.ensures (five_small c.min-direct.result most)

pub long_quotient-first-requires-clause-size : goal.long_quotient-first-requires-clause-size
long_quotient-first-requires-clause-size c =
    rw (c.power_of_five.ensures, c.min-direct.ensures, c.from.ensures) (first_size c.args.m c.args.places c.args.shift c.ranges.m.fits c.requires.sum c.requires.size)

pub returns : goal.returns
returns c =
    let most : c.min-direct.result ≤ c.args.places = omega (arith, c.min-direct.ensures) in
    let first : c.long_quotient-first.result ≡ c.args.m * 2 ^ c.args.shift / 5 ^ c.min-direct.result = rw (← c.from.ensures, ← c.power_of_five.ensures) c.long_quotient-first.ensures.value in
    c.repeated_quotient.ensures ∙ ap (λ t. t / 5 ^ (c.args.places - c.min-direct.result)) first ∙ split_fives (c.args.m * 2 ^ c.args.shift) c.args.places c.min-direct.result most
