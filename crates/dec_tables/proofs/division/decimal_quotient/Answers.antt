use Rattle.std.proofs.Common.{arith, ◌∙◌, ap, ◌/◌, ◌^◌, ◌-◌}
use Rattle.dec_tables.proofs.Divisions.{fives_size, tens_of_fives, tens_and_fives}
use Rattle.dec_tables.proofs.division.decimal_quotient.Goals as goal

pub quotient_by_fives-requires-clause-size : goal.quotient_by_fives-requires-clause-size
quotient_by_fives-requires-clause-size c = fives_size c.args.m c.args.places c.args.shift c.if-places-shift.true c.requires.size

pub returns-then-places-shift : goal.returns-then-places-shift
returns-then-places-shift c = c.quotient_by_fives.ensures ∙ tens_of_fives c.args.m c.args.places c.args.shift c.if-places-shift.true

pub returns-else-places-shift : goal.returns-else-places-shift
returns-else-places-shift c =
    c.repeated_quotient-else-places-shift.ensures ∙ ap (λ t. t / 5 ^ c.args.shift) (c.repeated_quotient.ensures ∙ ap (λ t. t / 10 ^ (c.args.places - c.args.shift)) c.from.ensures) ∙ tens_and_fives c.args.m c.args.places c.args.shift (omega (arith, c.if-places-shift.false))
