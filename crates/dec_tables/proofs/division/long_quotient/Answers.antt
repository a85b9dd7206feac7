use Rattle.std.proofs.Common.{arith, ◌≡◌, ◌+◌, ◌-◌, ◌*◌, ◌/◌, ◌%◌, ◌^◌, ◌<◌, ◌∙◌, ap}
use Rattle.std.proofs.Math.Nat.{mod-lt}
use Rattle.dec_tables.proofs.Divisions.{room_some, room_fits, turn}
use Rattle.dec_tables.proofs.division.long_quotient.Goals as goal

turned : (c : goal.After-min-bits) → let next = c.loop-left.rest * 2 ^ c.min-bits.result % 2 ^ 128 in let whole = c.loop-left.whole * 2 ^ c.min-bits.result % 2 ^ 128 + next / c.args.d in (whole * c.args.d + next % c.args.d ≡ c.args.m * 2 ^ (c.args.shift - c.loop-left.left + c.min-bits.result)) × (whole < 2 ^ 62)
turned c =
    let fits = room_fits c.args.d c.loop-left.rest c.min-bits.result c.requires.divisor c.loop-left.invariant.rest (omega (arith, c.min-bits.ensures)) in
    turn c.loop-left.whole c.loop-left.rest c.args.d c.args.m (c.args.shift - c.loop-left.left) c.min-bits.result c.args.shift c.loop-left.invariant.exact (omega (arith, c.min-bits.ensures, c.loop-left.invariant.left)) c.requires.size fits

pub overflow_add-whole : goal.overflow_add-whole
overflow_add-whole c =
    let small = (turned c).1 in
    omega (arith, small)

pub loop-left-smaller : goal.loop-left-smaller
loop-left-smaller c = omega (arith, c.min-bits.ensures, room_some c.args.d c.requires.divisor, c.loop-left-test.true)

pub loop-left-preserved : goal.loop-left-preserved
loop-left-preserved c =
    let bits : c.args.shift - c.loop-left.left + c.min-bits.result ≡ c.args.shift - (c.loop-left.left - c.min-bits.result) = omega (arith, c.min-bits.ensures, c.loop-left.invariant.left) in
    record {
      exact = (turned c).0 ∙ ap (λ k. c.args.m * 2 ^ k) bits;
      rest = mod-lt _ c.requires.positive;
      left = omega arith;
    }
