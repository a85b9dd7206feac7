use Rattle.std.proofs.Common.{◌≡◌, ◌+◌, ◌<◌, arith, lit<, rules, length, take, take_all}
use Rattle.std.proofs.lemmas.Int.{ints}
use Rattle.dec_tables.proofs.Sums.{size_none, size_more, size_most}
use Rattle.slope_cert.specs.Curvature.{curvature_size, curvature_sum_size}
use Rattle.slope_cert.proofs.Derived.{row_curves}
use Rattle.slope_cert.proofs.Rooms.{curvature_room}
use Rattle.slope_cert.proofs.Sums.{no_change, one_more_change, one_more_size, quotient_held}
use Rattle.slope_cert.proofs.curvature.curvature_sum.Goals as goal

pub loop-term-init : goal.loop-term-init
loop-term-init c = record { holds = search (rules, no_change); size = search (rules, size_none) }

pub curvature-requires : goal.curvature-requires
curvature-requires c =
    let few : c.loop-term.term-index < length c.region1_table-table.result.terms = omega (arith, c.loop-term-test.true) in
    let has = row_curves c.loop-term.term-index _ (rw c.region1_table-table.ensures at few) in
    rw c.region1_table-table.ensures (record { power = has.power; mantissa = has.mantissa; fits = has.fits })

pub add-sum-requires : goal.add-sum-requires
unfolding curvature_sum_size
add-sum-requires c =
    let few : c.loop-term.term-index < length c.region1_table-table.result.terms = omega (arith, c.loop-term-test.true) in
    let z = size_more curvature_size _ c.region1_table-table.result.terms c.loop-term.term-index _ _ _ _ _ few c.loop-term.invariant.size c.curvature.ensures.sized in
    let most = size_most curvature_size c.region1_table-table.result.terms (c.loop-term.term-index + 1) in
    let room = rw (← c.region1_table-table.ensures) at curvature_room in
    (lit< tt, (omega (arith, ints, z.low, most, room), omega (arith, ints, z.high, most, room)))

pub loop-term-preserved : goal.loop-term-preserved
loop-term-preserved c =
    let few : c.loop-term.term-index < length c.region1_table-table.result.terms = omega (arith, c.loop-term-test.true) in
    record { holds = search (rules, one_more_change); size = search (rules, one_more_size) }

pub returns-clause-holds : goal.returns-clause-holds
returns-clause-holds c =
    let span = c.args.v.now.span in
    let all : take c.loop-term.term-index c.region1_table-table.result.terms ≡ c.region1_table-table.result.terms = take_all c.loop-term.term-index c.region1_table-table.result.terms (omega (arith, c.loop-term-test.false)) in
    let held = rw (all, c.region1_table-table.ensures) at c.loop-term.invariant.holds in
    quotient_held c.args.x.now.pressure span.lo span.hi span.ordered span.in_range c.loop-term.sum.lo c.loop-term.sum.hi held

pub returns-clause-sized : goal.returns-clause-sized
unfolding curvature_sum_size
returns-clause-sized c =
    let all : take c.loop-term.term-index c.region1_table-table.result.terms ≡ c.region1_table-table.result.terms = take_all c.loop-term.term-index c.region1_table-table.result.terms (omega (arith, c.loop-term-test.false)) in
    rw (all, c.region1_table-table.ensures) at c.loop-term.invariant.size
