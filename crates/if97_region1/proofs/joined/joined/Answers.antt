use Rattle.std.proofs.Common.{◌-◌, ◌*◌, ◌/◌, ◌^◌, lit<, arith, pos, neg_ℤ, ◌≤ℤ◌}
use Rattle.std.proofs.lemmas.Int.{ints}
use Rattle.number_model.specs.Enclosure.{Holds}
use Rattle.water_model.specs.Water.{x_of, y_of}
use Rattle.enclosure_sizes.specs.Size.{SizedBy, sum_size}
use Rattle.enclosure_sizes.proofs.Sizes.{Sized-add, Sized-near}
use Rattle.region1_algebra.specs.TableForms.{linear_of, constant_of, falling_of, higher_of}
use Rattle.number_model.specs.Fraction.{◌*ℚ◌, part, inverse}
use Rattle.region1_ranges.proofs.Constant.{constant_within}
use Rattle.if97_region1.specs.Sizes.{linear_size, constant_width, over_tau_size}
use Rattle.if97_region1.proofs.Facts.{sized_sums}
use Rattle.if97_region1.proofs.Answers.{overlap}
use Rattle.if97_region1.proofs.Computed.{first_sum, second_sum}
use Rattle.if97_region1.proofs.joined.joined.Goals as goal

pub falling-down-requires : goal.falling-down-requires
falling-down-requires c =
    let p = c.args.w.now.p_kpa in
    let x = x_of p in
    let held : Holds 56 c.constant.result.lo c.constant.result.hi _ = c.constant.ensures.holds x c.polys-t.ensures.volume_up (c.linear-linear.ensures.holds x c.polys-t.ensures.volume_up) in
    let o = overlap c.constant.result.lo c.constant.result.hi (pos 0) (pos (114 * 2 ^ 56 / 10000)) _ held (constant_within p c.args.w.now.low c.args.w.now.high) in
    let top : neg_ℤ (pos (114 * 2 ^ 56 / 10000)) ≤ℤ c.constant.result.hi = omega (arith, ints, o.low) in
    record {
      down = (x, c.polys-t.ensures.volume_down);
      low = c.inverse.ensures.low;
      high = c.inverse.ensures.high;
      sized = (_, c.inverse.ensures.sized);
      constant = λ d. Sized-near (114 * 2 ^ 56 / 10000) constant_width d c.constant.result.lo c.constant.result.hi o.high top c.constant.ensures.width;
    }

pub over_tau-requires : goal.over_tau-requires
over_tau-requires c = rw c.over-tau.ensures (c.falling-down.ensures.sized _ c.inverse.ensures.sized)

pub by_y_over_tau-requires : goal.by_y_over_tau-requires
by_y_over_tau-requires c = rw c.over-tau.ensures (c.higher-up.ensures.sized _ c.quarter.ensures.sized)

pub add-requires : goal.add-requires
add-requires c =
    let d = c.args.v.now.span.hi - c.args.v.now.span.lo in
    let sums = sized_sums _ _ _ _ _ _ _ _ _ _ _ (c.linear-linear.ensures.sized d) (rw c.over-tau.ensures at c.over_tau.ensures.sized) first_sum in
    (lit< tt, (sums.0, sums.1))

pub add-requires-2 : goal.add-requires-2
add-requires-2 c =
    let d = c.args.v.now.span.hi - c.args.v.now.span.lo in
    let part : SizedBy (sum_size linear_size over_tau_size) d c.add.result.lo c.add.result.hi =
    rw (c.add.ensures.lo, c.add.ensures.hi) (Sized-add _ _ _ _ _ _ d _ _ _ _ (c.linear-linear.ensures.sized d) (rw c.over-tau.ensures at c.over_tau.ensures.sized)) in
    let sums = sized_sums _ _ _ _ _ _ _ _ _ _ _ part (rw c.over-tau.ensures at c.by_y_over_tau.ensures.sized) second_sum in
    (lit< tt, (sums.0, sums.1))

pub returns-clause-holds : goal.returns-clause-holds
returns-clause-holds c = λ t s.
    let x = x_of c.args.w.now.p_kpa in
    let tables = c.polys-t.ensures in
    let lin : Holds 56 c.linear-linear.result.lo c.linear-linear.result.hi (linear_of x) = c.linear-linear.ensures.holds x tables.volume_up in
    let constant : Holds 56 c.constant.result.lo c.constant.result.hi (constant_of x) = c.constant.ensures.holds x tables.volume_up lin in
    let down = rw c.over-tau.ensures at c.over_tau.ensures.holds in
    let up = rw c.over-tau.ensures at c.by_y_over_tau.ensures.holds in
    c.add-2.ensures.holds _ _
    (c.add.ensures.holds (linear_of x) _ lin
    (down t (falling_of x (inverse (y_of t))) s (c.falling-down.ensures.holds x (inverse (y_of t)) tables.volume_down constant (c.inverse.ensures.holds t s))))
    (up t (higher_of x (y_of t *ℚ part 4 (lit< tt))) s (c.higher-up.ensures.holds x (y_of t *ℚ part 4 (lit< tt)) tables.volume_up (c.quarter.ensures.holds t s)))

pub returns-clause-sized : goal.returns-clause-sized
returns-clause-sized c =
    let d = c.args.v.now.span.hi - c.args.v.now.span.lo in
    let part : SizedBy (sum_size linear_size over_tau_size) d c.add.result.lo c.add.result.hi =
    rw (c.add.ensures.lo, c.add.ensures.hi) (Sized-add _ _ _ _ _ _ d _ _ _ _ (c.linear-linear.ensures.sized d) (rw c.over-tau.ensures at c.over_tau.ensures.sized)) in
    rw (c.add-2.ensures.lo, c.add-2.ensures.hi) (Sized-add _ _ _ _ _ _ d _ _ _ _ part (rw c.over-tau.ensures at c.by_y_over_tau.ensures.sized))
