use Rattle.std.proofs.Common.{◌+◌, ◌-◌, ◌*◌, ◌^◌, pos, ◌*ℤ◌, ◌≤ℤ◌, arith}
use Rattle.std.proofs.lemmas.Int.{ints}
use lib.IntN.{◌-ℤ◌}
use Rattle.if97_region1.specs.Sizes.{volume_size}
use Rattle.if97_region1.proofs.Facts.{width_from}
use Rattle.if97_region1.proofs.Computed.{volume_base, volume_per}
use Rattle.if97_region1.proofs.Answers.{volume_range}
use Rattle.if97_region1.proofs.water.Water.volume_at.Goals as goal

pub returns : goal.returns
returns c =
    let sized = c.volume_over.ensures.sized in
    let holds = c.volume_over.ensures.holds in
    let closer : ((c.volume_over.result.hi -ℤ c.volume_over.result.lo) *ℤ pos (10 ^ 15)) ≤ℤ pos ((268 + 3 * (c.args.v.now.span.hi - c.args.v.now.span.lo)) * 2 ^ 56) =
    width_from volume_size.base volume_size.per (c.args.v.now.span.hi - c.args.v.now.span.lo) 268 3 (10 ^ 15) (2 ^ 56) c.volume_over.result.lo c.volume_over.result.hi sized.width volume_base volume_per in
    let width : ((c.volume_over.result.hi -ℤ c.volume_over.result.lo) *ℤ pos (10 ^ 15)) ≤ℤ pos ((1000 + 3 * (c.args.v.now.span.hi - c.args.v.now.span.lo)) * 2 ^ 56) = omega (arith, ints, closer) in
    let range = volume_range c.args.self.now.p_kpa c.args.v.now.span.lo c.args.v.now.span.hi c.volume_over.result.lo c.volume_over.result.hi c.args.self.now.low c.args.self.now.high c.args.v.now.span.ordered c.args.v.now.span.in_range c.requires width holds in
    record { holds = holds; least = range.0; most = range.1; width = width; closer = closer }
