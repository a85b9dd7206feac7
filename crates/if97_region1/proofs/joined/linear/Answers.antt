use Rattle.std.proofs.Common.{◌≡◌, length, get_or, arith, lit<, lit≤}
use Rattle.std.specs.Prelude.{slice_get, Some}
use Rattle.std.proofs.lemmas.Option.{slice_get-get_or}
use Rattle.number_model.proofs.Same.{Holds-same}
use Rattle.table_model.specs.Tables.{volume_up}
use Rattle.interval_num.specs.declared.enc.Enc.{Enc}
use Rattle.dec_tables.specs.declared.part.Part.TheVariants.{VolumeUp}
use Rattle.dec_tables.specs.Sizes.{coefficient_size}
use Rattle.if97_region1.specs.Sizes.{linear_size}
use Rattle.if97_region1.proofs.Facts.{finer, widened, room, same_quarter}
use Rattle.if97_region1.proofs.Computed.{linear_within}
use Rattle.if97_region1.proofs.joined.linear.Goals as goal

pub scale_to-requires : goal.scale_to-requires
scale_to-requires c =
    let e : Enc 48 = get_or c.args.up.now.coef 1 c.index-up-1.result in
    let full : length c.args.up.now.coef ≡ 18 = omega arith in
    let read : slice_get c.args.up.now.coef 1 ≡ Some e = slice_get-get_or c.args.up.now.coef 1 c.index-up-1.result (omega (arith, full)) in
    let z = widened linear_within 0 _ _ (finer 50 56 (lit≤ tt) (coefficient_size VolumeUp 1) 0 e.lo e.hi (c.requires.1.sized 1 e read 0)) in
    let r = rw (← c.relabel-quarter.ensures.lo, ← c.relabel-quarter.ensures.hi) at (room linear_size 0 _ _ (lit≤ tt) z) in
    (lit< tt, (lit< tt, (lit≤ tt, (r.0, r.1))))

pub returns-clause-holds : goal.returns-clause-holds
returns-clause-holds c = λ x part.
    let e : Enc 48 = get_or c.args.up.now.coef 1 c.index-up-1.result in
    let full : length c.args.up.now.coef ≡ 18 = omega arith in
    let read : slice_get c.args.up.now.coef 1 ≡ Some e = slice_get-get_or c.args.up.now.coef 1 c.index-up-1.result (omega (arith, full)) in
    Holds-same (same_quarter (volume_up x 1)) (c.scale_to.ensures.holds _ (c.relabel-quarter.ensures.holds (volume_up x 1) (part.holds 1 e read)))

pub returns-clause-sized : goal.returns-clause-sized
returns-clause-sized c = λ d.
    let e : Enc 48 = get_or c.args.up.now.coef 1 c.index-up-1.result in
    let full : length c.args.up.now.coef ≡ 18 = omega arith in
    let read : slice_get c.args.up.now.coef 1 ≡ Some e = slice_get-get_or c.args.up.now.coef 1 c.index-up-1.result (omega (arith, full)) in
    rw (c.scale_to.ensures.lo, c.scale_to.ensures.hi, c.relabel-quarter.ensures.lo, c.relabel-quarter.ensures.hi)
    (widened linear_within d _ _ (finer 50 56 (lit≤ tt) (coefficient_size VolumeUp 1) d e.lo e.hi (c.requires.1.sized 1 e read d)))
