use Rattle.std.proofs.Common.{◌≡◌, ◌^◌, length, arith, lit<, lit≤}
use Rattle.table_model.specs.Tables.{volume_down}
use Rattle.enclosure_sizes.specs.Size.{Size, SizedBy, horner_size}
use Rattle.enclosure_sizes.proofs.Sizes.{Sized-add}
use Rattle.dec_tables.specs.declared.part.Part.TheVariants.{VolumeDown}
use Rattle.dec_tables.specs.Sizes.{coefficient_size}
use Rattle.region1_algebra.specs.TableForms.{constant_of}
use Rattle.if97_region1.specs.Sizes.{inverse_size}
use Rattle.if97_region1.proofs.Facts.{finer, widened, room, sized_sums}
use Rattle.if97_region1.proofs.Polynomials.{Sized-horner}
use Rattle.if97_region1.proofs.Computed.{down_within, down_bound}
use Rattle.if97_region1.proofs.joined.falling.Goals as goal

abbrev coarse_size : Size
coarse_size = horner_size (2 ^ 40) inverse_size (coefficient_size VolumeDown) 42

pub horner-requires : goal.horner-requires
horner-requires c = (lit< tt, (lit< tt, (c.requires.low, (c.requires.high, omega (arith, c.requires.down.1.total)))))

pub scale_to-requires : goal.scale_to-requires
scale_to-requires c =
    let full : length c.args.down.now.coef ≡ 42 = c.requires.down.1.count in
    let d = c.requires.sized.0 in
    let coarse : SizedBy coarse_size d c.horner.result.lo c.horner.result.hi =
    rw (c.horner.ensures.lo, c.horner.ensures.hi) (Sized-horner 40 d inverse_size c.args.inverse.lo c.args.inverse.hi c.args.inverse.ordered c.requires.sized.1 42 c.args.down.now.coef (coefficient_size VolumeDown) full c.requires.down.1.sized) in
    let r = room down_bound d _ _ (lit≤ tt) (widened down_within d _ _ (finer 40 56 (lit≤ tt) coarse_size d c.horner.result.lo c.horner.result.hi coarse)) in
    (lit< tt, (lit< tt, (lit≤ tt, (r.0, r.1))))

pub add-requires : goal.add-requires
add-requires c =
    let full : length c.args.down.now.coef ≡ 42 = c.requires.down.1.count in
    let d = c.requires.sized.0 in
    let coarse : SizedBy coarse_size d c.horner.result.lo c.horner.result.hi =
    rw (c.horner.ensures.lo, c.horner.ensures.hi) (Sized-horner 40 d inverse_size c.args.inverse.lo c.args.inverse.hi c.args.inverse.ordered c.requires.sized.1 42 c.args.down.now.coef (coefficient_size VolumeDown) full c.requires.down.1.sized) in
    let fine : SizedBy down_bound d c.scale_to.result.lo c.scale_to.result.hi =
    rw (c.scale_to.ensures.lo, c.scale_to.ensures.hi) (widened down_within d _ _ (finer 40 56 (lit≤ tt) coarse_size d c.horner.result.lo c.horner.result.hi coarse)) in
    let sums = sized_sums _ _ _ _ _ _ _ _ _ _ _ (c.requires.constant d) fine (lit≤ tt) in
    (lit< tt, (sums.0, sums.1))

pub returns-clause-holds : goal.returns-clause-holds
returns-clause-holds c = λ x z part k hz.
    c.add.ensures.holds (constant_of x) _ k (c.scale_to.ensures.holds _ (c.horner.ensures.holds (volume_down x) z part.holds hz))

pub returns-clause-sized : goal.returns-clause-sized
returns-clause-sized c = λ d y.
    let full : length c.args.down.now.coef ≡ 42 = c.requires.down.1.count in
    let coarse : SizedBy coarse_size d c.horner.result.lo c.horner.result.hi =
    rw (c.horner.ensures.lo, c.horner.ensures.hi) (Sized-horner 40 d inverse_size c.args.inverse.lo c.args.inverse.hi c.args.inverse.ordered y 42 c.args.down.now.coef (coefficient_size VolumeDown) full c.requires.down.1.sized) in
    let fine : SizedBy down_bound d c.scale_to.result.lo c.scale_to.result.hi =
    rw (c.scale_to.ensures.lo, c.scale_to.ensures.hi) (widened down_within d _ _ (finer 40 56 (lit≤ tt) coarse_size d c.horner.result.lo c.horner.result.hi coarse)) in
    rw (c.add.ensures.lo, c.add.ensures.hi) (Sized-add _ _ _ _ _ _ d c.args.constant.lo c.args.constant.hi _ _ (c.requires.constant d) fine)
