use Rattle.std.proofs.Common.{◌≡◌, ◌*◌, ◌^◌, length, get_or, arith, lit<, lit≤}
use Rattle.std.proofs.lemmas.Int.{ints}
use Rattle.std.specs.Prelude.{slice_get, Some}
use Rattle.std.proofs.lemmas.Option.{slice_get-get_or}
use Rattle.table_model.specs.Tables.{volume_up}
use Rattle.interval_num.specs.declared.enc.Enc.{Enc}
use Rattle.enclosure_sizes.specs.Size.{Size, SizedBy, parts}
use Rattle.enclosure_sizes.proofs.Sizes.{Sized-product}
use Rattle.dec_tables.specs.declared.part.Part.TheVariants.{VolumeUp}
use Rattle.dec_tables.specs.Sizes.{coefficient_size}
use Rattle.region1_algebra.specs.TableForms.{y_offset, linear_of}
use Rattle.if97_region1.specs.Sizes.{offset_size}
use Rattle.if97_region1.proofs.Facts.{finer, widened, room, sized_products, width_of_point}
use Rattle.if97_region1.proofs.Computed.{first_within, offset_within, offset_product}
use Rattle.if97_region1.proofs.joined.constant.Goals as goal

abbrev first_bound : Size
first_bound = record { most = 2 ^ 60; base = 5120 * parts; per = 0 }

abbrev product_bound : Size
product_bound = record { most = 2 ^ 60; base = 1567 * parts; per = 1 }

pub scale_to-first-requires : goal.scale_to-first-requires
scale_to-first-requires c =
    let e : Enc 48 = get_or c.args.up.now.coef 0 c.index-up-0.result in
    let full : length c.args.up.now.coef ≡ 18 = omega arith in
    let read : slice_get c.args.up.now.coef 0 ≡ Some e = slice_get-get_or c.args.up.now.coef 0 c.index-up-0.result (omega (arith, full)) in
    let z = widened first_within 0 _ _ (finer 48 56 (lit≤ tt) (coefficient_size VolumeUp 0) 0 e.lo e.hi (c.requires.up.1.sized 0 e read 0)) in
    let r = room first_bound 0 _ _ (lit≤ tt) z in
    (lit< tt, (lit< tt, (lit≤ tt, (r.0, r.1))))

pub mul-requires : goal.mul-requires
mul-requires c =
    let offset : SizedBy offset_size 0 c.offset_of_y.result.lo c.offset_of_y.result.hi = c.offset_of_y.ensures.sized 0 in
    (lit< tt, sized_products _ _ _ _ _ _ _ _ _ _ _ _ c.offset_of_y.result.ordered c.args.linear.ordered offset (c.requires.linear 0) offset_product)

pub sub-requires : goal.sub-requires
sub-requires c =
    let e : Enc 48 = get_or c.args.up.now.coef 0 c.index-up-0.result in
    let full : length c.args.up.now.coef ≡ 18 = omega arith in
    let read : slice_get c.args.up.now.coef 0 ≡ Some e = slice_get-get_or c.args.up.now.coef 0 c.index-up-0.result (omega (arith, full)) in
    let first : SizedBy first_bound 0 c.scale_to-first.result.lo c.scale_to-first.result.hi =
    rw (c.scale_to-first.ensures.lo, c.scale_to-first.ensures.hi) (widened first_within 0 _ _ (finer 48 56 (lit≤ tt) (coefficient_size VolumeUp 0) 0 e.lo e.hi (c.requires.up.1.sized 0 e read 0))) in
    let offset : SizedBy offset_size 0 c.offset_of_y.result.lo c.offset_of_y.result.hi = c.offset_of_y.ensures.sized 0 in
    let product : SizedBy product_bound 0 c.mul.result.lo c.mul.result.hi =
    rw (c.mul.ensures.lo, c.mul.ensures.hi) (widened offset_within 0 _ _ (Sized-product 56 _ _ _ _ _ _ 0 c.offset_of_y.result.lo c.offset_of_y.result.hi c.args.linear.lo c.args.linear.hi c.offset_of_y.result.ordered c.args.linear.ordered offset (c.requires.linear 0))) in
    (lit< tt, (omega (arith, ints, first.low, product.high), omega (arith, ints, first.high, product.low)))

pub returns-clause-holds : goal.returns-clause-holds
returns-clause-holds c = λ x part lin.
    let e : Enc 48 = get_or c.args.up.now.coef 0 c.index-up-0.result in
    let full : length c.args.up.now.coef ≡ 18 = omega arith in
    let read : slice_get c.args.up.now.coef 0 ≡ Some e = slice_get-get_or c.args.up.now.coef 0 c.index-up-0.result (omega (arith, full)) in
    c.sub.ensures.holds (volume_up x 0) _ (c.scale_to-first.ensures.holds (volume_up x 0) (part.holds 0 e read))
    (c.mul.ensures.holds y_offset (linear_of x) c.offset_of_y.ensures.holds lin)

pub returns-clause-width : goal.returns-clause-width
returns-clause-width c =
    let e : Enc 48 = get_or c.args.up.now.coef 0 c.index-up-0.result in
    let full : length c.args.up.now.coef ≡ 18 = omega arith in
    let read : slice_get c.args.up.now.coef 0 ≡ Some e = slice_get-get_or c.args.up.now.coef 0 c.index-up-0.result (omega (arith, full)) in
    let first : SizedBy first_bound 0 c.scale_to-first.result.lo c.scale_to-first.result.hi =
    rw (c.scale_to-first.ensures.lo, c.scale_to-first.ensures.hi) (widened first_within 0 _ _ (finer 48 56 (lit≤ tt) (coefficient_size VolumeUp 0) 0 e.lo e.hi (c.requires.up.1.sized 0 e read 0))) in
    let offset : SizedBy offset_size 0 c.offset_of_y.result.lo c.offset_of_y.result.hi = c.offset_of_y.ensures.sized 0 in
    let product : SizedBy product_bound 0 c.mul.result.lo c.mul.result.hi =
    rw (c.mul.ensures.lo, c.mul.ensures.hi) (widened offset_within 0 _ _ (Sized-product 56 _ _ _ _ _ _ 0 c.offset_of_y.result.lo c.offset_of_y.result.hi c.args.linear.lo c.args.linear.hi c.offset_of_y.result.ordered c.args.linear.ordered offset (c.requires.linear 0))) in
    let one = width_of_point _ 5120 0 _ _ first in
    let two = width_of_point _ 1567 1 _ _ product in
    omega (arith, ints, one, two, c.sub.ensures.lo, c.sub.ensures.hi)
