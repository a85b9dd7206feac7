use Rattle.std.proofs.Common.{◌≡◌, ℕ, suc, ◌+◌, ◌^◌, ◌≤◌, length, arith, lit<, lit≤}
use Rattle.std.specs.List.{sum_by}
use Rattle.number_model.specs.Fraction.{◌*ℚ◌}
use Rattle.number_model.proofs.Same.{Holds-same}
use Rattle.table_model.specs.Tables.{volume_up, polynomial}
use Rattle.enclosure_sizes.specs.Size.{Size, SizedBy, product_size}
use Rattle.enclosure_sizes.proofs.Sizes.{Sized-product}
use Rattle.dec_tables.specs.declared.part.Part.TheVariants.{VolumeUp}
use Rattle.dec_tables.specs.Polynomials.{SizedEach, magnitude}
use Rattle.dec_tables.specs.Sizes.{coefficient_size}
use Rattle.if97_region1.specs.Sizes.{quarter_size, higher_size}
use Rattle.if97_region1.proofs.Facts.{finer, widened, room, sized_products, same_quarter}
use Rattle.if97_region1.proofs.Polynomials.{Sized-horner, total_most}
use Rattle.if97_region1.proofs.Computed.{tail_size, tail_total, tail_product, higher_within}
use Rattle.if97_region1.proofs.joined.higher.Goals as goal

abbrev tail_sizes : ℕ → Size
tail_sizes k = coefficient_size VolumeUp (suc (suc k))

pub horner-requires : goal.horner-requires
horner-requires c =
    let full : length c.tail.result.coef ≡ 16 = omega arith in
    let each : SizedEach 48 c.tail.result.coef tail_sizes = λ k e i d. c.requires.up.1.sized (suc (suc k)) e (c.tail.ensures k e i) d in
    let total : sum_by magnitude c.tail.result.coef + 16 ≤ 2 ^ 61 = omega (arith, total_most 48 16 c.tail.result.coef tail_sizes full each, tail_total) in
    (lit< tt, (lit< tt, (c.requires.low, (c.requires.high, total))))

pub mul-fourfold-requires : goal.mul-fourfold-requires
mul-fourfold-requires c =
    let full : length c.tail.result.coef ≡ 16 = omega arith in
    let each : SizedEach 48 c.tail.result.coef tail_sizes = λ k e i d. c.requires.up.1.sized (suc (suc k)) e (c.tail.ensures k e i) d in
    let d = c.requires.sized.0 in
    let tail : SizedBy tail_size d c.horner.result.lo c.horner.result.hi =
    rw (c.horner.ensures.lo, c.horner.ensures.hi) (Sized-horner 48 d quarter_size c.args.quarter.lo c.args.quarter.hi c.args.quarter.ordered c.requires.sized.1 16 c.tail.result.coef tail_sizes full each) in
    (lit< tt, sized_products _ _ _ _ _ _ _ _ _ _ _ _ c.horner.result.ordered c.args.quarter.ordered tail c.requires.sized.1 tail_product)

pub scale_to-requires : goal.scale_to-requires
scale_to-requires c =
    let full : length c.tail.result.coef ≡ 16 = omega arith in
    let each : SizedEach 48 c.tail.result.coef tail_sizes = λ k e i d. c.requires.up.1.sized (suc (suc k)) e (c.tail.ensures k e i) d in
    let d = c.requires.sized.0 in
    let tail : SizedBy tail_size d c.horner.result.lo c.horner.result.hi =
    rw (c.horner.ensures.lo, c.horner.ensures.hi) (Sized-horner 48 d quarter_size c.args.quarter.lo c.args.quarter.hi c.args.quarter.ordered c.requires.sized.1 16 c.tail.result.coef tail_sizes full each) in
    let product : SizedBy (product_size (2 ^ 48) tail_size quarter_size) d c.mul-fourfold.result.lo c.mul-fourfold.result.hi =
    rw (c.mul-fourfold.ensures.lo, c.mul-fourfold.ensures.hi) (Sized-product 48 _ _ _ _ _ _ d c.horner.result.lo c.horner.result.hi c.args.quarter.lo c.args.quarter.hi c.horner.result.ordered c.args.quarter.ordered tail c.requires.sized.1) in
    let z = widened higher_within d _ _ (finer 50 56 (lit≤ tt) (product_size (2 ^ 48) tail_size quarter_size) d c.mul-fourfold.result.lo c.mul-fourfold.result.hi product) in
    let r = rw (← c.relabel-whole.ensures.lo, ← c.relabel-whole.ensures.hi) at (room higher_size d _ _ (lit≤ tt) z) in
    (lit< tt, (lit< tt, (lit≤ tt, (r.0, r.1))))

pub returns-clause-holds : goal.returns-clause-holds
returns-clause-holds c = λ x q part hq.
    let whole = polynomial (λ k. volume_up x (suc (suc k))) 16 q in
    Holds-same (same_quarter (whole *ℚ q))
    (c.scale_to.ensures.holds _ (c.relabel-whole.ensures.holds (whole *ℚ q)
    (c.mul-fourfold.ensures.holds whole q (c.horner.ensures.holds (λ k. volume_up x (suc (suc k))) q (λ k e i. part.holds (suc (suc k)) e (c.tail.ensures k e i)) hq) hq)))

pub returns-clause-sized : goal.returns-clause-sized
returns-clause-sized c = λ d y.
    let full : length c.tail.result.coef ≡ 16 = omega arith in
    let each : SizedEach 48 c.tail.result.coef tail_sizes = λ k e i d. c.requires.up.1.sized (suc (suc k)) e (c.tail.ensures k e i) d in
    let tail : SizedBy tail_size d c.horner.result.lo c.horner.result.hi =
    rw (c.horner.ensures.lo, c.horner.ensures.hi) (Sized-horner 48 d quarter_size c.args.quarter.lo c.args.quarter.hi c.args.quarter.ordered y 16 c.tail.result.coef tail_sizes full each) in
    let product : SizedBy (product_size (2 ^ 48) tail_size quarter_size) d c.mul-fourfold.result.lo c.mul-fourfold.result.hi =
    rw (c.mul-fourfold.ensures.lo, c.mul-fourfold.ensures.hi) (Sized-product 48 _ _ _ _ _ _ d c.horner.result.lo c.horner.result.hi c.args.quarter.lo c.args.quarter.hi c.horner.result.ordered c.args.quarter.ordered tail y) in
    rw (c.scale_to.ensures.lo, c.scale_to.ensures.hi, c.relabel-whole.ensures.lo, c.relabel-whole.ensures.hi)
    (widened higher_within d _ _ (finer 50 56 (lit≤ tt) (product_size (2 ^ 48) tail_size quarter_size) d c.mul-fourfold.result.lo c.mul-fourfold.result.hi product))
