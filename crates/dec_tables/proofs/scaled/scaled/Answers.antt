use Rattle.std.proofs.Common.{◌+◌, ◌-◌, ◌*◌, ◌^◌, arith, lit<, sym, unsigned_abs}
use Rattle.std.proofs.lemmas.Nat.{pow_pos}
use Rattle.number_model.proofs.Ints.{≤ℤ_trans}
use Rattle.number_model.proofs.Roundings.{floor_div-scale_down, ceil_div-scale_down}
use Rattle.interval_num.specs.Ends.{ProductsWithin}
use Rattle.enclosure_sizes.specs.Size.{SizedBy}
use Rattle.enclosure_sizes.proofs.Sizes.{Sized-product, Sized-down}
use Rattle.enclosure_sizes.proofs.Ranges.{products_within, ends_low, ends_high}
use Rattle.dec_tables.specs.Sizes.{enclosed_size, x_power_size}
use Rattle.dec_tables.proofs.Scaling.{scaled_parts, room_size, Sized-enclosed, down_low, down_high}
use Rattle.dec_tables.proofs.scaled.scaled.Given as given
use Rattle.dec_tables.proofs.scaled.scaled.Goals as goal
use Rattle.dec_tables.proofs.scaled.scaled.Goals.{After-enclose-coefficient}

pub enclose-coefficient-requires : goal.enclose-coefficient-requires
enclose-coefficient-requires g c =
    let parts = scaled_parts g.row.F g.row.S c.args.up c.args.t.now c.requires.fits in
    (lit< tt, (c.requires.scale, (parts.few, room_size (unsigned_abs c.args.t.now.mantissa) (g.row.F + c.args.up) c.args.t.now.exp10 parts.room)))

sized : (g : given.Over) (c : After-enclose-coefficient g) → SizedBy (enclosed_size g.row.F c.args.up c.args.t.now) 0 c.enclose-coefficient.result.lo c.enclose-coefficient.result.hi
sized g c = Sized-enclosed g.row.F c.args.up 0 c.args.t.now _ _ c.enclose-coefficient.ensures.width c.enclose-coefficient.ensures.holds

within : (g : given.Over) (c : After-enclose-coefficient g) → ProductsWithin ((2 ^ 62 - 1) * 2 ^ g.row.F) c.enclose-coefficient.result.lo c.enclose-coefficient.result.hi c.args.power.lo c.args.power.hi
within g c =
    let parts = scaled_parts g.row.F g.row.S c.args.up c.args.t.now c.requires.fits in
    let z = sized g c in
    let p = c.requires.power in
    products_within (enclosed_size g.row.F c.args.up c.args.t.now).most (x_power_size c.args.t.now.i).most _ _ _ _ _ parts.product
    (record { low = z.low; high = ≤ℤ_trans c.enclose-coefficient.result.ordered z.high })
    (record { low = ≤ℤ_trans z.low c.enclose-coefficient.result.ordered; high = z.high })
    (record { low = p.low; high = ≤ℤ_trans c.args.power.ordered p.high })
    (record { low = ≤ℤ_trans p.low c.args.power.ordered; high = p.high })

pub mul-requires : goal.mul-requires
mul-requires g c = (lit< tt, within g (goal.at.mul-requires g c).After-enclose-coefficient)

pub scale_to-requires : goal.scale_to-requires
scale_to-requires g c =
    let parts = scaled_parts g.row.F g.row.S c.args.up c.args.t.now c.requires.fits in
    let w = within g (goal.at.scale_to-requires g c).After-enclose-coefficient in
    let low = rw (sym c.mul.ensures.lo) at (ends_low (2 ^ 62 - 1) g.row.F _ _ _ _ w) in
    let high = rw (sym c.mul.ensures.hi) at (ends_high (2 ^ 62 - 1) g.row.F _ _ _ _ w) in
    (lit< tt, (lit< tt, (omega (arith, parts.coarser, c.requires.scale), (down_low g.row.F g.row.S c.mul.result.lo parts.coarser low, down_high g.row.F g.row.S c.mul.result.hi parts.coarser high))))

pub returns-clause-holds : goal.returns-clause-holds
returns-clause-holds g c = λ v p. c.scale_to.ensures.holds _ (c.mul.ensures.holds _ v c.enclose-coefficient.ensures.holds p)

pub returns-clause-size : goal.returns-clause-size
returns-clause-size g c =
    let parts = scaled_parts g.row.F g.row.S c.args.up c.args.t.now c.requires.fits in
    let z = sized g (goal.at.returns-clause-size g c).After-enclose-coefficient in
    let s = enclosed_size g.row.F c.args.up c.args.t.now in
    let t = x_power_size c.args.t.now.i in
    let p = Sized-product g.row.F s.most s.base s.per t.most t.base t.per 0 _ _ _ _ c.enclose-coefficient.result.ordered c.args.power.ordered z c.requires.power in
    let q = Sized-down (2 ^ (g.row.F - g.row.S)) _ _ _ 0 c.mul.result.lo c.mul.result.hi (pow_pos (g.row.F - g.row.S)) (rw (sym c.mul.ensures.lo, sym c.mul.ensures.hi) at p) in
    rw (c.scale_to.ensures.lo, c.scale_to.ensures.hi, floor_div-scale_down g.row.F g.row.S c.mul.result.lo parts.coarser, ceil_div-scale_down g.row.F g.row.S c.mul.result.hi parts.coarser) q
