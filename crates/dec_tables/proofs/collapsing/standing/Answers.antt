use Rattle.std.proofs.Common.{◌<◌, ◌≤◌, arith, lit<, lit≤}
use Rattle.std.specs.Prelude.{IsTrue}
use Rattle.number_model.proofs.Same.{Holds-same}
use Rattle.table_model.specs.Tables.{eighth_of}
use Rattle.dec_tables.specs.Coefficients.{coefficient_of}
use Rattle.dec_tables.specs.Sizes.{scaled_fits}
use Rattle.dec_tables.proofs.Shares.{factor_parts, at_low, at_high, low_value, high_value}
use Rattle.dec_tables.proofs.collapsing.standing.Goals as goal

pub overflow_add-up : goal.overflow_add-up
overflow_add-up g c =
    let parts = factor_parts g.row.S c.args.shift c.args.t.now c.requires.fits in
    omega (arith, c.from-i.ensures, parts.few, parts.i)

pub x_power-power-requires-clause-most : goal.x_power-power-requires-clause-most
x_power-power-requires-clause-most g c = omega (arith, c.from-i.ensures, (factor_parts g.row.S c.args.shift c.args.t.now c.requires.fits).i)

pub scaled-requires : goal.scaled-requires
scaled-requires g c =
    let parts = factor_parts g.row.S c.args.shift c.args.t.now c.requires.fits in
    let power = rw c.from-i.ensures at c.x_power-power.ensures.size in
    let low : c.args.t.now.i < 20 = omega (arith, c.from-i.ensures, c.if-i-lt20.true) in
    let fits = at_low (λ f u. IsTrue (scaled_fits f g.row.S u c.args.t.now)) c.args.shift c.args.t.now.i low parts.fits in
    (lit< tt, (lit< tt, (lit≤ tt, (power, rw c.from-i.ensures fits))))

pub scaled-requires-else-i-lt20 : goal.scaled-requires-else-i-lt20
scaled-requires-else-i-lt20 g c =
    let parts = factor_parts g.row.S c.args.shift c.args.t.now c.requires.fits in
    let power = rw c.from-i.ensures at c.x_power-power.ensures.size in
    let high : 20 ≤ c.args.t.now.i = omega (arith, c.from-i.ensures, c.if-i-lt20.false) in
    let fits = at_high (λ f u. IsTrue (scaled_fits f g.row.S u c.args.t.now)) c.args.shift c.args.t.now.i high parts.fits in
    (lit< tt, (lit< tt, (lit≤ tt, (rw (c.relabel.ensures.lo, c.relabel.ensures.hi) power, rw c.from-i.ensures fits))))

pub returns-then-i-lt20-clause-holds : goal.returns-then-i-lt20-clause-holds
returns-then-i-lt20-clause-holds g c = λ v p.
    let h = c.scaled.ensures.holds _ (c.x_power-power.ensures.holds (eighth_of v) p) in
    Holds-same (low_value (coefficient_of c.args.t.now) v c.args.shift c.args.t.now.i) (rw c.from-i.ensures at h)

pub returns-else-i-lt20-clause-holds : goal.returns-else-i-lt20-clause-holds
returns-else-i-lt20-clause-holds g c = λ v p.
    let high : 20 ≤ c.args.t.now.i = omega (arith, c.from-i.ensures, c.if-i-lt20.false) in
    let h = c.scaled-else-i-lt20.ensures.holds _ (c.relabel.ensures.holds _ (c.x_power-power.ensures.holds (eighth_of v) p)) in
    Holds-same (high_value (coefficient_of c.args.t.now) v c.args.shift c.args.t.now.i high) (rw c.from-i.ensures at h)
