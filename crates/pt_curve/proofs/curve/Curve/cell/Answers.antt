use Rattle.std.proofs.Common.{◌+◌, arith, refl}
use Rattle.std.proofs.lemmas.Int.{ints}
use Rattle.platinum_model.specs.Sample.{IsInRange, AreCellEnds}
use Rattle.platinum_model.proofs.Curve.{IsRising}
use Rattle.platinum_model.proofs.Samples.{IsInRange-low, IsInRange-high}
use Rattle.platinum_model.proofs.Cells.{IsSteep, AreCellEnds-ordered, IsCellSpan-found}
use Rattle.platinum_model.proofs.Fitting.{fitting-steep}
use Rattle.pt_curve.proofs.CellEnds.{cell_ends}
use Rattle.pt_curve.specs.Curve.{element}
use Rattle.pt_curve.proofs.curve.Curve.cell.Goals as goal

pub last_step-lo-requires-clause-low : goal.last_step-lo-requires-clause-low
last_step-lo-requires-clause-low c =
    let rising : IsRising (element c.args.self.now) = (fitting-steep (element c.args.self.now) c.args.self.now.fit).rising in
    let range : IsInRange (element c.args.self.now) c.args.r = c.if-not-is_in_range.ensures.0 refl in
    omega (arith, ints, c.from.ensures, IsInRange-low (element c.args.self.now) c.args.r rising range)

pub last_step-lo-requires-clause-high : goal.last_step-lo-requires-clause-high
last_step-lo-requires-clause-high c =
    let rising : IsRising (element c.args.self.now) = (fitting-steep (element c.args.self.now) c.args.self.now.fit).rising in
    let range : IsInRange (element c.args.self.now) c.args.r = c.if-not-is_in_range.ensures.0 refl in
    omega (arith, ints, c.from.ensures, IsInRange-high (element c.args.self.now) c.args.r rising range)

pub last_step-before_hi-requires-clause-low : goal.last_step-before_hi-requires-clause-low
last_step-before_hi-requires-clause-low c =
    let rising : IsRising (element c.args.self.now) = (fitting-steep (element c.args.self.now) c.args.self.now.fit).rising in
    let range : IsInRange (element c.args.self.now) c.args.r = c.if-not-is_in_range.ensures.0 refl in
    omega (arith, ints, c.from.ensures, IsInRange-low (element c.args.self.now) c.args.r rising range)

pub last_step-before_hi-requires-clause-high : goal.last_step-before_hi-requires-clause-high
last_step-before_hi-requires-clause-high c =
    let rising : IsRising (element c.args.self.now) = (fitting-steep (element c.args.self.now) c.args.self.now.fit).rising in
    let range : IsInRange (element c.args.self.now) c.args.r = c.if-not-is_in_range.ensures.0 refl in
    omega (arith, ints, c.from.ensures, IsInRange-high (element c.args.self.now) c.args.r rising range)

pub invariant_of-result : goal.invariant_of-result
invariant_of-result c =
    let rising : IsRising (element c.args.self.now) = (fitting-steep (element c.args.self.now) c.args.self.now.fit).rising in
    let ends : AreCellEnds (element c.args.self.now) c.args.r c.last_step-lo.result (c.last_step-before_hi.result + 1) =
    cell_ends (element c.args.self.now) c.args.r _ _ c.from.result rising (c.if-not-is_in_range.ensures.0 refl) c.ranges.r.fits c.from.ensures c.last_step-lo.ensures c.last_step-before_hi.ensures in
    record { ordered = AreCellEnds-ordered (element c.args.self.now) c.args.r _ _ rising ends; in_range = ends.hi_range }

pub returns-clause-span : goal.returns-clause-span
returns-clause-span c =
    let steep : IsSteep (element c.args.self.now) = fitting-steep (element c.args.self.now) c.args.self.now.fit in
    let range : IsInRange (element c.args.self.now) c.args.r = c.if-not-is_in_range.ensures.0 refl in
    IsCellSpan-found (element c.args.self.now) c.args.r _ _ steep range
    (cell_ends (element c.args.self.now) c.args.r _ _ c.from.result steep.rising range c.ranges.r.fits c.from.ensures c.last_step-lo.ensures c.last_step-before_hi.ensures)
