use Rattle.std.proofs.Common.{arith, lit<, sym, ◌≡◌, ◌∙◌, ap, pos, neg_ℤ, ◌<ℤ◌, unsigned_abs, to_z-of_z, rules}
use Rattle.std.proofs.lemmas.Int.{ints}
use mir.Val.{SFits}
use mir.Syntax.{w8, w64}
use Rattle.dec_tables.proofs.Decimals.{Holds-neg_decimal, neg_abs, below_of}
use Rattle.dec_tables.proofs.decimal.enclose.Goals as goal

pub of_ends-requires : goal.of_ends-requires
of_ends-requires g c =
    (lit< tt, (omega (arith, ints, c.magnitude-size.result.ordered), (omega (arith, ints, c.magnitude-size.result.high), (omega (arith, ints, c.magnitude-size.result.low), c.requires.scale))))

pub returns-then-t-lt0-clause-width : goal.returns-then-t-lt0-clause-width
returns-then-t-lt0-clause-width g c =
    let lo : c.of_ends.result.lo ≡ neg_ℤ c.magnitude-size.result.hi = omega (arith, ints, c.of_ends.ensures.lo) in
    let hi : c.of_ends.result.hi ≡ neg_ℤ c.magnitude-size.result.lo = omega (arith, ints, c.of_ends.ensures.hi) in
    rw (lo, hi) (omega (arith, ints, c.magnitude-size.ensures.width))

pub returns-then-t-lt0-clause-holds : goal.returns-then-t-lt0-clause-holds
returns-then-t-lt0-clause-holds g c =
    let fm : SFits w64 c.args.t.now.mantissa = search rules in
    let fe : SFits w8 c.args.t.now.exp10 = search rules in
    let under : c.args.t.now.mantissa <ℤ pos 0 = below_of c.args.t.now.mantissa (simp to_z-of_z at c.if-t-lt0.true) in
    let lo : c.of_ends.result.lo ≡ neg_ℤ c.magnitude-size.result.hi = omega (arith, ints, c.of_ends.ensures.lo) in
    let hi : c.of_ends.result.hi ≡ neg_ℤ c.magnitude-size.result.lo = omega (arith, ints, c.of_ends.ensures.hi) in
    let size : c.unsigned_abs.result ≡ unsigned_abs c.args.t.now.mantissa = (simp to_z-of_z at c.unsigned_abs.ensures.value) in
    let holds = simp to_z-of_z at c.magnitude-size.ensures.holds in
    rw (lo, hi) (Holds-neg_decimal g.row.S c.args.up c.unsigned_abs.result _ _ c.args.t.now.mantissa c.args.t.now.exp10 (neg_abs c.args.t.now.mantissa under ∙ ap (λ n. neg_ℤ (pos n)) (sym size)) holds)
