use Rattle.std.proofs.Common.{◌≡◌, ◌∙◌, ◌^◌, ◌+ℤ◌, ◌*ℤ◌, pos, neg_ℤ, unsigned_abs, max, ap, arith, to_z-of_z, rules, lit<, refl}
use Rattle.std.proofs.lemmas.Int.{ints}
use Rattle.std.specs.Int.{int_min}
use lib.IntN.{◌-ℤ◌}
use mir.Val.{SFits}
use mir.Syntax.{w128}
use Rattle.number_model.specs.Rounding.{floor_div}
use Rattle.interval_num.proofs.EndsLemmas.{pow_at_most}
use Rattle.dec_tables.proofs.Steps.{Stepped, SumEnds, stepped, sum_magnitude, sum_ends}
use Rattle.dec_tables.proofs.step.step.Given as given
use Rattle.dec_tables.proofs.step.step.Goals as goal
use Rattle.dec_tables.proofs.step.step.Goals.{After-least-2, After-of_ends}

pub least-requires-clause-high : goal.least-requires-clause-high
least-requires-clause-high g c =
    let fu : SFits w128 c.args.z.hi = omega (arith, ints) in
    simp to_z-of_z (omega (arith, ints, c.requires.high, pow_at_most g.row.S c.args.z.scale))

pub least-requires-2-clause-high : goal.least-requires-2-clause-high
least-requires-2-clause-high g c =
    let fu : SFits w128 c.args.z.hi = omega (arith, ints) in
    simp to_z-of_z (omega (arith, ints, c.requires.high, pow_at_most g.row.S c.args.z.scale))

low_is : (g : given.Over) (c : After-least-2 g) → c.least.result ≡ floor_div (int_min (c.args.z.lo *ℤ c.args.h.lo) (c.args.z.hi *ℤ c.args.h.lo)) (2 ^ g.row.S)
low_is g c =
    let fl : SFits w128 c.args.z.lo = omega (arith, ints) in
    let fu : SFits w128 c.args.z.hi = omega (arith, ints) in
    let fm : SFits w128 c.args.h.lo = omega (arith, ints) in
    simp to_z-of_z at c.least.ensures

high_is : (g : given.Over) (c : After-least-2 g) → c.least-2.result ≡ floor_div (int_min (c.args.z.lo *ℤ (pos 0 -ℤ c.args.h.hi)) (c.args.z.hi *ℤ (pos 0 -ℤ c.args.h.hi))) (2 ^ g.row.S)
high_is g c =
    let fl : SFits w128 c.args.z.lo = omega (arith, ints) in
    let fu : SFits w128 c.args.z.hi = omega (arith, ints) in
    let fk : SFits w128 c.args.h.hi = omega (arith, ints) in
    let fn : SFits w128 (pos 0 -ℤ c.args.h.hi) = omega (arith, ints) in
    simp to_z-of_z at c.least-2.ensures

pub overflow_add-c : goal.overflow_add-c
overflow_add-c g c =
    let fl : SFits w128 c.args.z.lo = omega (arith, ints) in
    let fu : SFits w128 c.args.z.hi = omega (arith, ints) in
    let fm : SFits w128 c.args.h.lo = omega (arith, ints) in
    let fd : SFits w128 c.args.c.lo = omega (arith, ints) in
    let fa : SFits w128 c.least.result = search rules in
    let s = stepped g.row.S c.args.z.lo c.args.z.hi c.args.h.lo c.args.h.hi c.least.result _ c.requires.low c.args.z.ordered c.requires.high c.args.h.ordered (simp to_z-of_z at c.least.ensures) refl in
    let ends = sum_ends _ c.args.c.lo c.args.c.hi c.least.result _ c.args.c.ordered s.shrinks c.requires.size in
    simp to_z-of_z (omega (arith, ints, ends.low, ends.most))

product : (g : given.Over) (c : After-least-2 g) → Stepped (max (unsigned_abs c.args.h.lo) (unsigned_abs c.args.h.hi)) g.row.S c.args.z.lo c.args.z.hi c.args.h.lo c.args.h.hi c.least.result c.least-2.result
product g c =
    stepped g.row.S c.args.z.lo c.args.z.hi c.args.h.lo c.args.h.hi c.least.result c.least-2.result c.requires.low c.args.z.ordered c.requires.high c.args.h.ordered (low_is g c) (high_is g c)

ends : (g : given.Over) (c : After-least-2 g) → SumEnds (c.args.c.lo +ℤ c.least.result) (c.args.c.hi -ℤ c.least-2.result)
ends g c = sum_ends _ c.args.c.lo c.args.c.hi c.least.result c.least-2.result c.args.c.ordered (product g c).shrinks c.requires.size

pub overflow_sub-c : goal.overflow_sub-c
overflow_sub-c g c =
    let fc : SFits w128 c.args.c.hi = omega (arith, ints) in
    let fb : SFits w128 c.least-2.result = search rules in
    let e = ends g (goal.at.overflow_sub-c g c).After-least-2 in
    simp to_z-of_z (omega (arith, ints, e.ordered, e.low, e.high))

pub of_ends-requires : goal.of_ends-requires
of_ends-requires g c =
    let fd : SFits w128 c.args.c.lo = omega (arith, ints) in
    let fc : SFits w128 c.args.c.hi = omega (arith, ints) in
    let fa : SFits w128 c.least.result = search rules in
    let fb : SFits w128 c.least-2.result = search rules in
    let e = ends g (goal.at.of_ends-requires g c).After-least-2 in
    let fx : SFits w128 (c.args.c.lo +ℤ c.least.result) = omega (arith, ints, e.low, e.most) in
    let fy : SFits w128 (c.args.c.hi -ℤ c.least-2.result) = omega (arith, ints, e.ordered, e.low, e.high) in
    (lit< tt, (simp to_z-of_z e.ordered, (simp to_z-of_z e.low, (simp to_z-of_z e.high, c.args.c.scale))))

lo : (g : given.Over) (c : After-of_ends g) → SumEnds (c.args.c.lo +ℤ c.least.result) (c.args.c.hi -ℤ c.least-2.result) → c.of_ends.result.lo ≡ c.args.c.lo +ℤ c.least.result
lo g c e =
    let fd : SFits w128 c.args.c.lo = omega (arith, ints) in
    let fa : SFits w128 c.least.result = search rules in
    let fx : SFits w128 (c.args.c.lo +ℤ c.least.result) = omega (arith, ints, e.low, e.most) in
    simp to_z-of_z at c.of_ends.ensures.lo

hi : (g : given.Over) (c : After-of_ends g) → SumEnds (c.args.c.lo +ℤ c.least.result) (c.args.c.hi -ℤ c.least-2.result) → c.of_ends.result.hi ≡ c.args.c.hi -ℤ c.least-2.result
hi g c e =
    let fc : SFits w128 c.args.c.hi = omega (arith, ints) in
    let fb : SFits w128 c.least-2.result = search rules in
    let fy : SFits w128 (c.args.c.hi -ℤ c.least-2.result) = omega (arith, ints, e.ordered, e.low, e.high) in
    simp to_z-of_z at c.of_ends.ensures.hi

pub returns-clause-lo : goal.returns-clause-lo
returns-clause-lo g c =
    let at = goal.at.returns-clause-lo g c in
    let e = ends g at.After-least-2 in
    lo g at.After-of_ends e ∙ ap (λ z. c.args.c.lo +ℤ z) (product g at.After-least-2).low_is

pub returns-clause-hi : goal.returns-clause-hi
returns-clause-hi g c =
    let at = goal.at.returns-clause-hi g c in
    let e = ends g at.After-least-2 in
    hi g at.After-of_ends e ∙ ap (λ z. c.args.c.hi +ℤ z) (product g at.After-least-2).high_is

pub returns-clause-size : goal.returns-clause-size
returns-clause-size g c =
    let at = goal.at.returns-clause-size g c in
    let e = ends g at.After-least-2 in
    rw (lo g at.After-of_ends e, hi g at.After-of_ends e) (sum_magnitude _ c.args.c.lo c.least.result c.args.c.hi (neg_ℤ c.least-2.result) (product g at.After-least-2).shrinks)
