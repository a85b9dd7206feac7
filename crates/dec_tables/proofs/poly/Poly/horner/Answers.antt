use Rattle.std.proofs.Common.{◌≡◌, ◌-◌, ◌+◌, [], length, drop, drop_of_length-le, arith, lit<}
use Rattle.std.proofs.lemmas.Int.{ints}
use Rattle.std.proofs.lemmas.List.Sums.{sum_by-take-drop, sum_by-drop_more}
use Rattle.dec_tables.specs.Polynomials.{magnitude, horner_ends}
use Rattle.dec_tables.proofs.Horner.{drop_earlier, horner_next, horner_holds}
use Rattle.dec_tables.proofs.poly.Poly.horner.Goals as goal

pub loop-k-init : goal.loop-k-init
unfolding horner_ends
loop-k-init g c =
    let size : length c.args.self.now.coef ≡ g.row.N = omega arith in
    let none : drop g.row.N c.args.self.now.coef ≡ [] = drop_of_length-le c.args.self.now.coef (omega (arith, size)) in
    rw none (record { lo = c.point-sum.ensures.lo; hi = c.point-sum.ensures.hi; size = omega (arith, ints, c.point-sum.ensures.lo, c.point-sum.ensures.hi) })

pub step-sum-requires : goal.step-sum-requires
step-sum-requires g c =
    let size : length c.args.self.now.coef ≡ g.row.N = omega arith in
    let here = sum_by-drop_more magnitude c.args.self.now.coef (c.loop-k.k - 1) c.index-self-k.result (omega (arith, size, c.loop-k-test.true, c.loop-k.auto.k)) in
    let all = sum_by-take-drop magnitude c.args.self.now.coef (c.loop-k.k - 1) in
    let e : (c.loop-k.k - 1) + 1 ≡ c.loop-k.k = omega (arith, c.loop-k-test.true) in
    (lit< tt, (c.requires.low, (c.requires.high, omega (arith, rw e at here, all, c.loop-k.invariant.size, c.requires.size))))

pub loop-k-preserved : goal.loop-k-preserved
loop-k-preserved g c =
    let size : length c.args.self.now.coef ≡ g.row.N = omega arith in
    let split = drop_earlier c.args.self.now.coef c.loop-k.k c.index-self-k.result (omega (arith, c.loop-k-test.true)) (omega (arith, size, c.loop-k.auto.k)) in
    let e : (c.loop-k.k - 1) + 1 ≡ c.loop-k.k = omega (arith, c.loop-k-test.true) in
    let here = rw e at (sum_by-drop_more magnitude c.args.self.now.coef (c.loop-k.k - 1) c.index-self-k.result (omega (arith, size, c.loop-k-test.true, c.loop-k.auto.k))) in
    let ends = horner_next g.row.S c.args.z.lo c.args.z.hi _ c.loop-k.sum (drop c.loop-k.k c.args.self.now.coef) c.step-sum.result.lo c.step-sum.result.hi c.loop-k.invariant.lo c.loop-k.invariant.hi c.step-sum.ensures.lo c.step-sum.ensures.hi in
    record { lo = rw split ends.0; hi = rw split ends.1; size = omega (arith, here, c.loop-k.invariant.size, c.step-sum.ensures.size) }

pub returns-clause-holds : goal.returns-clause-holds
returns-clause-holds g c = λ v y h hz.
    let size : length c.args.self.now.coef ≡ g.row.N = omega arith in
    let zero : c.loop-k.k ≡ 0 = omega (arith, c.loop-k-test.false) in
    let lo = rw zero at c.loop-k.invariant.lo in
    let hi = rw zero at c.loop-k.invariant.hi in
    rw (lo, hi) (rw size at (horner_holds g.row.S c.args.z.lo c.args.z.hi c.args.self.now.coef v y h hz))
