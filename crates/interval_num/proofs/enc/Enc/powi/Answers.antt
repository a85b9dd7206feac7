use Rattle.std.proofs.Common.{◌≡◌, ℕ, ◌+◌, ◌-◌, ◌*◌, ◌^◌, ◌≤◌, pos, ◌≤ℤ◌, unsigned_abs, arith, to_z, to_z-of_z}
use Rattle.std.proofs.lemmas.Int.{ints, to_z_pos}
use Rattle.std.proofs.lemmas.Nat.{pow_pos}
use Rattle.std.proofs.Math.Nat.{mul-le-mul_right}
use mir.Syntax.{w128}
use mir.Val.{SFits}
use Rattle.interval_num.specs.Ends.{IsPower}
use Rattle.interval_num.proofs.EndsLemmas.{pow_at_most}
use Rattle.interval_num.proofs.PowerLemmas.{unsigned_abs-le, Holds-pow, IsPower-width, powers_ordered}
use Rattle.interval_num.proofs.enc.Enc.powi.Given as given
use Rattle.interval_num.proofs.enc.Enc.powi.Goals as goal
use Rattle.interval_num.proofs.enc.Enc.powi.Goals.{After-power_ceil}

one_lower : (x p n d : ℕ) → x ≤ (p + (n - 1)) * d → x ≤ (p + n) * d
one_lower x p n d h = let k : (p + (n - 1)) * d ≤ (p + n) * d = mul-le-mul_right d (omega arith) in omega (arith, h, k)

one_higher : (p x n d : ℕ) → p * d ≤ x + (n - 1) * d → p * d ≤ x + n * d
one_higher p x n d h = let k : (n - 1) * d ≤ n * d = mul-le-mul_right d (omega arith) in omega (arith, h, k)

low_is : (g : given.Over) (c : After-power_ceil g) → to_z w128 c.power_floor.result ≡ pos c.power_floor.result
low_is g c = to_z_pos w128 c.power_floor.result (omega (arith, c.power_floor.ensures.range, pow_at_most g.row.S c.args.self.scale))

high_is : (g : given.Over) (c : After-power_ceil g) → to_z w128 c.power_ceil.result ≡ pos c.power_ceil.result
high_is g c = to_z_pos w128 c.power_ceil.result (omega (arith, c.power_ceil.ensures.range, pow_at_most g.row.S c.args.self.scale))

ends : (g : given.Over) (c : After-power_ceil g) → IsPower g.row.S c.args.n c.args.self.lo c.args.self.hi (pos c.power_floor.result) (pos c.power_ceil.result)
ends g c =
    let fl : SFits w128 c.args.self.lo = omega (arith, ints) in
    let fh : SFits w128 c.args.self.hi = omega (arith, ints) in
    record {
      low = omega (arith, ints);
      high = omega (arith, ints, c.power_ceil.ensures.range);
      low_below = simp to_z-of_z at c.power_floor.ensures.below;
      low_above = one_lower _ c.power_floor.result c.args.n _ (simp to_z-of_z at c.power_floor.ensures.above);
      high_above = simp to_z-of_z at c.power_ceil.ensures.above;
      high_below = one_higher c.power_ceil.result _ c.args.n _ (simp to_z-of_z at c.power_ceil.ensures.below);
    }

ordered : (g : given.Over) (c : After-power_ceil g) → pos c.power_floor.result ≤ℤ pos c.power_ceil.result
ordered g c =
    let e = ends g c in
    let p : c.power_floor.result ≤ c.power_ceil.result =
    powers_ordered (2 ^ g.row.S) c.args.n (unsigned_abs c.args.self.lo) (unsigned_abs c.args.self.hi) _ _ (pow_pos g.row.S) (unsigned_abs-le _ _ c.requires.low c.args.self.ordered) e.low_below e.high_above in
    omega (arith, ints, p)

pub invariant_of-result : goal.invariant_of-result
invariant_of-result g c =
    let top : 2 ^ g.row.S ≤ 2 ^ 60 = pow_at_most g.row.S c.args.self.scale in
    record {
      ordered = rw (low_is g c, high_is g c) (ordered g c);
      low = rw (low_is g c) (omega (arith, ints));
      high = rw (high_is g c) (omega (arith, ints, c.power_ceil.ensures.range));
      scale = c.args.self.scale;
    }

pub returns-clause-ends : goal.returns-clause-ends
returns-clause-ends g c =
    let d = (goal.at.returns-clause-ends g c).After-power_ceil in
    rw (low_is g d, high_is g d) (ends g d)

pub returns-clause-width : goal.returns-clause-width
returns-clause-width g c =
    let d = (goal.at.returns-clause-width g c).After-power_ceil in
    rw (low_is g d, high_is g d) (IsPower-width g.row.S c.args.n _ _ _ _ c.requires.low c.args.self.ordered c.requires.high (ordered g d) (ends g d))

pub returns-clause-holds : goal.returns-clause-holds
returns-clause-holds g c = λ x p.
    let d = (goal.at.returns-clause-holds g c).After-power_ceil in
    rw (low_is g d, high_is g d) (Holds-pow g.row.S c.args.n c.args.self.lo c.args.self.hi _ _ x c.requires.low (omega (arith, ints, c.requires.low, c.args.self.ordered)) (omega (arith, ints)) (omega (arith, ints)) (ends g d) p)
