use Rattle.std.proofs.Common.{◌≡◌, ◌+◌, ◌-◌, ◌*◌, ◌^◌, arith, rules, subst, sym, lit<, lit≤, pos, unsigned_abs, to_z-of_z, ℕ}
use Rattle.std.proofs.lemmas.Int.{ints}
use mir.Val.{SFits}
use mir.Syntax.{w8}
use Rattle.number_model.specs.Fraction.{◌≤ℚ◌, ◌*ℚ◌, whole, part}
use Rattle.number_model.proofs.Same.{Holds-same}
use Rattle.water_model.specs.Decimal.{decimal, whole_power}
use Rattle.water_model.specs.Water.{x_of, y_of}
use Rattle.dec_tables.specs.Coefficients.{coefficient_of}
use Rattle.dec_tables.proofs.Scaling.{room_size}
use Rattle.region1_terms.specs.Variables.{x_size}
use Rattle.region1_terms.specs.Monomial.{y_shift, coefficient_size, monomial_size}
use Rattle.region1_terms.proofs.Coefficients.{Fits-fits, Sized-coefficient, coefficient_range}
use Rattle.region1_terms.proofs.Scaled.{term_same}
use Rattle.region1_terms.proofs.variables.Variables.monomial.Goals as goal

pub unit_power-requires-clause-most : goal.unit_power-requires-clause-most
unit_power-requires-clause-most c = rw c.from.ensures (Fits-fits c.args.t.now c.requires).i

pub unit_power-requires-clause-high : goal.unit_power-requires-clause-high
unit_power-requires-clause-high c = let z = c.args.x.now.sized 0 in omega (arith, ints, z.high)

pub y_power-requires-clause-low : goal.y_power-requires-clause-low
y_power-requires-clause-low c =
    let fits : SFits w8 c.args.t.now.j = search rules in
    let few = (Fits-fits c.args.t.now c.requires).j in
    simp to_z-of_z (omega (arith, ints, few))

pub y_power-requires-clause-high : goal.y_power-requires-clause-high
y_power-requires-clause-high c =
    let fits : SFits w8 c.args.t.now.j = search rules in
    let few = (Fits-fits c.args.t.now c.requires).j in
    simp to_z-of_z (omega (arith, ints, few))

pub power_shift-requires-clause-low : goal.power_shift-requires-clause-low
power_shift-requires-clause-low c =
    let fits : SFits w8 c.args.t.now.j = search rules in
    let few = (Fits-fits c.args.t.now c.requires).j in
    simp to_z-of_z (omega (arith, ints, few))

pub power_shift-requires-clause-high : goal.power_shift-requires-clause-high
power_shift-requires-clause-high c =
    let fits : SFits w8 c.args.t.now.j = search rules in
    let few = (Fits-fits c.args.t.now c.requires).j in
    simp to_z-of_z (omega (arith, ints, few))

pub overflow_sub-up : goal.overflow_sub-up
overflow_sub-up c =
    let fits : SFits w8 c.args.t.now.j = search rules in
    let shift : c.power_shift.result ≡ y_shift c.args.t.now.j = (simp to_z-of_z at c.power_shift.ensures) in
    rw (c.from-2.ensures, shift) (Fits-fits c.args.t.now c.requires).least

pub enclose-requires : goal.enclose-requires
enclose-requires c =
    let fits : SFits w8 c.args.t.now.j = search rules in
    let parts = Fits-fits c.args.t.now c.requires in
    let shift : c.power_shift.result ≡ y_shift c.args.t.now.j = (simp to_z-of_z at c.power_shift.ensures) in
    let whole_is : 56 + (3 * c.from-2.result + c.power_shift.result - 56) ≡ 3 * c.args.t.now.i + y_shift c.args.t.now.j = omega (arith, shift, c.from-2.ensures, parts.least) in
    let P : ℕ → Type 0 = λ k. (decimal (pos (unsigned_abs c.args.t.now.mantissa)) c.args.t.now.exp10 *ℚ whole (2 ^ k)) ≤ℚ whole (2 ^ 61) in
    (lit< tt, (lit≤ tt, (omega (arith, shift, c.from-2.ensures, parts.most), subst P (sym whole_is) (room_size (unsigned_abs c.args.t.now.mantissa) (3 * c.args.t.now.i + y_shift c.args.t.now.j) c.args.t.now.exp10 parts.room))))

pub scaled_product-requires-clause-c_low : goal.scaled_product-requires-clause-c_low
scaled_product-requires-clause-c_low c =
    let fits : SFits w8 c.args.t.now.j = search rules in
    let parts = Fits-fits c.args.t.now c.requires in
    let shift : c.power_shift.result ≡ y_shift c.args.t.now.j = (simp to_z-of_z at c.power_shift.ensures) in
    let up_is : (3 * c.from-2.result + c.power_shift.result - 56) + 56 ≡ 3 * c.args.t.now.i + y_shift c.args.t.now.j = omega (arith, shift, c.from-2.ensures, parts.least) in
    (coefficient_range c.args.t.now c.enclose.result.lo c.enclose.result.hi _ up_is parts.room c.enclose.ensures.width c.enclose.ensures.holds).0

pub scaled_product-requires-clause-c_high : goal.scaled_product-requires-clause-c_high
scaled_product-requires-clause-c_high c =
    let fits : SFits w8 c.args.t.now.j = search rules in
    let parts = Fits-fits c.args.t.now c.requires in
    let shift : c.power_shift.result ≡ y_shift c.args.t.now.j = (simp to_z-of_z at c.power_shift.ensures) in
    let up_is : (3 * c.from-2.result + c.power_shift.result - 56) + 56 ≡ 3 * c.args.t.now.i + y_shift c.args.t.now.j = omega (arith, shift, c.from-2.ensures, parts.least) in
    (coefficient_range c.args.t.now c.enclose.result.lo c.enclose.result.hi _ up_is parts.room c.enclose.ensures.width c.enclose.ensures.holds).1

pub returns : goal.returns
unfolding monomial_size
returns c =
    let fits : SFits w8 c.args.t.now.j = search rules in
    let parts = Fits-fits c.args.t.now c.requires in
    let shift : c.power_shift.result ≡ y_shift c.args.t.now.j = (simp to_z-of_z at c.power_shift.ensures) in
    let up_is : (3 * c.from-2.result + c.power_shift.result - 56) + 56 ≡ 3 * c.args.t.now.i + y_shift c.args.t.now.j = omega (arith, shift, c.from-2.ensures, parts.least) in
    let i_is : c.from.result ≡ c.args.t.now.i = c.from.ensures in
    let y_holds = simp to_z-of_z at c.y_power.ensures.holds in
    let y_sized = simp to_z-of_z at c.y_power.ensures.size in
    let x_sized = rw i_is at (c.unit_power.ensures.size x_size _ (c.args.x.now.sized (c.args.self.now.span.hi - c.args.self.now.span.lo))) in
    record {
      holds = λ t s.
          let x_holds = rw i_is at (c.unit_power.ensures.holds (x_of c.args.x.now.pressure *ℚ part 8 (lit< tt)) c.args.x.now.holds) in
          Holds-same (term_same (coefficient_of c.args.t.now) (x_of c.args.x.now.pressure) (whole_power (y_of t) c.args.t.now.j) c.args.t.now.i (y_shift c.args.t.now.j) _ up_is)
          (c.scaled_product.ensures.holds _ _ c.enclose.ensures.holds (c.unit_product-powers.ensures.holds _ _ x_holds (y_holds t s)));
      sized = c.scaled_product.ensures.size (coefficient_size c.args.t.now) _ _ (Sized-coefficient c.args.t.now _ _ _ _ up_is c.enclose.ensures.width c.enclose.ensures.holds) (c.unit_product-powers.ensures.size _ _ _ x_sized y_sized);
    }
