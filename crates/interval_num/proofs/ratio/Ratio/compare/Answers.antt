use Rattle.std.proofs.Common.{◌≡◌, ◌^◌, ℤ, pos, ◌*ℤ◌, ◌≤ℤ◌, arith, to_z-of_z, lit<}
use Rattle.std.proofs.lemmas.Int.{ints, fits_signed_mul}
use mir.Syntax.{w128}
use mir.Val.{SFits}
use Rattle.std.specs.Ordering.{int_cmp}
use Rattle.number_model.specs.Rounding.{IsWithin}
use Rattle.number_model.proofs.Order.{IsOrder-crossed}
use Rattle.interval_num.proofs.ratio.Ratio.compare.Goals as goal

product_fits : (a b : ℤ) → IsWithin (2 ^ 62) a → pos 1 ≤ℤ b → b ≤ℤ pos (2 ^ 62) → SFits w128 (a *ℤ b)
product_fits a b within above below = fits_signed_mul w128 a b (2 ^ 62) (2 ^ 62) (omega (arith, ints, within.low, within.high)) (omega (arith, ints)) (lit< tt)

crossed : (c : goal.After-cmp) → c.cmp.result ≡ int_cmp (c.args.self.num *ℤ c.args.o.den) (c.args.o.num *ℤ c.args.self.den)
crossed c =
    let num : SFits w128 c.args.self.num = omega (arith, ints, c.requires.num.low, c.requires.num.high) in
    let den : SFits w128 c.args.self.den = omega (arith, ints, c.requires.positive, c.requires.den) in
    let o_num : SFits w128 c.args.o.num = omega (arith, ints, c.requires.o_num.low, c.requires.o_num.high) in
    let o_den : SFits w128 c.args.o.den = omega (arith, ints, c.requires.o_positive, c.requires.o_den) in
    let left : SFits w128 (c.args.self.num *ℤ c.args.o.den) = product_fits _ _ c.requires.num c.requires.o_positive c.requires.o_den in
    let right : SFits w128 (c.args.o.num *ℤ c.args.self.den) = product_fits _ _ c.requires.o_num c.requires.positive c.requires.den in
    simp to_z-of_z at c.cmp.ensures

pub returns-clause-crossed : goal.returns-clause-crossed
returns-clause-crossed c = crossed c

pub returns-clause-order : goal.returns-clause-order
returns-clause-order c = λ x y p q. rw (crossed c) (IsOrder-crossed _ _ _ _ x y c.requires.positive c.requires.o_positive p q)
