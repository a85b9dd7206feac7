-- The factors of a term fit their types.
use Rattle.std.proofs.Common.{◌*◌, ◌^◌, ◌≤◌, arith, ℤ, pos, ◌*ℤ◌, unsigned_abs}
use lib.IntN.{◌-ℤ◌}
use Rattle.std.proofs.lemmas.Int.{ints, unsigned_abs-mul}
use mir.Val.{SFits}
use mir.Syntax.{w64}
use native.Mathlib.Nat.{mul-le-mul}

neg_fits : (z : ℤ) → unsigned_abs z ≤ 2 ^ 61 → SFits w64 (pos 0 -ℤ z)
neg_fits z h = omega (arith, ints, h)

pub neg_product_fits : (a b : ℤ) → unsigned_abs a ≤ 2 ^ 8 → unsigned_abs b ≤ 2 ^ 53 → SFits w64 (pos 0 -ℤ (a *ℤ b))
neg_product_fits a b h k =
    let size : unsigned_abs a * unsigned_abs b ≤ 2 ^ 8 * 2 ^ 53 = mul-le-mul h k in
    neg_fits (a *ℤ b) (omega (arith, size, unsigned_abs-mul a b))
