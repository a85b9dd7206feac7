-- The code's products are those of the definitions, and fit.
use Rattle.std.proofs.Common.{◌≡◌, ℕ, ◌+◌, ◌*◌, ◌^◌, ◌≤◌, arith, unsigned_abs, lit<, ℤ, pos, neg_ℤ, ◌+ℤ◌, ◌-ℤ◌, ◌*ℤ◌, Bool, int_lt}
use Rattle.std.proofs.lemmas.Int.{ints, fits_signed_mul, unsigned_abs-mul}
use Rattle.std.proofs.Math.Nat.{mul-le-mul}
use mir.Syntax.{w128}
use mir.Val.{SFits}
use Rattle.number_model.specs.Rounding.{IsWithin}
use Rattle.number_model.proofs.Ints.{as_diff, same_diff, ring}
use Rattle.water_model.specs.Decimal.{integer}
use Rattle.bench_model.proofs.Steady.{same_test}
use Rattle.bench_limits.specs.Factors.{least_factor, most_factor}
use Rattle.bench_model.specs.Verdicts.{verdict_of, calculator_verdict, pair_verdict}

-- tests of equal numbers
same_verdict : (a b d a' b' d' : ℤ) → a ≡ a' → b ≡ b' → d ≡ d' → verdict_of (int_lt a b) (int_lt b d) ≡ verdict_of (int_lt a' b') (int_lt b' d')
same_verdict a b d a' b' d' e f g = cc

-- ---- the calculator
pub calculator_verdict-integer : (m D L E : ℕ) (q : ℤ) → calculator_verdict m D L E (integer q)
    ≡ verdict_of (int_lt (most_factor m D *ℤ (pos L *ℤ q)) ((pos 200 *ℤ pos D) *ℤ pos E)) (int_lt ((pos 200 *ℤ pos D) *ℤ pos E) (least_factor m D *ℤ (pos L *ℤ q)))
unfolding calculator_verdict
calculator_verdict-integer m D L E q = same_verdict _ _ _ _ _ _ (most m D L q) (indicated D E) (least m D L q)
  where
    most : (m D L : ℕ) (q : ℤ) → (pos ((201 * D + 2 * m) * L) *ℤ q) *ℤ pos 1 ≡ most_factor m D *ℤ (pos L *ℤ q)
    most m D L q = rw (as_diff q) (simp ring (same_diff _ _ _ _ (omega arith)))

    indicated : (D E : ℕ) → pos (200 * D * E) *ℤ pos (1 * 1) ≡ (pos 200 *ℤ pos D) *ℤ pos E
    indicated D E = omega (arith, ints)

    least : (m D L : ℕ) (q : ℤ) → (((pos (199 * D) -ℤ pos (2 * m)) *ℤ pos L) *ℤ q) *ℤ pos 1 ≡ least_factor m D *ℤ (pos L *ℤ q)
    least m D L q = rw (as_diff q) (simp ring (same_diff _ _ _ _ (omega arith)))

-- the calculator's products fit
pub record Fit (m D L E : ℕ) (q : ℤ) : Type 0 where
  pub given : SFits w128 (pos L *ℤ q)
  pub least : SFits w128 (least_factor m D *ℤ (pos L *ℤ q))
  pub most : SFits w128 (most_factor m D *ℤ (pos L *ℤ q))
  pub indicated : SFits w128 ((pos 200 *ℤ pos D) *ℤ pos E)

pub Fit-products : (m D L E : ℕ) (q : ℤ) → m ≤ 180000000 → D ≤ 180000000 → L ≤ 10 ^ 9 → E ≤ 10 ^ 18 → IsWithin 2000000000 q → Fit m D L E q
Fit-products m D L E q hm hD hL hE hq =
    let litre : unsigned_abs q ≤ 2000000000 = omega (arith, ints, hq.low, hq.high) in
    let given : unsigned_abs (pos L *ℤ q) ≤ 10 ^ 9 * 2000000000 = rw (unsigned_abs-mul (pos L) q) (mul-le-mul hL litre) in
    record {
      given = fits_signed_mul w128 (pos L) q (10 ^ 9) 2000000000 hL litre (lit< tt);
      least = fits_signed_mul w128 (least_factor m D) (pos L *ℤ q) 50000000000 (10 ^ 9 * 2000000000) (omega (arith, ints)) given (lit< tt);
      most = fits_signed_mul w128 (most_factor m D) (pos L *ℤ q) 50000000000 (10 ^ 9 * 2000000000) (omega (arith, ints)) given (lit< tt);
      indicated = fits_signed_mul w128 (pos 200 *ℤ pos D) (pos E) 50000000000 (10 ^ 18) (omega (arith, ints)) hE (lit< tt);
    }

-- ---- the pair
same_tests : (h l h' l' : Bool) → h ≡ h' → l ≡ l' → verdict_of h l ≡ verdict_of h' l'
same_tests h l h' l' e f = cc

pub pair_verdict-integer : (m D : ℕ) (d : ℤ) → pair_verdict m D (integer d)
    ≡ verdict_of (int_lt (pos D +ℤ pos 6 *ℤ pos m) (pos 200 *ℤ (d -ℤ pos D))) (int_lt (pos 200 *ℤ (d -ℤ pos D)) (neg_ℤ (pos D +ℤ pos 6 *ℤ pos m)))
unfolding pair_verdict
pair_verdict-integer m D d = same_tests _ _ _ _
    (same_test (pos (D + 6 * m) *ℤ pos (1 * (1 * 1))) ((pos 200 *ℤ (d *ℤ pos 1 +ℤ neg_ℤ (pos D) *ℤ pos 1)) *ℤ pos 1) (pos D +ℤ pos 6 *ℤ pos m) (pos 200 *ℤ (d -ℤ pos D)) (omega (arith, ints)))
    (same_test (pos (D + 6 * m) *ℤ pos (1 * (1 * 1))) ((pos 200 *ℤ (pos D *ℤ pos 1 +ℤ neg_ℤ d *ℤ pos 1)) *ℤ pos 1) (pos 200 *ℤ (d -ℤ pos D)) (neg_ℤ (pos D +ℤ pos 6 *ℤ pos m)) (omega (arith, ints)))
