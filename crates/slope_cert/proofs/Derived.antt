-- The conditions of the curvatures: each row has one.
use Rattle.std.proofs.Common.{ℕ, ◌*◌, ◌^◌, ◌<◌, ◌≤◌, ℤ, pos, neg_ℤ, ◌≤ℤ◌, ◌*ℤ◌, arith, unsigned_abs, nat_le, Bool, map, length, get_or, refl}
use lib.IntN.{◌-ℤ◌}
use Rattle.std.proofs.lemmas.Int.{ints, unsigned_abs-mul}
use Rattle.std.proofs.lemmas.Bool.{and_parts, leb-true}
use Rattle.std.specs.Prelude.{IsTrue, ◌&&◌}
use mir.Val.{SFits}
use mir.Syntax.{w64}
use native.Mathlib.Nat.{mul-le-mul}
use Rattle.water_model.specs.Region1.{region1}
use Rattle.dec_tables.specs.declared.table.Term.{Term}
use Rattle.dec_tables.specs.Coefficients.{term_of}
use Rattle.dec_tables.proofs.Tables.{every, every_one}
use Rattle.region1_terms.specs.Monomial.{fits}
use Rattle.region1_terms.proofs.Coefficients.{Fits-fits}
use Rattle.slope_cert.specs.Curvature.{curvature_of}

has_curvature : Term → Bool
has_curvature t = nat_le (unsigned_abs t.mantissa) (2 ^ 47) && fits (curvature_of t)

all_curve : IsTrue (every has_curvature (map term_of region1))
unfolding every has_curvature fits region1
all_curve = refl

-- what `curvature` requires
pub record HasCurvature (t : Term) : Type 0 where
  pub power : neg_ℤ (pos 126) ≤ℤ t.j
  pub mantissa : unsigned_abs t.mantissa ≤ 2 ^ 47
  pub fits : IsTrue (fits (curvature_of t))

curvature_parts : (t : Term) → IsTrue (has_curvature t) → HasCurvature t
unfolding has_curvature
curvature_parts t h =
    let p = and_parts (nat_le (unsigned_abs t.mantissa) (2 ^ 47)) (fits (curvature_of t)) h in
    let few = (Fits-fits (curvature_of t) p.1).j in
    record { power = omega (arith, ints, few); mantissa = leb-true _ _ p.0; fits = p.1 }

pub row_curves : (i : ℕ) (d : Term) → i < length (map term_of region1) → HasCurvature (get_or (map term_of region1) i d)
row_curves i d few = curvature_parts (get_or (map term_of region1) i d) (every_one has_curvature (map term_of region1) i d all_curve few)

-- ---- the number that is formed on the way to -J (J - 1) n, and its negation
pub product_fits : (a m : ℤ) → unsigned_abs a ≤ 2 ^ 15 → unsigned_abs m ≤ 2 ^ 47 → SFits w64 (a *ℤ m) × SFits w64 (pos 0 -ℤ (a *ℤ m))
product_fits a m h k =
    let most : unsigned_abs a * unsigned_abs m ≤ 2 ^ 15 * 2 ^ 47 = mul-le-mul h k in
    both (a *ℤ m) (omega (arith, most, unsigned_abs-mul a m))
  where
    both : (z : ℤ) → unsigned_abs z ≤ 2 ^ 62 → SFits w64 z × SFits w64 (pos 0 -ℤ z)
    both z h = (omega (arith, ints, h), omega (arith, ints, h))
