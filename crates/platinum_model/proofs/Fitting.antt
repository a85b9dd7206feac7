-- Elements whose constants fit a sensor rise, and steeply enough for narrow cells.
use Rattle.std.proofs.Common.{◌-◌, ◌*◌, ◌≤◌, arith, IsTrue}
use Rattle.std.proofs.lemmas.Bool.Decides.{nat_tests}
use native.Mathlib.Nat.{mul-le-mul}
use Rattle.platinum_model.specs.Element.{Element}
use Rattle.platinum_model.specs.Calibration.{fits_a_sensor}
use Rattle.platinum_model.proofs.Cells.{IsSteep}

-- the ranges of the constants, whichever sensor they fit
pub record AreFitting (e : Element) : Type 0 where
  pub r0_least : 99500000 ≤ e.r0_uohm
  pub r0_most : e.r0_uohm ≤ 1005000000
  pub a_least : 38800000 ≤ e.a_e10
  pub a_most : e.a_e10 ≤ 39400000
  pub b_most : e.b_e10 ≤ 6000

pub fitting : (e : Element) → IsTrue (fits_a_sensor e) → AreFitting e
fitting e h = record {
  r0_least = grind (arith, nat_tests);
  r0_most = grind (arith, nat_tests);
  a_least = grind (arith, nat_tests);
  a_most = grind (arith, nat_tests);
  b_most = grind (arith, nat_tests);
}

pub fitting-steep : (e : Element) → IsTrue (fits_a_sensor e) → IsSteep e
fitting-steep e h =
    let ranges : AreFitting e = fitting e h in
    let above : 36640000 ≤ e.a_e10 - 360 * e.b_e10 = omega (arith, ranges.a_least, ranges.b_most) in
    let slope : 99500000 * 36640000 ≤ e.r0_uohm * (e.a_e10 - 360 * e.b_e10) = mul-le-mul ranges.r0_least above in
    record {
      rising = record { conducts = omega (arith, ranges.r0_least); steep = omega (arith, ranges.a_least, ranges.b_most) };
      slope = omega arith;
    }
