-- What is computed of curves whose constants fit a sensor fits.
use Rattle.std.proofs.Common.{ℕ, ◌+◌, ◌-◌, ◌*◌, ◌^◌, ◌<◌, ◌≤◌, arith, IsTrue, pos, to_z, ◌/◌, ◌≤ℤ◌}
use Rattle.std.specs.Int.{w128}
use Rattle.std.proofs.lemmas.Int.{ints, to_z_pos}
use native.Mathlib.Nat.{mul-le-mul}
use Rattle.number_model.specs.Fraction.{IsRatio}
use Rattle.number_model.specs.Enclosure.{nanodegrees}
use Rattle.platinum_model.proofs.Scaled.{scaled_resistance-ratio}
use Rattle.platinum_model.specs.Element.{Element, resistance, scaled_resistance}
use Rattle.platinum_model.specs.Calibration.{fits_a_sensor}
use Rattle.platinum_model.proofs.Fitting.{AreFitting, fitting, fitting-steep}

-- 10^28 R fits
pub scaled_resistance-limit : (e : Element) (n : ℕ) → IsTrue (fits_a_sensor e) → n ≤ 180000000000 → scaled_resistance e n ≤ 18 * 10 ^ 36
unfolding scaled_resistance
scaled_resistance-limit e n h k =
    let ranges : AreFitting e = fitting e h in
    let linear : e.a_e10 * n ≤ 39400000 * 180000000000 = mul-le-mul ranges.a_most k in
    let ratio : 10 ^ 28 + e.a_e10 * 10 ^ 9 * n - e.b_e10 * (n * n) ≤ 171 * 10 ^ 26 = omega (arith) in
    let times : e.r0_uohm * (10 ^ 28 + e.a_e10 * 10 ^ 9 * n - e.b_e10 * (n * n)) ≤ 1005000000 * (171 * 10 ^ 26) = mul-le-mul ranges.r0_most ratio in
    omega arith

pub scaled_resistance-cast : (e : Element) (n : ℕ) → IsTrue (fits_a_sensor e) → n ≤ 180000000000
    → IsRatio (to_z w128 (scaled_resistance e n)) (pos (10 ^ 28)) (resistance e (nanodegrees n))
scaled_resistance-cast e n h k =
    let fits : scaled_resistance e n < 2 ^ 127 = omega (arith, scaled_resistance-limit e n h k) in
    rw (to_z_pos w128 (scaled_resistance e n) fits) (scaled_resistance-ratio e n (fitting-steep e h).rising k)

pub scaled_resistance-cast_limit : (e : Element) (n : ℕ) → IsTrue (fits_a_sensor e) → n ≤ 180000000000 → to_z w128 (scaled_resistance e n) ≤ℤ pos (18 * 10 ^ 36)
scaled_resistance-cast_limit e n h k =
    let limit : scaled_resistance e n ≤ 18 * 10 ^ 36 = scaled_resistance-limit e n h k in
    omega (arith, ints)

-- ---- what is computed of a guess fits

-- in units of 10^-13, B t is small beside A
pub bend_small : (b t : ℕ) → b ≤ 6000 → t ≤ 180000000 → b * t / 1000 ≤ 1080000000
bend_small b t h k =
    let most : b * t ≤ 6000 * 180000000 = mul-le-mul h k in
    omega arith

pub bend_square : (b t : ℕ) → b ≤ 6000 → t ≤ 180000000 → b * t / 1000 * t ≤ 2 ^ 60
bend_square b t h k =
    let most : b * t / 1000 * t ≤ 1080000000 * 180000000 = mul-le-mul (bend_small b t h k) k in
    omega arith

-- by how much twice 10^28 R rises at n nanodegrees, a nanodegree
pub rise_bounds : (e : Element) (n : ℕ) → IsTrue (fits_a_sensor e) → n ≤ 180000000000
    → (2 ^ 80 ≤ 2 * e.r0_uohm * (e.a_e10 * 1000000000 - e.b_e10 * (2 * n))) × (2 * e.r0_uohm * (e.a_e10 * 1000000000 - e.b_e10 * (2 * n)) ≤ 2 ^ 90)
rise_bounds e n h k =
    let ranges : AreFitting e = fitting e h in
    let twice : 2 * n ≤ 360000000000 = omega arith in
    let bend : e.b_e10 * (2 * n) ≤ 6000 * 360000000000 = mul-le-mul ranges.b_most twice in
    let r0_low : 2 * 99500000 ≤ 2 * e.r0_uohm = omega (arith, ranges.r0_least) in
    let r0_high : 2 * e.r0_uohm ≤ 2 * 1005000000 = omega (arith, ranges.r0_most) in
    let least : 36640000000000000 ≤ e.a_e10 * 1000000000 - e.b_e10 * (2 * n) = omega (arith, ranges.a_least) in
    let most : e.a_e10 * 1000000000 - e.b_e10 * (2 * n) ≤ 39400000000000000 = omega (arith, ranges.a_most) in
    let low : 2 * 99500000 * 36640000000000000 ≤ 2 * e.r0_uohm * (e.a_e10 * 1000000000 - e.b_e10 * (2 * n)) = mul-le-mul r0_low least in
    let high : 2 * e.r0_uohm * (e.a_e10 * 1000000000 - e.b_e10 * (2 * n)) ≤ 2 * 1005000000 * 39400000000000000 = mul-le-mul r0_high most in
    (omega arith, omega arith)
