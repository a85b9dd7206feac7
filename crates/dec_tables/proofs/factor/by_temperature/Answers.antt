use Rattle.std.proofs.Common.{◌≡◌, ap, ◌*ℤ◌, ◌^◌, ◌≤◌, arith, rules, lit<, unsigned_abs, to_z-of_z, refl}
use Rattle.std.proofs.lemmas.Int.{ints, fits_signed_mul}
use mir.Val.{SFits}
use mir.Syntax.{w8, w64}
use Rattle.dec_tables.proofs.factor.by_temperature.Goals as goal

pub returns : goal.returns
returns c =
    let fm : SFits w64 c.args.t.now.mantissa = search rules in
    let fj : SFits w8 c.args.t.now.j = search rules in
    let fe : SFits w8 c.args.t.now.exp10 = search rules in
    let ff : SFits w64 c.from.result = search rules in
    let j_is : c.from.result ≡ c.args.t.now.j = (simp to_z-of_z at c.from.ensures) in
    let small : unsigned_abs c.from.result ≤ 2 ^ 8 = rw j_is (omega (arith, ints, fj.sfits)) in
    let fp : SFits w64 (c.from.result *ℤ c.args.t.now.mantissa) = fits_signed_mul w64 c.from.result c.args.t.now.mantissa (2 ^ 8) (2 ^ 53) small c.requires (lit< tt) in
    let is : c.from.result *ℤ c.args.t.now.mantissa ≡ c.args.t.now.j *ℤ c.args.t.now.mantissa = ap (λ z. z *ℤ c.args.t.now.mantissa) j_is in
    simp to_z-of_z (rw is refl)
