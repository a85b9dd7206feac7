use Rattle.std.proofs.Common.{◌≡◌, ◌∙◌, ap, ◌*ℤ◌, ◌^◌, ◌≤◌, pos, neg_ℤ, arith, rules, lit<, unsigned_abs, to_z-of_z, refl}
use Rattle.std.proofs.lemmas.Int.{fits_signed_mul}
use lib.IntN.{◌-ℤ◌, +ℤ_idl}
use mir.Val.{SFits}
use mir.Syntax.{w8, w64}
use Rattle.dec_tables.proofs.Factors.{neg_product_fits}
use Rattle.dec_tables.proofs.factor.by_pressure.Goals as goal

pub returns : goal.returns
returns c =
    let fm : SFits w64 c.args.t.now.mantissa = search rules in
    let fj : SFits w8 c.args.t.now.j = search rules in
    let fe : SFits w8 c.args.t.now.exp10 = search rules in
    let ff : SFits w64 c.from.result = search rules in
    let small : unsigned_abs c.from.result ≤ 2 ^ 8 = rw c.from.ensures (omega arith) in
    let fp : SFits w64 (c.from.result *ℤ c.args.t.now.mantissa) = fits_signed_mul w64 c.from.result c.args.t.now.mantissa (2 ^ 8) (2 ^ 53) small c.requires (lit< tt) in
    let fn : SFits w64 (pos 0 -ℤ (c.from.result *ℤ c.args.t.now.mantissa)) = neg_product_fits c.from.result c.args.t.now.mantissa small c.requires in
    let is : pos 0 -ℤ (c.from.result *ℤ c.args.t.now.mantissa) ≡ neg_ℤ (pos c.args.t.now.i *ℤ c.args.t.now.mantissa) = +ℤ_idl (neg_ℤ (c.from.result *ℤ c.args.t.now.mantissa)) ∙ ap (λ z. neg_ℤ (z *ℤ c.args.t.now.mantissa)) c.from.ensures in
    simp to_z-of_z (rw (c.saturating_sub.ensures, is) refl)
