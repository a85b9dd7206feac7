use Rattle.std.proofs.Common.{◌≡◌, ◌∙◌, ap, ◌*ℤ◌, pos, neg_ℤ, rules, to_z-of_z}
use lib.IntN.{◌-ℤ◌, +ℤ_idl}
use mir.Val.{SFits}
use mir.Syntax.{w8, w64}
use Rattle.slope_cert.proofs.Derived.{product_fits}
use Rattle.slope_cert.proofs.curvature.curvature_mantissa.Goals as goal

pub returns : goal.returns
returns c =
    let fm : SFits w64 c.args.t.now.mantissa = search rules in
    let fj : SFits w8 c.args.t.now.j = search rules in
    let ff : SFits w64 c.second_factor.result = search rules in
    let value : c.second_factor.result ≡ c.args.t.now.j *ℤ (c.args.t.now.j -ℤ pos 1) = (simp to_z-of_z at c.second_factor.ensures.value) in
    let fits = product_fits c.second_factor.result c.args.t.now.mantissa c.second_factor.ensures.small c.requires in
    let fp : SFits w64 (c.second_factor.result *ℤ c.args.t.now.mantissa) = fits.0 in
    let fn : SFits w64 (pos 0 -ℤ (c.second_factor.result *ℤ c.args.t.now.mantissa)) = fits.1 in
    simp to_z-of_z (+ℤ_idl (neg_ℤ (c.second_factor.result *ℤ c.args.t.now.mantissa)) ∙ ap (λ z. neg_ℤ (z *ℤ c.args.t.now.mantissa)) value)
