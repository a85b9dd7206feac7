use Rattle.std.proofs.Common.{◌≡◌, ◌∙◌, ◌*◌, ap, refl, ℕ, pos, ◌*ℤ◌, to_z-of_z, rules, w64}
use mir.Syntax.{w128}
use mir.Val.{SFits}
use Rattle.pulse_integrator.proofs.Litres.{adds_pulses, is_times}
use Rattle.pulse_integrator.proofs.rate.Rate.add.Goals as goal

product : (x x' y y' : ℕ) → x ≡ x' → y ≡ y' → x * y ≡ x' * y'
product x x' y y' p q = rw (p, q) refl

pub returns-then-self : goal.returns-then-self
returns-then-self c =
    let rate = c.args.self.now in
    let fl : SFits w64 rate.litre.e_mj = search rules in
    let fe : SFits w128 c.energy.result = search rules in
    let litres : c.args.n * c.from.result ≡ c.args.n * rate.per_pulse = product _ _ _ _ refl c.from.ensures in
    let energy : c.energy.result ≡ pos (c.args.n * c.from.result) *ℤ rate.litre.e_mj = simp to_z-of_z at c.energy.ensures in
    let energy_of : c.energy.result ≡ pos (c.args.n * rate.per_pulse) *ℤ rate.litre.e_mj = energy ∙ ap (λ x. pos x *ℤ rate.litre.e_mj) litres in
    let bound : c.from-2.result * c.from-3.result ≡ (c.args.n * rate.per_pulse) * rate.litre.b_mj = product _ _ _ _ (c.from-2.ensures ∙ litres) c.from-3.ensures in
    record {
      adds = adds_pulses rate.per_pulse rate.origin rate.litre c.args.n _ rate.litre_adds (simp to_z-of_z energy_of) bound (rw c.if-self.true refl);
      times = is_times rate c.args.n _ (simp to_z-of_z energy_of) bound (rw c.if-self.true refl);
    }

pub returns-else-self : goal.returns-else-self
returns-else-self c =
    let rate = c.args.self.now in
    let fl : SFits w64 rate.litre.e_mj = search rules in
    let fe : SFits w128 c.energy.result = search rules in
    let litres : c.args.n * c.from.result ≡ c.args.n * rate.per_pulse = product _ _ _ _ refl c.from.ensures in
    let energy : c.energy.result ≡ pos (c.args.n * c.from.result) *ℤ rate.litre.e_mj = simp to_z-of_z at c.energy.ensures in
    let energy_of : c.energy.result ≡ pos (c.args.n * rate.per_pulse) *ℤ rate.litre.e_mj = energy ∙ ap (λ x. pos x *ℤ rate.litre.e_mj) litres in
    let bound : c.from-2.result * c.from-3.result ≡ (c.args.n * rate.per_pulse) * rate.litre.b_mj = product _ _ _ _ (c.from-2.ensures ∙ litres) c.from-3.ensures in
    record {
      adds = adds_pulses rate.per_pulse rate.origin rate.litre c.args.n _ rate.litre_adds (simp to_z-of_z energy_of) bound (rw c.if-self.false refl);
      times = is_times rate c.args.n _ (simp to_z-of_z energy_of) bound (rw c.if-self.false refl);
    }
