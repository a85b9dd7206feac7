use Rattle.std.proofs.Common.{◌≡◌, ◌∙◌, ◌-◌, arith, subst, to_z-of_z, pos, ◌≤ℤ◌, ◌<ℤ◌, unsigned_abs, lit<}
use Rattle.std.proofs.lemmas.Int.{ints}
use mir.Val.{SFits}
use mir.Syntax.{w8}
use Rattle.number_model.specs.Fraction.{◌*ℚ◌, part, inverse}
use Rattle.number_model.proofs.Same.{Holds-same}
use Rattle.water_model.specs.Water.{y_of}
use Rattle.enclosure_sizes.specs.Size.{Size, SizedBy}
use Rattle.region1_terms.specs.Variables.{y_size, z_size}
use Rattle.region1_terms.proofs.Scaled.{y_rising, y_falling, y_raised, above_of, below_of, y_power_size-rising, y_power_size-falling, y_power_size-raised}
use Rattle.region1_terms.proofs.variables.Variables.y_power.Goals as goal

pub returns-then-j-ge0-clause-holds : goal.returns-then-j-ge0-clause-holds
returns-then-j-ge0-clause-holds c = λ t s.
    let fits : SFits w8 c.args.j = c.ranges.j in
    let above : pos 0 ≤ℤ c.args.j = above_of c.args.j (simp to_z-of_z at c.if-j-ge0.true) in
    let n_is : c.from-n.result ≡ unsigned_abs c.args.j = c.from-n.ensures ∙ (simp to_z-of_z at c.unsigned_abs.ensures.value) in
    Holds-same (y_rising (y_of t) c.args.j c.from-n.result above n_is) (c.unit_power.ensures.holds (y_of t *ℚ part 4 (lit< tt)) (c.args.self.now.holds.y t s))

pub returns-then-j-ge0-clause-size : goal.returns-then-j-ge0-clause-size
returns-then-j-ge0-clause-size c =
    let fits : SFits w8 c.args.j = c.ranges.j in
    let above : pos 0 ≤ℤ c.args.j = above_of c.args.j (simp to_z-of_z at c.if-j-ge0.true) in
    let n_is : c.from-n.result ≡ unsigned_abs c.args.j = c.from-n.ensures ∙ (simp to_z-of_z at c.unsigned_abs.ensures.value) in
    let P : Size → Type 0 = λ z. SizedBy z (c.args.self.now.span.hi - c.args.self.now.span.lo) c.unit_power.result.lo c.unit_power.result.hi in
    subst P (y_power_size-rising c.args.j c.from-n.result above n_is) (c.unit_power.ensures.size y_size _ c.args.self.now.sized.y)

pub returns-then-n-lt29-clause-holds : goal.returns-then-n-lt29-clause-holds
returns-then-n-lt29-clause-holds c = λ t s.
    let fits : SFits w8 c.args.j = c.ranges.j in
    let below : c.args.j <ℤ pos 0 = below_of c.args.j (simp to_z-of_z at c.if-j-ge0.false) in
    let n_is : c.from-n.result ≡ unsigned_abs c.args.j = c.from-n.ensures ∙ (simp to_z-of_z at c.unsigned_abs.ensures.value) in
    Holds-same (y_falling (y_of t) c.args.j c.from-n.result below n_is (omega (arith, c.if-n-lt29.true))) (c.unit_power-then-n-lt29.ensures.holds (inverse (y_of t)) (c.args.self.now.holds.z t s))

pub returns-then-n-lt29-clause-size : goal.returns-then-n-lt29-clause-size
returns-then-n-lt29-clause-size c =
    let fits : SFits w8 c.args.j = c.ranges.j in
    let below : c.args.j <ℤ pos 0 = below_of c.args.j (simp to_z-of_z at c.if-j-ge0.false) in
    let n_is : c.from-n.result ≡ unsigned_abs c.args.j = c.from-n.ensures ∙ (simp to_z-of_z at c.unsigned_abs.ensures.value) in
    let P : Size → Type 0 = λ z. SizedBy z (c.args.self.now.span.hi - c.args.self.now.span.lo) c.unit_power-then-n-lt29.result.lo c.unit_power-then-n-lt29.result.hi in
    subst P (y_power_size-falling c.args.j c.from-n.result below n_is (omega (arith, c.if-n-lt29.true))) (c.unit_power-then-n-lt29.ensures.size z_size _ c.args.self.now.sized.z)

pub returns-else-n-lt29-clause-holds : goal.returns-else-n-lt29-clause-holds
returns-else-n-lt29-clause-holds c = λ t s.
    let fits : SFits w8 c.args.j = c.ranges.j in
    let below : c.args.j <ℤ pos 0 = below_of c.args.j (simp to_z-of_z at c.if-j-ge0.false) in
    let n_is : c.from-n.result ≡ unsigned_abs c.args.j = c.from-n.ensures ∙ (simp to_z-of_z at c.unsigned_abs.ensures.value) in
    Holds-same (y_raised (y_of t) c.args.j c.from-n.result below n_is (omega (arith, c.if-n-lt29.false))) (c.raised_power.ensures.holds (inverse (y_of t)) (c.args.self.now.holds.z t s))

pub returns-else-n-lt29-clause-size : goal.returns-else-n-lt29-clause-size
returns-else-n-lt29-clause-size c =
    let fits : SFits w8 c.args.j = c.ranges.j in
    let below : c.args.j <ℤ pos 0 = below_of c.args.j (simp to_z-of_z at c.if-j-ge0.false) in
    let n_is : c.from-n.result ≡ unsigned_abs c.args.j = c.from-n.ensures ∙ (simp to_z-of_z at c.unsigned_abs.ensures.value) in
    let P : Size → Type 0 = λ z. SizedBy z (c.args.self.now.span.hi - c.args.self.now.span.lo) c.raised_power.result.lo c.raised_power.result.hi in
    subst P (y_power_size-raised c.args.j c.from-n.result below n_is (omega (arith, c.if-n-lt29.false))) (c.raised_power.ensures.size z_size _ c.args.self.now.sized.z)
