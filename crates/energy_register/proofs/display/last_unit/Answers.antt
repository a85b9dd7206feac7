use Rattle.std.proofs.Common.{arith, ◌^◌, ◌∙◌, ap}
use Rattle.std.proofs.lemmas.Nat.{le-div}
use Rattle.energy_register.proofs.DisplayLemmas.{power_bounds}
use Rattle.energy_register.proofs.display.last_unit.Goals as goal

pub nonzero_div-result : goal.nonzero_div-result
nonzero_div-result c =
    let bounds = power_bounds c.args.decimals c.requires.few in
    let power = c.pow.ensures ∙ ap (λ k. 10 ^ k) c.from.ensures in
    omega (arith, power, bounds.0, bounds.1)

pub returns-clause-positive : goal.returns-clause-positive
returns-clause-positive c =
    let bounds = power_bounds c.args.decimals c.requires.few in
    let power = c.pow.ensures ∙ ap (λ k. 10 ^ k) c.from.ensures in
    le-div 1 c.args.whole c.pow.result (omega (arith, power, bounds.0)) (omega (arith, power, bounds.1, c.requires.large))
