use Rattle.std.proofs.Common.{◌-◌, rules}
use Rattle.water_model.specs.Water.{tau_of, gas_constant}
use Rattle.slope_cert.specs.Sizes.{gas_constant_size, tau_size, factor_size}
use Rattle.slope_cert.proofs.factor.slope_factor.Goals as goal

pub returns-clause-holds : goal.returns-clause-holds
returns-clause-holds c = λ t1 t2 s1 s2.
    c.triple_product.ensures.holds gas_constant (tau_of t1) (tau_of t2) (search rules) (search rules) (search rules)

pub returns-clause-sized : goal.returns-clause-sized
unfolding factor_size
returns-clause-sized c =
    c.triple_product.ensures.size gas_constant_size tau_size tau_size (c.args.span.hi - c.args.span.lo)
    (c.gas_constant_enclosed.ensures.sized (c.args.span.hi - c.args.span.lo)) (search rules) (search rules)
