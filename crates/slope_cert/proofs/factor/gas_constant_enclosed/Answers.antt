use Rattle.std.proofs.Common.{refl}
use Rattle.number_model.proofs.Order.{IsRatio-written}
use Rattle.water_model.specs.Water.{gas_constant}
use Rattle.slope_cert.proofs.Quotients.{gas_constant_sized}
use Rattle.slope_cert.proofs.factor.gas_constant_enclosed.Goals as goal

pub returns-clause-holds : goal.returns-clause-holds
returns-clause-holds c = c.of_ratio.ensures.holds gas_constant (IsRatio-written _ _ gas_constant refl refl)

pub returns-clause-sized : goal.returns-clause-sized
returns-clause-sized c = rw (c.of_ratio.ensures.lo, c.of_ratio.ensures.hi) gas_constant_sized
