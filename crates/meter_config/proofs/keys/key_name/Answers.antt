use Rattle.std.proofs.Common.{◌≤◌, [], sym, arith}
use Rattle.std.proofs.Math.ListN.{get_or-eq_default}
use Rattle.accept_model.specs.Keys.{keys, key_names}
use Rattle.meter_config.proofs.keys.key_name.Goals as goal

pub returns-in_default : goal.returns-in_default
unfolding keys key_names
returns-in_default c = sym (get_or-eq_default key_names [] (let past : 13 ≤ c.args.key = omega arith in past))
