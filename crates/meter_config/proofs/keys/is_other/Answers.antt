use Rattle.std.proofs.Common.{not, ap}
use Rattle.accept_model.specs.Keys.{keys, key_names}
use Rattle.meter_config.proofs.keys.is_other.Goals as goal

pub returns : goal.returns
unfolding keys key_names
returns c = ap not c.is_key.ensures
