use Rattle.std.proofs.Common.{refl}
use Rattle.water_model.specs.Region1.{region1}
use Rattle.dec_tables.proofs.region1.region1_table.Goals as goal

pub returns : goal.returns
unfolding region1
returns c = refl
