use Rattle.slope_cert.proofs.Joining.{joins}
use Rattle.slope_cert.proofs.laws.segments_join.Goals as goal

pub returns : goal.returns
returns c = joins
