use Rattle.pt_curve.specs.Curve.{element}
use Rattle.mbus_records.proofs.WholeTemps.{temp_of-found}
use Rattle.mbus_records.proofs.temps.whole_temp.Goals as goal

pub returns-clause-value : goal.returns-clause-value
returns-clause-value c =
    temp_of-found (element c.args.curve.now) c.args.sample c.whole_temp.result c.whole_temp.ensures.in_range c.whole_temp.ensures.whole
