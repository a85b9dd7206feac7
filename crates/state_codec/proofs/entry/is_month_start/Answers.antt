use Rattle.state_codec.proofs.MonthLaws.{month_start-is}
use Rattle.state_codec.proofs.entry.is_month_start.Goals as goal

pub returns : goal.returns
returns c = month_start-is c.args.day.number c.month_start.result.number c.month_start.ensures
