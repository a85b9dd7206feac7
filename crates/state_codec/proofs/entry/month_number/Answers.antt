use Rattle.std.proofs.Common.{arith}
use Rattle.state_codec.proofs.MonthLaws.{dated, months_begun-in}
use Rattle.state_codec.proofs.entry.month_number.Goals as goal

pub returns : goal.returns
returns c =
    let is = c.parts-year.ensures in
    let month = dated c.args.day.number c.parts-year.result.0 c.parts-year.result.1 c.parts-year.result.2 is in
    record {
      number = omega (arith, is.date.early, is.date.civil.1.0, c.from.ensures, months_begun-in c.args.day.number month.0 month.1, month.2);
      small = omega (arith, is.date.late, is.date.civil.1.1, c.from.ensures);
    }
