use Rattle.std.proofs.Common.{unsigned_abs, ap, ◌∙◌, ◌++◌}
use Rattle.calendar_model.proofs.DayLemmas.{year_positive, IsDay-date}
use Rattle.billing_memory.proofs.TextLemmas.{date_text_is}
use Rattle.billing_memory.proofs.day.Day.text.Goals as goal

pub returns : goal.returns
returns c =
    let date = c.date.result in
    let is = year_positive date.year c.date.ensures.early in
    record {
      year = unsigned_abs date.year;
      month = date.month;
      day = date.day;
      dated = IsDay-date date.year (unsigned_abs date.year) date.month date.day c.args.self.number is (date.year_in, date.month_in, date.day_in) c.date.ensures.early c.date.ensures.late c.date.ensures.counted;
      written = c.push_str.ensures.bytes ∙ ap (λ bytes. bytes ++ c.as_str.result.now) c.new-text.ensures ∙ c.as_str.ensures.value ∙ c.date_text-date.ensures ∙ date_text_is date (unsigned_abs date.year) is;
    }
