use Rattle.std.proofs.Common.{◌∙◌, sym}
use Rattle.billing_memory.proofs.Dates.{day_said, parts_said}
use Rattle.billing_memory.proofs.words.date_word.Goals as goal

pub returns : goal.returns
returns c =
    day_said c.in_ok-year.year c.in_ok-year.month c.in_ok-year.day c.day_of.result c.day_of.ensures.some c.day_of.ensures.none
    ∙ parts_said _ _ _ _ _ _ _ (sym c.date_parts.ensures ∙ c.in_ok-year.was)
