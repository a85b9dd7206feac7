use Rattle.std.proofs.Common.{◌≡◌, arith, pos, ◌+◌, ◌/◌, ◌∙◌, sym, ap}
use Rattle.std.proofs.lemmas.Int.{ints}
use Rattle.jiff_core.specs.Calendar.{days_from_civil}
use Rattle.calendar_model.specs.Calendar.{month_of_year}
use Rattle.calendar_model.proofs.MonthLemmas.{first_day-counted}
use Rattle.billing_memory.proofs.day.Day.first_of.Goals as goal

pub returns : goal.returns
returns c =
    let date = c.constrain.result in
    let year : date.year ≡ pos (2000 + c.args.month / 12) = omega (arith, ints, c.constrain.ensures.year, c.requires) in
    let month : date.month ≡ month_of_year c.args.month = omega (arith, c.constrain.ensures.month) in
    let day : date.day ≡ 1 = omega (arith, c.constrain.ensures.day, date.day_in.0) in
    let counted =
    ap (λ y. days_from_civil y (month_of_year c.args.month) 1) (sym year)
    ∙ ap (λ m. days_from_civil date.year m 1) (sym month)
    ∙ ap (λ d. days_from_civil date.year date.month d) (sym day)
    ∙ c.at.ensures in
    first_day-counted c.args.month c.at.result.number c.requires counted
