use Rattle.std.proofs.Common.{◌≡◌, arith, pos, subst, ℕ}
use Rattle.std.proofs.lemmas.Int.{ints}
use Rattle.jiff_core.proofs.SignedLemmas.{signed_arith}
use Rattle.calendar_model.specs.Calendar.{IsDay}
use Rattle.calendar_model.proofs.DayLemmas.{IsDay-date}
use Rattle.billing_memory.proofs.day.day_of.Goals as goal

pub returns-in-Ok-clause-some : goal.returns-in-Ok-clause-some
returns-in-Ok-clause-some c =
    let date = c.to_plain.result in
    let ymd = c.in-Ok.ensures.value in
    let year : date.year ≡ pos c.args.y = rw c.to_plain.ensures (omega (arith, ints, ymd.0, c.if-y-gt2099.false)) in
    let month : date.month ≡ c.args.m = rw c.to_plain.ensures (omega (arith, ints, ymd.1, c.in-Ok-Ok.ensures)) in
    let day : date.day ≡ c.args.d = rw c.to_plain.ensures (omega (arith, ints, ymd.2, c.in-Ok-Ok.ensures')) in
    let is = IsDay-date date.year c.args.y date.month date.day c.at.result.number year (date.year_in, date.month_in, date.day_in) (omega (arith, signed_arith, year, c.if-y-lt2000.false)) (omega (arith, signed_arith, year, c.if-y-gt2099.false)) c.at.ensures in
    let P : ℕ → Type 0 = λ k. IsDay c.at.result.number c.args.y k date.day in
    let Q : ℕ → Type 0 = λ k. IsDay c.at.result.number c.args.y c.args.m k in
    subst Q day (subst P month is)
