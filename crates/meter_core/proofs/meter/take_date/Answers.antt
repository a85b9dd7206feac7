use Rattle.std.proofs.Common.{◌∙◌, sym, ap}
use Rattle.calendar_model.specs.Entries.{set_entry}
use Rattle.energy_register.specs.Register.{register_view}
use Rattle.billing_memory.specs.Entries.{set_day_view}
use Rattle.meter_core.proofs.Records.{date_taken, not_back}
use Rattle.meter_core.proofs.meter.take_date.Goals as goal

pub returns-in-Ok-clause-takes : goal.returns-in-Ok-clause-takes
returns-in-Ok-clause-takes c = λ s keep month.
    let m = c.args.m.now in
    date_taken s m c.move_to.new.self c.args.day keep c.requires.room (not_back c.args.day.number m.day.number c.in-Ok.ensures.back.1)
    c.in-Ok.ensures.months
    (c.in-Ok.ensures.set_day ∙ ap (λ n. set_entry (register_view m.register) n m.day.number c.args.day.number (set_day_view m.set_day)) (sym month))
    c.in-Ok.ensures.day c.in-Ok.ensures.counts
