use Rattle.std.proofs.Common.{◌≡◌, ◌-◌, ◌++◌, ◌∙◌, ap, map, arith}
use Rattle.std.specs.List.{range_with_len}
use Rattle.calendar_model.specs.Entries.{latest, entry_of}
use Rattle.energy_register.specs.Register.{register_view}
use Rattle.billing_memory.specs.Entries.{entry_view, entries_view}
use Rattle.billing_memory.proofs.LatestLemmas.{entered_more, entered_skip}
use Rattle.billing_memory.proofs.passing.enter_months.Goals as goal

pub loop-month-preserved : goal.loop-month-preserved
loop-month-preserved c = (
  entered_more entry_view (entry_of (register_view c.args.register)) 24 (entries_view c.args.months.now.items) c.loop-month.months.items c.push_latest.new.months.items c.entry_at.result c.max-month.result c.loop-month.month
      (omega (arith, c.loop-month.auto.month)) c.loop-month.invariant.0 c.push_latest.ensures.latest c.entry_at.ensures,
  c.push_latest.ensures.kept,
  omega (arith, c.loop-month-test.true),
)

pub returns-clause-entered : goal.returns-clause-entered
returns-clause-entered c =
    let olds = entries_view c.args.months.now.items in
    let entry = entry_of (register_view c.args.register) in
    let start = c.max-month.result in
    let made : c.loop-month.month - start ≡ c.args.to - start = omega (arith, c.loop-month.auto.month, c.loop-month.invariant.2, c.loop-month-test.false) in
    c.loop-month.invariant.0
    ∙ ap (λ n. latest 24 (olds ++ map entry (range_with_len start n))) made
    ∙ entered_skip entry 24 olds c.args.from c.args.to start (omega (arith, c.max-month.ensures, c.saturating_sub.ensures))
