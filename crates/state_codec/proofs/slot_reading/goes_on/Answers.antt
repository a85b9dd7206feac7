use Rattle.std.proofs.Common.{◌∙◌, ◌≤◌, ap, length, arith}
use Rattle.billing_memory.specs.Entries.{entry_view}
use Rattle.memory_model.specs.Slot.{follows}
use Rattle.state_codec.proofs.MonthSteps.{goes_on_after-at}
use Rattle.state_codec.proofs.slot_reading.goes_on.Goals as goal

pub returns : goal.returns
returns c =
    let some : 1 ≤ length c.args.before.now = grind (arith, c.is_empty.ensures, c.if-is_empty.false) in
    c.follows.ensures ∙ ap (λ e. follows (entry_view e) (entry_view c.args.entry.now)) c.index-before-before.is
    ∙ goes_on_after-at c.args.before.now c.index-before-before.result (entry_view c.args.entry.now) some
