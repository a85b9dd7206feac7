use Rattle.std.proofs.Common.{◌≡◌, ◌∙◌, ◌+◌, ◌*◌, ◌≤◌, sym, ap, length, true, arith}
use Rattle.billing_memory.specs.Entries.{entry_view}
use Rattle.memory_model.specs.Fields.{number}
use Rattle.memory_model.specs.Slot.{is_entry, entry_of, month_part, month_entry}
use Rattle.state_codec.proofs.Numbers.{length-part}
use Rattle.state_codec.proofs.MonthSteps.{goes_on-read, month_right, month_no_entry, month_goes_wrong, month_ends_wrong}
use Rattle.state_codec.proofs.slot_reading.read_month.Goals as goal

pub read_entry-requires-clause-size : goal.read_entry-requires-clause-size
read_entry-requires-clause-size c =
    let k = length c.args.before.now in
    let le : 120 + 48 * k + 48 ≤ length c.args.bytes.now = omega (arith, c.requires.size, c.requires.counted, c.requires.count) in
    ap length c.month_part.ensures ∙ length-part (120 + 48 * k) 48 c.args.bytes.now le

pub returns-in-None : goal.returns-in-None
returns-in-None c =
    month_no_entry (length c.args.before.now) c.args.bytes.now c.requires.counted ((λ i. is_entry (sym c.requires.pulses i) (sym c.month_part.ensures i)) ∙ c.in-None.ensures)

pub returns-then-not-goes_on : goal.returns-then-not-goes_on
returns-then-not-goes_on c =
    let bytes = c.args.bytes.now in
    let k = length c.args.before.now in
    let now : entry_view c.in-Some.entry ≡ month_entry k bytes = c.in-Some.ensures.1 ∙ ap entry_of c.month_part.ensures in
    month_goes_wrong k bytes c.requires.counted (sym (goes_on-read k bytes c.args.before.now c.in-Some.entry c.requires.before now) ∙ sym c.goes_on.ensures ∙ c.if-not-goes_on.true)

pub returns-then-not-ends_right : goal.returns-then-not-ends_right
returns-then-not-ends_right c =
    month_ends_wrong (length c.args.before.now) c.args.bytes.now c.requires.counted (sym c.ends_right.ensures ∙ c.if-not-ends_right.true)

pub returns : goal.returns
returns c =
    let bytes = c.args.bytes.now in
    let k = length c.args.before.now in
    let now : entry_view c.in-Some.entry ≡ month_entry k bytes = c.in-Some.ensures.1 ∙ ap entry_of c.month_part.ensures in
    let is : is_entry (number 32 8 bytes) (month_part k bytes) ≡ true =
    (λ i. is_entry (sym c.requires.pulses i) (sym c.month_part.ensures i)) ∙ c.in-Some.ensures.0 in
    (month_right k bytes c.requires.counted is (sym (goes_on-read k bytes c.args.before.now c.in-Some.entry c.requires.before now) ∙ sym c.goes_on.ensures ∙ c.if-not-goes_on.false) (sym c.ends_right.ensures ∙ c.if-not-ends_right.false), now)
