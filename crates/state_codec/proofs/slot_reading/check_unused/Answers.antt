use Rattle.std.proofs.Common.{◌≡◌, ◌-◌, ◌∙◌, sym, arith}
use Rattle.memory_model.specs.Fields.{first_broken, number, are_zero}
use Rattle.memory_model.specs.Slot.{month_fields, month_keeps}
use Rattle.std.proofs.Common.{ap, true, false}
use Rattle.state_codec.proofs.MonthSteps.{month_blank, month_kept, month_broken, months_done}
use Rattle.state_codec.proofs.slot_reading.check_unused.Goals as goal

pub returns-then-not-is_blank : goal.returns-then-not-is_blank
returns-then-not-is_blank c =
    let bytes = c.args.bytes.now in
    let k = c.loop-k.k in
    let breaks : month_keeps k bytes ≡ false =
    month_blank k bytes c.loop-k.invariant.behind ∙ sym (ap are_zero c.month_part.ensures) ∙ sym c.is_blank.ensures ∙ c.if-not-is_blank.true in
    month_broken bytes k 24 (first_broken (month_fields (number 11 1 bytes) (24 - number 11 1 bytes)) bytes) c.loop-k-test.true breaks c.loop-k.invariant.so_far

pub loop-k-preserved : goal.loop-k-preserved
loop-k-preserved c =
    let bytes = c.args.bytes.now in
    let k = c.loop-k.k in
    let keeps : month_keeps k bytes ≡ true =
    month_blank k bytes c.loop-k.invariant.behind ∙ sym (ap are_zero c.month_part.ensures) ∙ sym c.is_blank.ensures ∙ c.if-not-is_blank.false in
    record {
      so_far = month_kept bytes k 24 (first_broken (month_fields (number 11 1 bytes) (24 - number 11 1 bytes)) bytes) c.loop-k-test.true keeps c.loop-k.invariant.so_far;
      behind = omega (arith, c.loop-k.invariant.behind);
    }

pub returns : goal.returns
returns c =
    months_done c.args.bytes.now c.loop-k.k 24 (first_broken (month_fields (number 11 1 c.args.bytes.now) (24 - number 11 1 c.args.bytes.now)) c.args.bytes.now) (omega arith) c.loop-k.invariant.so_far
