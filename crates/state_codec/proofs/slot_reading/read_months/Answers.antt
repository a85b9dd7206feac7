use Rattle.std.proofs.Common.{◌≡◌, ◌∙◌, ◌++◌, ◌∷◌, [], ◌<◌, sym, ap, length, arith}
use Rattle.std.proofs.lemmas.List.{map_push}
use Rattle.billing_memory.specs.Entries.{entry_view, entries_view}
use Rattle.memory_model.specs.Fields.{first_broken}
use Rattle.memory_model.specs.Slot.{month_fields, month_keeps, month_entry}
use Rattle.state_codec.proofs.MonthSteps.{month_kept, month_broken, entries_to-more}
use Rattle.state_codec.proofs.slot_reading.read_months.Goals as goal

pub returns-in-None-clause-read : goal.returns-in-None-clause-read
returns-in-None-clause-read c =
    let bytes = c.args.bytes.now in
    let k = c.loop-k.k in
    let place : length c.as_slice.result.now ≡ k = ap length c.as_slice.ensures.value ∙ c.loop-k.invariant.size in
    let within : k < 24 = omega (arith, c.loop-k-test.true, c.from-count.ensures, c.u8_at.ensures, c.requires.count) in
    month_broken bytes k 24 (first_broken (month_fields 0 24) bytes) within (ap (λ j. month_keeps j bytes) (sym place) ∙ c.in-None.ensures) c.loop-k.invariant.so_far

pub loop-k-preserved : goal.loop-k-preserved
loop-k-preserved c =
    let bytes = c.args.bytes.now in
    let k = c.loop-k.k in
    let place : length c.as_slice.result.now ≡ k = ap length c.as_slice.ensures.value ∙ c.loop-k.invariant.size in
    let within : k < 24 = omega (arith, c.loop-k-test.true, c.from-count.ensures, c.u8_at.ensures, c.requires.count) in
    record {
      so_far = month_kept bytes k 24 (first_broken (month_fields 0 24) bytes) within (ap (λ j. month_keeps j bytes) (sym place) ∙ c.in-Some.ensures.0) c.loop-k.invariant.so_far;
      read =
          ap entries_view c.push.ensures.items ∙ map_push entry_view c.loop-k.months.items c.in-Some.entry
          ∙ (λ i. c.loop-k.invariant.read i ++ (c.in-Some.ensures.1 ∙ ap (λ j. month_entry j bytes) place) i ∷ [])
          ∙ sym (entries_to-more k bytes);
      size = omega (arith, c.push.ensures.len, c.loop-k.invariant.size);
    }
