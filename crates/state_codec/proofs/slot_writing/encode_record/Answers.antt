use Rattle.std.proofs.Common.{◌≡◌, ◌≤◌, ◌∙◌, ◌+◌, ◌*◌, ◌-◌, ◌++◌, ℕ, List, length, take, drop, sym, ap, subst, arith, Ok}
use Rattle.std.specs.List.{flat_map}
use Rattle.std.proofs.lemmas.List.{length-map}
use Rattle.billing_memory.specs.Entries.{entry_view, entries_view}
use Rattle.billing_memory.specs.Records.{record_view}
use Rattle.billing_memory.specs.declared.entry.Entry.{Entry}
use Rattle.billing_memory.specs.declared.meter_record.MeterRecord.{MeterRecord}
use Rattle.memory_model.specs.Slot.{record_in}
use Rattle.state_codec.specs.Slot.{entry_bytes, zeros, head_bytes, sum_bytes, set_day_bytes, record_bytes}
use Rattle.state_codec.proofs.Writes.{whole_record, length-head, length-sums, length-set_day}
use Rattle.state_codec.proofs.SlotAgain.{record_again}
use Rattle.state_codec.proofs.SlotSpelled.{record_spelled}
use Rattle.state_codec.proofs.slot_writing.encode_record.Goals as goal

-- what is written part by part
spelled : (m : MeterRecord) (out front blank head sums set_day : List ℕ) (items : List Entry) → blank ≡ zeros 1280 → head ≡ head_bytes (record_view m) → sums ≡ sum_bytes (record_view m) → set_day ≡ set_day_bytes (record_view m).set_day → items ≡ m.months.items → length items ≤ 24
    → front ≡ head ++ (sums ++ (set_day ++ drop (length head + length sums + length set_day) blank))
    → out ≡ take 120 front ++ (flat_map entry_bytes (entries_view items) ++ drop (120 + 48 * length items) front)
    → out ≡ record_bytes (record_view m)
unfolding record_bytes
spelled m out front blank head sums set_day items b h s d is few front_is out_is =
    let r = record_view m in
    let size : length head + length sums + length set_day ≡ 120 = omega (arith, ap length h, length-head r, ap length s, length-sums r, ap length d, length-set_day r.set_day) in
    let first : front ≡ head_bytes r ++ (sum_bytes r ++ (set_day_bytes r.set_day ++ drop 120 (zeros 1280))) = front_is ∙ (λ i. h i ++ (s i ++ (d i ++ drop (size i) (b i)))) in
    let entries = flat_map entry_bytes (entries_view m.months.items) in
    let enough : 48 * length m.months.items ≤ 1160 = omega (arith, few, ap length is) in
    out_is
    ∙ (λ i. take 120 (first i) ++ (flat_map entry_bytes (entries_view (is i)) ++ drop (120 + 48 * length (is i)) (first i)))
    ∙ whole_record (head_bytes r) (sum_bytes r) (set_day_bytes r.set_day) entries (48 * length m.months.items) (length-head r) (length-sums r) (length-set_day r.set_day) enough
    ∙ ap (λ n. head_bytes r ++ (sum_bytes r ++ (set_day_bytes r.set_day ++ (entries ++ zeros (1160 - 48 * n))))) (sym (length-map m.months.items entry_view))

pub returns-clause-read_again : goal.returns-clause-read_again
returns-clause-read_again c =
    let m = c.args.m.now in
    let is = spelled m c.write_entries.new.out c.fill_front.new.out c.blank_slot-out.result c.write_head.result c.write_sums.result c.write_set_day.result c.as_slice.result.now c.blank_slot-out.ensures c.write_head.ensures c.write_sums.ensures.bytes c.write_set_day.ensures c.as_slice.ensures.value c.as_slice.ensures.fits c.fill_front.ensures c.write_entries.ensures in
    subst (λ (l : List ℕ). record_in l ≡ Ok (record_view m)) (sym is) (record_again m c.write_sums.ensures.flow c.write_sums.ensures.ret)

pub returns-clause-one_spelling : goal.returns-clause-one_spelling
returns-clause-one_spelling c bytes fits size read =
    let m = c.args.m.now in
    let is = spelled m c.write_entries.new.out c.fill_front.new.out c.blank_slot-out.result c.write_head.result c.write_sums.result c.write_set_day.result c.as_slice.result.now c.blank_slot-out.ensures c.write_head.ensures c.write_sums.ensures.bytes c.write_set_day.ensures c.as_slice.ensures.value c.as_slice.ensures.fits c.fill_front.ensures c.write_entries.ensures in
    is ∙ record_spelled bytes fits size (record_view m) read
