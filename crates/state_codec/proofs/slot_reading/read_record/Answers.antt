use Rattle.std.proofs.Common.{◌≡◌, ◌∙◌, ◌≤◌, ℕ, [], ap, sym, None, true, arith}
use Rattle.std.proofs.lemmas.Result.{err_from_is_err_and}
use Rattle.std.proofs.lemmas.Bool.{leb-true}
use Rattle.billing_memory.specs.Entries.{set_day_view}
use Rattle.memory_model.specs.Fields.{first_broken, number}
use Rattle.memory_model.specs.Slot.{month_fields, record_of, samples_of, set_day_of, months_of, set_day_keeps, set_day_field}
use Rattle.state_codec.specs.Slot.{head_fields, head_of, head_view, sample_fields, sum_fields, sums_of, sums_view, set_day_fields}
use Rattle.state_codec.proofs.Checks.{all_kept, checked-ok, first_broken-kept}
use Rattle.state_codec.proofs.Slots.{from_months, from_set_day, from_sums, from_samples, after_head, after_samples, after_sums, after_set_day, begins, stop, stop_months, step_months, broken, whole, set_day_passed, row, order}
use Rattle.state_codec.proofs.slot_reading.read_record.Goals as goal

pub returns-in_err-head : goal.returns-in_err-head
returns-in_err-head c =
    let bytes = c.args.bytes.now in
    let so_far = begins bytes in
    let p = err_from_is_err_and c.from_residual.result c.from_residual.ensures.1 in
    rw (p.1, p.2) (stop bytes head_fields from_samples (head_of bytes) c.in_err-head.field-0.0.at so_far c.in_err-head.ensures)

pub returns-in_err-samples : goal.returns-in_err-samples
returns-in_err-samples c =
    let bytes = c.args.bytes.now in
    let so_far = after_head bytes (head_view c.in_ok-head.head) c.in_ok-head.ensures in
    let p = err_from_is_err_and c.from_residual-in_err-samples.result c.from_residual-in_err-samples.ensures.1 in
    rw (p.1, p.2) (stop bytes sample_fields from_sums (samples_of bytes) c.in_err-samples.field-0.0.at so_far c.in_err-samples.ensures)

pub returns-in_err-sums : goal.returns-in_err-sums
returns-in_err-sums c =
    let bytes = c.args.bytes.now in
    let so_far = after_samples bytes (head_view c.in_ok-head.head) c.in_ok-samples.samples c.in_ok-head.ensures c.in_ok-samples.ensures in
    let p = err_from_is_err_and c.from_residual-in_err-sums.result c.from_residual-in_err-sums.ensures.1 in
    rw (p.1, p.2) (stop bytes sum_fields from_set_day (sums_of bytes) c.in_err-sums.field-0.0.at so_far c.in_err-sums.ensures)

pub returns-in_err-set_day : goal.returns-in_err-set_day
returns-in_err-set_day c =
    let bytes = c.args.bytes.now in
    let so_far = after_sums bytes (head_view c.in_ok-head.head) c.in_ok-samples.samples (sums_view c.in_ok-sums.sums) c.in_ok-head.ensures c.in_ok-samples.ensures c.in_ok-sums.ensures in
    let p = err_from_is_err_and c.from_residual-in_err-set_day.result c.from_residual-in_err-set_day.ensures.1 in
    rw (p.1, p.2) (stop bytes set_day_fields from_months (set_day_of bytes) c.in_err-set_day.field-0.0.at so_far c.in_err-set_day.ensures)

pub returns-in_err-months : goal.returns-in_err-months
returns-in_err-months c =
    let bytes = c.args.bytes.now in
    let so_far = after_set_day bytes (head_view c.in_ok-head.head) c.in_ok-samples.samples (sums_view c.in_ok-sums.sums) (set_day_view c.in_ok-set_day.set_day) c.in_ok-head.ensures c.in_ok-samples.ensures c.in_ok-sums.ensures c.in_ok-set_day.ensures in
    let p = err_from_is_err_and c.from_residual-in_err-months.result c.from_residual-in_err-months.ensures.1 in
    rw (p.1, p.2) (stop_months bytes c.in_err-months.field-0.0.at so_far c.in_err-months.ensures.read)

pub returns-in_err-check_unused : goal.returns-in_err-check_unused
returns-in_err-check_unused c =
    let bytes = c.args.bytes.now in
    let so_far = after_set_day bytes (head_view c.in_ok-head.head) c.in_ok-samples.samples (sums_view c.in_ok-sums.sums) (set_day_view c.in_ok-set_day.set_day) c.in_ok-head.ensures c.in_ok-samples.ensures c.in_ok-sums.ensures c.in_ok-set_day.ensures in
    let p = err_from_is_err_and c.from_residual-in_err-check_unused.result c.from_residual-in_err-check_unused.ensures.1 in
    rw (p.1, p.2) (stop_months bytes c.in_err-check_unused.field-0.0.at so_far (c.in_ok-months.ensures.read.0 ∙ c.in_err-check_unused.ensures))

pub returns-in_err-check_tail : goal.returns-in_err-check_tail
returns-in_err-check_tail c =
    let bytes = c.args.bytes.now in
    let so_far = after_set_day bytes (head_view c.in_ok-head.head) c.in_ok-samples.samples (sums_view c.in_ok-sums.sums) (set_day_view c.in_ok-set_day.set_day) c.in_ok-head.ensures c.in_ok-samples.ensures c.in_ok-sums.ensures c.in_ok-set_day.ensures in
    let none : first_broken (month_fields 0 24) bytes ≡ None = c.in_ok-months.ensures.read.0 ∙ c.in_ok-check_unused.ensures in
    let p = err_from_is_err_and c.from_residual-in_err-check_tail.result c.from_residual-in_err-check_tail.ensures.1 in
    rw (p.1, p.2) (broken bytes c.in_err-check_tail.field-0.0.at (step_months bytes so_far none ∙ c.in_err-check_tail.ensures))

pub invariant_of-result : goal.invariant_of-result
invariant_of-result c =
    let bytes = c.args.bytes.now in
    let head = checked-ok (first_broken head_fields bytes) (head_of bytes) (head_view c.in_ok-head.head) c.in_ok-head.ensures in
    let sums = checked-ok (first_broken sum_fields bytes) (sums_of bytes) (sums_view c.in_ok-sums.sums) c.in_ok-sums.ensures in
    let set_day = checked-ok (first_broken set_day_fields bytes) (set_day_of bytes) (set_day_view c.in_ok-set_day.set_day) c.in_ok-set_day.ensures in
    let none : first_broken (month_fields 0 24) bytes ≡ None = c.in_ok-months.ensures.read.0 ∙ c.in_ok-check_unused.ensures in
    let day : number 8 2 bytes ≡ c.in_ok-head.head.day.number = ap (λ (p : ℕ × ℕ). p.1) head.1 in
    let pulses : number 32 8 bytes ≡ c.in_ok-sums.sums.register.pulses = (λ i. (sums.1 i).1.pulses) in
    let few : number 11 1 bytes ≤ 24 = leb-true (number 11 1 bytes) 24 (all_kept head_fields [] bytes head.0).0.1.1.1.0 in
    let items = c.in_ok-months.months.items in
    record {
      seq_in_range = c.in_ok-head.head.seq_in_range;
      faulty_in_range = c.in_ok-sums.sums.faulty_in_range;
      months_kept = c.in_ok-months.ensures.room;
      months_in_row = row bytes c.in_ok-head.head.day.number c.in_ok-sums.sums.register.pulses day pulses c.in_ok-head.head.day.in_century few none items c.in_ok-months.ensures.read.1;
      pulses_in_order = order bytes c.in_ok-head.head.day.number c.in_ok-sums.sums.register.pulses day pulses c.in_ok-head.head.day.in_century few none items c.in_ok-months.ensures.read.1;
      set_day_passed = λ e is.
          let keeps : set_day_keeps bytes ≡ true = (first_broken-kept set_day_field [] bytes set_day.0).0 in
          let passed = set_day_passed bytes e keeps (set_day.1 ∙ is) in
          (omega (arith, passed.0, day), omega (arith, passed.1, pulses));
    }

pub returns : goal.returns
unfolding record_of months_of
returns c =
    let bytes = c.args.bytes.now in
    let so_far = after_set_day bytes (head_view c.in_ok-head.head) c.in_ok-samples.samples (sums_view c.in_ok-sums.sums) (set_day_view c.in_ok-set_day.set_day) c.in_ok-head.ensures c.in_ok-samples.ensures c.in_ok-sums.ensures c.in_ok-set_day.ensures in
    let head = checked-ok (first_broken head_fields bytes) (head_of bytes) (head_view c.in_ok-head.head) c.in_ok-head.ensures in
    let sums = checked-ok (first_broken sum_fields bytes) (sums_of bytes) (sums_view c.in_ok-sums.sums) c.in_ok-sums.ensures in
    let set_day = checked-ok (first_broken set_day_fields bytes) (set_day_of bytes) (set_day_view c.in_ok-set_day.set_day) c.in_ok-set_day.ensures in
    let none : first_broken (month_fields 0 24) bytes ≡ None = c.in_ok-months.ensures.read.0 ∙ c.in_ok-check_unused.ensures in
    let samples = checked-ok (first_broken sample_fields bytes) (samples_of bytes) c.in_ok-samples.samples c.in_ok-samples.ensures in
    whole bytes _ (step_months bytes so_far none ∙ c.in_ok-check_tail.ensures) (λ i. record {
      seq = (head.1 i).0;
      day = (head.1 i).1;
      samples = samples.1 i;
      faulty = (sums.1 i).0;
      register = (sums.1 i).1;
      months = sym c.in_ok-months.ensures.read.1 i;
      set_day = set_day.1 i;
    })
