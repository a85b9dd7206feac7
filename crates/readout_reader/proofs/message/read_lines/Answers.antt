use Rattle.std.proofs.Common.{[], ◌∷◌, arith}
use Rattle.reading_model.proofs.Taken.{first_rest, entries_rest, behind_rest}
use Rattle.readout_reader.specs.Views.{first_view, shown_list}
use Rattle.readout_reader.proofs.message.read_lines.Goals as goal

pub check_last-requires : goal.check_last-requires
check_last-requires c =
    let first = first_rest c.args.bytes.now (first_view c.in_ok-first.first, c.in_ok-first.rest.now) c.in_ok-first.ensures in
    let entries = entries_rest c.in_ok-first.rest.now (shown_list c.in_ok-entries.entries.items, c.in_ok-entries.rest.now) c.in_ok-entries.ensures in
    let last = behind_rest (33 ∷ 13 ∷ 10 ∷ 3 ∷ []) c.in_ok-entries.rest.now c.in_ok-rest.rest.now c.in_ok-rest.ensures in
    omega (arith, first, entries, last)
