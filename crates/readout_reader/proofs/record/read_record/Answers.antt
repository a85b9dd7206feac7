use Rattle.std.proofs.Common.{to_z-of_z}
use Rattle.std.proofs.lemmas.Result.{err_from_is_err_and}
use Rattle.readout_reader.specs.Views.{coding_view, quantity_view}
use Rattle.readout_reader.proofs.Onwards.{value_behind}
use Rattle.readout_reader.proofs.record.read_record.Goals as goal

pub returns-in_err-value-clause-said : goal.returns-in_err-value-clause-said
returns-in_err-value-clause-said c =
    let p = err_from_is_err_and c.from_residual-in_err-value.result c.from_residual-in_err-value.ensures.1 in
    rw (p.1, p.2) (value_behind c.args.bytes.now (coding_view c.in_ok-coding.coding) c.in_ok-dife.dife c.information_size-unit.result (quantity_view (c.in_ok-kind.kind, c.in_ok-kind.exp)) _
    c.in_ok-coding.ensures.said c.in_ok-dife.ensures.said c.information_size-unit.ensures c.in_ok-kind.ensures.said c.in_err-value.ensures.said)

pub returns-clause-said : goal.returns-clause-said
returns-clause-said c =
    let value = to_z-of_z c.in_ok-value.ensures.range in
    let exp = to_z-of_z c.in_ok-kind.ensures.range in
    rw (c.storage_of.ensures, value, exp)
    (value_behind c.args.bytes.now (coding_view c.in_ok-coding.coding) c.in_ok-dife.dife c.information_size-unit.result (quantity_view (c.in_ok-kind.kind, c.in_ok-kind.exp)) _
    c.in_ok-coding.ensures.said c.in_ok-dife.ensures.said c.information_size-unit.ensures c.in_ok-kind.ensures.said c.in_ok-value.ensures.said)
