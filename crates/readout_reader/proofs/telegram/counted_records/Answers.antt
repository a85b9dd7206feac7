use Rattle.std.proofs.Common.{◌∙◌, sym, ap, ◌-◌, length, take, drop, arith}
use Rattle.reading_model.specs.Records.{records_in}
use Rattle.reading_model.proofs.Places.{left_among}
use Rattle.std.proofs.lemmas.List.{length-take}
use Rattle.readout_reader.proofs.Wholes.{records_cut}
use Rattle.readout_reader.proofs.telegram.counted_records.Goals as goal

pub overflow_sub-result : goal.overflow_sub-result
overflow_sub-result c =
    omega (arith, left_among (take (length c.args.bytes.now - 2 - 19) (drop 19 c.args.bytes.now)) c.in-Err.e.left c.in-Err.ensures, length-take (length c.args.bytes.now - 2 - 19) (drop 19 c.args.bytes.now))

pub returns-in-Ok : goal.returns-in-Ok
returns-in-Ok c = ap (records_in 0) (sym (records_cut c.args.bytes.now c.requires.many c.requires.size)) ∙ c.in-Ok.ensures

pub returns-in-Err : goal.returns-in-Err
returns-in-Err c =
    (c.in-Err.e.left, ap (records_in 0) (sym (records_cut c.args.bytes.now c.requires.many c.requires.size)) ∙ c.in-Err.ensures, omega (arith, c.requires.size))
