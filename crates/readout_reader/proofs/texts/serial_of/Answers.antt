use Rattle.std.proofs.Common.{◌∙◌, Ok, ap, sym, arith}
use Rattle.reading_model.specs.Messages.{serial_form, serial_of}
use Rattle.readout_reader.proofs.Onwards.{cut}
use Rattle.readout_reader.proofs.Sized.{text_cut, text_right, text_wrong}
use Rattle.readout_reader.proofs.texts.serial_of.Goals as goal

pub returns-then-bytes-lt8 : goal.returns-then-bytes-lt8
unfolding serial_of
returns-then-bytes-lt8 c =
    text_cut serial_form 8 c.args.bytes.now c.is_serial_mended.result c.cut_short.result.left (omega arith) c.is_serial_mended.ensures c.cut_short.ensures

pub returns-in-Some : goal.returns-in-Some
unfolding serial_of
returns-in-Some c =
    text_right serial_form 8 c.args.bytes.now c.in-Some.serial (omega arith) (sym c.in-Some.ensures)
    ∙ ap (λ rest. Ok (c.in-Some.serial, rest)) (sym (cut c.args.bytes.now 8))

pub returns-in-None : goal.returns-in-None
unfolding serial_of
returns-in-None c = text_wrong serial_form 8 c.args.bytes.now (omega arith) (sym c.in-None.ensures)
