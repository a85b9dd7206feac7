use Rattle.std.proofs.Common.{◌∙◌, Ok, ap, sym, arith, take, drop}
use Rattle.reading_model.specs.Messages.{number_form, number_size, number_of}
use Rattle.readout_reader.specs.Views.{number_view}
use Rattle.readout_reader.proofs.Onwards.{cut}
use Rattle.readout_reader.proofs.Sized.{text_cut, text_right, text_wrong, number_size-most}
use Rattle.readout_reader.proofs.texts.number_of.Goals as goal

pub is_number_mended-requires : goal.is_number_mended-requires
is_number_mended-requires c = omega (arith, number_size-most c.args.bytes.now, c.number_size-size.ensures)

pub returns-then-bytes-size : goal.returns-then-bytes-size
unfolding number_of
returns-then-bytes-size c =
    text_cut number_form (number_size c.args.bytes.now) c.args.bytes.now c.is_number_mended.result c.cut_short.result.left (omega (arith, c.number_size-size.ensures)) c.is_number_mended.ensures c.cut_short.ensures

pub returns-in-Some : goal.returns-in-Some
unfolding number_of
returns-in-Some c =
    let bytes = c.args.bytes.now in
    text_right number_form (number_size bytes) bytes (number_view c.in-Some.number) (omega (arith, c.number_size-size.ensures)) (ap (λ n. number_form.said (take n bytes)) (sym c.number_size-size.ensures) ∙ sym c.in-Some.ensures)
    ∙ ap (λ rest. Ok (number_view c.in-Some.number, rest)) (ap (λ n. drop n bytes) (sym c.number_size-size.ensures) ∙ sym (cut bytes c.number_size-size.result))

pub returns-in-None : goal.returns-in-None
unfolding number_of
returns-in-None c =
    let bytes = c.args.bytes.now in
    text_wrong number_form (number_size bytes) bytes (omega (arith, c.number_size-size.ensures)) (ap (λ n. number_form.said (take n bytes)) (sym c.number_size-size.ensures) ∙ sym c.in-None.ensures)
