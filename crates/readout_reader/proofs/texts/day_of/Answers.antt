use Rattle.std.proofs.Common.{◌∙◌, Ok, ap, sym, arith, take}
use Rattle.std.specs.Option.{option_map}
use Rattle.reading_model.specs.Messages.{day_form, day_of}
use Rattle.readout_reader.proofs.Onwards.{cut}
use Rattle.readout_reader.proofs.Sized.{text_cut, text_right, text_wrong}
use Rattle.readout_reader.proofs.texts.day_of.Goals as goal

pub returns-then-bytes-lt10-clause-said : goal.returns-then-bytes-lt10-clause-said
unfolding day_of
returns-then-bytes-lt10-clause-said c =
    text_cut day_form 10 c.args.bytes.now c.is_day_mended.result c.cut_short.result.left (omega arith) c.is_day_mended.ensures c.cut_short.ensures

pub returns-in-Some-clause-said : goal.returns-in-Some-clause-said
unfolding day_of
returns-in-Some-clause-said c =
    let text = take 10 c.args.bytes.now in
    text_right day_form 10 c.args.bytes.now (c.in-Some.day.number, text) (omega arith) (ap (option_map (λ day. (day, text))) (sym c.in-Some.ensures))
    ∙ ap (λ rest. Ok ((c.in-Some.day.number, text), rest)) (sym (cut c.args.bytes.now 10))

pub returns-in-None-clause-said : goal.returns-in-None-clause-said
unfolding day_of
returns-in-None-clause-said c =
    let text = take 10 c.args.bytes.now in
    text_wrong day_form 10 c.args.bytes.now (omega arith) (ap (option_map (λ day. (day, text))) (sym c.in-None.ensures))
