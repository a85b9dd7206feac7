use Rattle.std.proofs.Common.{◌≡◌, ◌∙◌, Ok, ap, sym, arith, take, true, false, refl, nat_eq, rules}
use Rattle.std.specs.Cmp.Lexicographic.{pointwise}
use Rattle.reading_model.specs.Messages.{same_form, same_of}
use Rattle.readout_reader.proofs.Onwards.{cut}
use Rattle.readout_reader.proofs.Sized.{text_cut, text_right, text_wrong}
use Rattle.readout_reader.proofs.texts.same_of.Goals as goal

pub returns-then-bytes-lt10 : goal.returns-then-bytes-lt10
unfolding same_of
returns-then-bytes-lt10 c =
    text_cut (same_form c.args.before.now) 10 c.args.bytes.now c.is_same_mended.result c.cut_short.result.left (omega arith) c.is_same_mended.ensures c.cut_short.ensures

pub returns-then-ne : goal.returns-then-ne
unfolding same_of
returns-then-ne c =
    let differ : pointwise nat_eq (take 10 c.args.bytes.now) c.args.before.now ≡ false = search rules in
    text_wrong (same_form c.args.before.now) 10 c.args.bytes.now (omega arith) (rw differ refl)

pub returns : goal.returns
unfolding same_of
returns c =
    let same : pointwise nat_eq (take 10 c.args.bytes.now) c.args.before.now ≡ true = search rules in
    text_right (same_form c.args.before.now) 10 c.args.bytes.now c.args.before.now (omega arith) (rw same refl)
    ∙ ap (λ rest. Ok (c.args.before.now, rest)) (sym (cut c.args.bytes.now 10))
