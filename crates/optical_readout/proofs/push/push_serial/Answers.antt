use Rattle.std.proofs.Common.{◌∙◌, ap, ◌++◌, codes}
use Rattle.display_model.specs.Display.{eight_digits}
use Rattle.optical_readout.proofs.Pushes.{three_texts}
use Rattle.optical_readout.proofs.push.push_serial.Goals as goal

pub returns-clause-items : goal.returns-clause-items
returns-clause-items c =
    three_texts c.args.message.now.items c.append.new.list.items c.append-2.new.list.items c.append-3.new.list.items
    (codes "9.21(") (eight_digits c.args.serial) (codes ")\r\n")
    c.append.ensures.items
    (c.append-2.ensures.items ∙ ap (λ t. c.append.new.list.items ++ t) (c.as_bytes.ensures.value ∙ c.as_str.ensures.value ∙ c.digits_text-digits.ensures))
    c.append-3.ensures.items
