use Rattle.std.proofs.Common.{◌+◌, ◌≤◌, length, arith, ap}
use Rattle.std.proofs.lemmas.Fmt.{length-decimal-le}
use Rattle.std.proofs.lemmas.List.{length-append, length-drop}
use Rattle.std.specs.Fmt.{decimal}
use Rattle.line_text.specs.Text.{text_of}
use Rattle.line_text.proofs.LineText.put_number.Goals as goal

pub write_digits-self-requires : goal.write_digits-self-requires
write_digits-self-requires c =
    let short : length (decimal c.args.number) ≤ 20 = length-decimal-le 20 c.args.number (omega arith) (omega arith) (omega arith) in
    omega (arith, short, c.requires, length-drop c.args.self.now.start c.args.self.now.bytes, c.args.self.now.within)

pub returns-clause-short : goal.returns-clause-short
returns-clause-short c =
    let short : length (decimal c.args.number) ≤ 20 = length-decimal-le 20 c.args.number (omega arith) (omega arith) (omega arith) in
    omega (arith, short, ap length c.write_digits-self.ensures.written, length-append (decimal c.args.number) (text_of c.args.self.now))
