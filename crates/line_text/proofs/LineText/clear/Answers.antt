use Rattle.std.proofs.Common.{rules}
use Rattle.std.proofs.lemmas.List.{drop_all}
use Rattle.line_text.proofs.LineText.clear.Goals as goal

pub returns : goal.returns
returns c = search (rules, drop_all)
