use Rattle.std.proofs.Common.{◌≡◌, inr, false, true}
use Rattle.answer_lines.proofs.physics.sample_line.Goals as goal

pub returns-in-None-clause-text : goal.returns-in-None-clause-text
returns-in-None-clause-text c = inr ((λ inside. let wrong : false ≡ true = c.in-None.ensures.in_range.1 inside in cc), c.ended.ensures.text)
