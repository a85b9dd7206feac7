use Rattle.std.proofs.Common.{arith, rules}
use Rattle.std.proofs.lemmas.List.{same_lists, places}
use Rattle.state_codec.proofs.fields.fill_front.Goals as goal

pub returns : goal.returns
returns c = same_lists _ _ (search (rules, places)) (λ k d h. grind (arith, places))
