use Rattle.std.proofs.Common.{◌∙◌, ◌+◌, ◌%◌, rules}
use Rattle.std.proofs.lemmas.Iterator.{YieldsList-from_slice}
use Rattle.std.proofs.lemmas.Iterator.Consumers.{fold_from_yields_List}
use Rattle.mbus_link.proofs.Parts.{summed}
use Rattle.readout_reader.proofs.telegram_rules.checksum.Goals as goal

pub returns : goal.returns
returns c =
    fold_from_yields_List _ (λ a x. (a + x) % 256) _ _ c.fold.ensures.ran (YieldsList-from_slice c.args.bytes.now cc) (λ a x b q k. search rules)
    ∙ summed c.args.bytes.now
