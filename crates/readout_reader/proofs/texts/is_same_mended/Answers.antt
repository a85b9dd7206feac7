use Rattle.std.proofs.Common.{◌∙◌}
use Rattle.readout_reader.proofs.Sized.{same_mended}
use Rattle.readout_reader.proofs.texts.is_same_mended.Goals as goal

pub returns : goal.returns
returns c = c.eq.ensures ∙ same_mended c.args.before.now c.args.text.now c.requires
