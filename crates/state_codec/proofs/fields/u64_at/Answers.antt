use Rattle.std.proofs.Common.{◌∙◌, ap}
use Rattle.std.specs.Int.{w64, from_le_bytes}
use Rattle.state_codec.proofs.Numbers.{number_8}
use Rattle.state_codec.proofs.fields.u64_at.Goals as goal

pub returns : goal.returns
returns c = c.from_le_bytes.ensures ∙ ap (from_le_bytes w64) c.array_at.ensures ∙ number_8 c.args.at c.args.bytes.now c.requires
