use Rattle.std.proofs.Common.{sym}
use Rattle.state_codec.proofs.Numbers.{number_1}
use Rattle.state_codec.proofs.fields.u8_at.Goals as goal

pub returns : goal.returns
returns c = sym (number_1 c.args.at c.args.bytes.now c.requires)
