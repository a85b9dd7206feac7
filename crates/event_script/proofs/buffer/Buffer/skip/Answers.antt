use Rattle.event_script.proofs.Held.{later_part}
use Rattle.event_script.proofs.buffer.Buffer.skip.Goals as goal

pub returns : goal.returns
returns c = later_part c.args.self.now.bytes c.args.self.now.begin c.args.self.now.end c.args.count
