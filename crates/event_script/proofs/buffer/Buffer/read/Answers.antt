use Rattle.std.proofs.Common.{◌-◌, take, rules}
use Rattle.std.proofs.lemmas.List.{length-take-le}
use Rattle.event_script.proofs.Held.{longer_part, untouched_part}
use Rattle.event_script.proofs.buffer.Buffer.read.Goals as goal

pub returns-in-Ok-clause-filled : goal.returns-in-Ok-clause-filled
returns-in-Ok-clause-filled g c =
    let b = c.args.self.now in
    let into = c.read.new.into in
    record {
      bytes = take c.in-Ok.count into;
      behind = longer_part b.bytes into b.begin b.end (4096 - b.end) c.in-Ok.count b.ordered (search rules) c.in-Ok.ensures.bound;
      count = length-take-le c.in-Ok.count into c.in-Ok.ensures.bound;
      delivered = λ tells. (c.in-Ok.ensures.gives tells).0;
      at_end = λ tells. (c.in-Ok.ensures.gives tells).1;
    }

pub returns-in-Err-clause-failed : goal.returns-in-Err-clause-failed
returns-in-Err-clause-failed g c =
    let b = c.args.self.now in
    untouched_part b.bytes c.read.new.into b.begin b.end (4096 - b.end) (search rules)
