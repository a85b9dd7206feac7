use Rattle.std.proofs.Common.{◌≡◌, ◌+◌, take, drop, length, ap, subst, arith}
use Rattle.event_script.specs.Held.{held}
use Rattle.event_script.specs.Next.{GivesLine}
use Rattle.event_script.proofs.Ends.{open_parts}
use Rattle.event_script.proofs.Nexts.{gives_last}
use Rattle.event_script.proofs.lines.Lines.give_last.Goals as goal

pub returns-clause-gives : goal.returns-clause-gives
returns-clause-gives c =
    let now = held c.args.self.now.buffer in
    let n = c.args.self.now.given in
    let size : length c.held-len.result.now ≡ length now = ap length c.held-len.ensures in
    gives_last n now (held c.give.new.self.buffer) (open_parts n now c.requires.open).0 (omega (arith, c.if-len-eq0.false, size)) c.give.result c.give.new.self.message.items
    (subst (λ k. GivesLine n (take k now) c.give.result c.give.new.self.message.items (drop (k + 1) now) (held c.give.new.self.buffer)) size c.give.ensures.gives)
