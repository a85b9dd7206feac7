use Rattle.std.proofs.Common.{◌+◌, take, drop, length, ap, subst, ◌∙◌, arith}
use Rattle.std.proofs.lemmas.List.{drop_min}
use Rattle.event_script.specs.Held.{held}
use Rattle.event_script.specs.Next.{SaysAt}
use Rattle.event_script.specs.Views.{line_view}
use Rattle.event_script.proofs.lines.Lines.give.Goals as goal

pub returns-in-Ok-clause-gives : goal.returns-in-Ok-clause-gives
returns-in-Ok-clause-gives c =
    let now = held c.args.self.now.buffer in (
      subst (λ xs. SaysAt c.args.self.now.given (take c.args.len xs) (line_view c.in-Ok.line c.judge.new.message.items)) c.held-held.ensures c.in-Ok.ensures.says,
      c.skip.ensures ∙ ap (λ n. drop n now) (c.min-behind.ensures ∙ omega (arith, ap length c.held-held.ensures)) ∙ drop_min (c.args.len + 1) now,
    )
