use Rattle.std.proofs.Common.{◌≡◌, ℕ, ◌+◌, ◌++◌, inr, true, Option, [], take, drop, refl, sym, ap, subst, ◌∙◌, arith, append_assoc}
use Rattle.std.specs.Prelude.{MatchOption}
use Rattle.answer_model.specs.Faults.{is_open}
use Rattle.event_script.specs.Held.{held}
use Rattle.event_script.specs.Next.{Decides, GivesLine, NextGives}
use Rattle.event_script.proofs.Nexts.{asked, gives_decided, undecided}
use Rattle.event_script.proofs.lines.Lines.next.Goals as goal

pub returns-in-Ok-eq0-clause-asks : goal.returns-in-Ok-eq0-clause-asks
returns-in-Ok-eq0-clause-asks g c = inr (λ tells.
    let d = c.loop-decided.invariant.delivered tells in
    let was : is_open c.args.self.now.given (held c.loop-decided.self.buffer) ≡ true = undecided c.args.self.now.given (held c.loop-decided.self.buffer) c.loop-decided.decided c.loop-decided-test.ensures c.loop-decided.invariant.decided in
    let f = c.in-Ok-eq0.ensures.filled in
    asked c.args.self.now.given (held c.args.self.now.buffer) (held c.loop-decided.self.buffer) d.0 f.bytes (g.S.Source.left c.args.source.now) (g.S.Source.left c.loop-decided.source) (g.S.Source.left c.fill.new.source) d.1 d.2 (f.delivered tells) was)

pub loop-decided-preserved : goal.loop-decided-preserved
loop-decided-preserved g c =
    let was : is_open c.args.self.now.given (held c.loop-decided.self.buffer) ≡ true = undecided c.args.self.now.given (held c.loop-decided.self.buffer) c.loop-decided.decided c.loop-decided-test.ensures c.loop-decided.invariant.decided in
    let f = c.in-Ok.ensures.filled in
    let now = held c.fill.new.self in
    record {
      decided = subst (λ xs. MatchOption c.first_len-decided-in-Ok.result (is_open c.args.self.now.given xs ≡ true) (Decides c.args.self.now.given xs)) c.held-in-Ok.ensures (subst (λ n. MatchOption c.first_len-decided-in-Ok.result (is_open n c.held-in-Ok.result.now ≡ true) (Decides n c.held-in-Ok.result.now)) c.loop-decided.invariant.given c.first_len-decided-in-Ok.ensures);
      given = c.loop-decided.invariant.given;
      fresh = c.loop-decided.invariant.fresh;
      delivered = λ tells. let d = c.loop-decided.invariant.delivered tells in (d.0 ++ f.bytes, f.behind ∙ ap (λ xs. xs ++ f.bytes) d.1 ∙ append_assoc _ d.0 f.bytes, d.2 ∙ ap (λ xs. d.0 ++ xs) (f.delivered tells) ∙ sym (append_assoc d.0 f.bytes _));
      asks = inr (λ tells. let d = c.loop-decided.invariant.delivered tells in asked c.args.self.now.given (held c.args.self.now.buffer) (held c.loop-decided.self.buffer) d.0 f.bytes (g.S.Source.left c.args.source.now) (g.S.Source.left c.loop-decided.source) (g.S.Source.left c.fill.new.source) d.1 d.2 (f.delivered tells) was);
      later = omega (arith, c.loop-decided.invariant.later, c.in-Ok.ensures.cause.later);
    }

pub returns-in-Err-clause-asks : goal.returns-in-Err-clause-asks
returns-in-Err-clause-asks g c = inr (λ tells.
    let d = c.loop-decided.invariant.delivered tells in
    let was : is_open c.args.self.now.given (held c.loop-decided.self.buffer) ≡ true = undecided c.args.self.now.given (held c.loop-decided.self.buffer) c.loop-decided.decided c.loop-decided-test.ensures c.loop-decided.invariant.decided in
    asked c.args.self.now.given (held c.args.self.now.buffer) (held c.loop-decided.self.buffer) d.0 [] (g.S.Source.left c.args.source.now) (g.S.Source.left c.loop-decided.source) (g.S.Source.left c.fill.new.source) d.1 d.2 (sym (c.in-Err.ensures.kept tells)) was)

pub returns-in-Some-clause-gives : goal.returns-in-Some-clause-gives
returns-in-Some-clause-gives g c = λ tells.
    let d = c.loop-decided.invariant.delivered tells in
    let n = c.args.self.now.given in
    let now = held c.loop-decided.self.buffer in
    let left = g.S.Source.left c.loop-decided.source in
    let same : now ++ left ≡ held c.args.self.now.buffer ++ g.S.Source.left c.args.source.now = ap (λ xs. xs ++ left) d.1 ∙ append_assoc _ d.0 left ∙ ap (λ xs. held c.args.self.now.buffer ++ xs) (sym d.2) in
    let decided : Decides n now c.in-Some.len = subst (λ (o : Option ℕ). MatchOption o (is_open n now ≡ true) (Decides n now)) c.in-Some.is c.loop-decided.invariant.decided in
    subst (λ xs. NextGives n xs c.give.result c.give.new.self.message.items (held c.give.new.self.buffer ++ left)) same
    (gives_decided n now left (held c.give.new.self.buffer) left c.in-Some.len decided c.give.result c.give.new.self.message.items refl (subst (λ m. GivesLine m (take c.in-Some.len now) c.give.result c.give.new.self.message.items (drop (c.in-Some.len + 1) now) (held c.give.new.self.buffer)) c.loop-decided.invariant.given c.give.ensures.gives))
