use Rattle.std.proofs.Common.{sym, subst}
use Rattle.billing_memory.specs.Records.{record_view}
use Rattle.trace_model.specs.Output.{PutsAlone}
use Rattle.run_engine.specs.Dry.{EndsWithoutMemory, dry_opening, dry_setup}
use Rattle.run_engine.specs.Progress.{SomeProgress}
use Rattle.run_engine.proofs.Complete.{completes}
use Rattle.run_engine.proofs.DryProgress.{dry_starts}
use Rattle.run_engine.proofs.Reading.{over, stops_at_read}
use Rattle.run_engine.proofs.without_memory.dry.Goals as goal

pub returns-clause-ran : goal.returns-clause-ran
returns-clause-ran g c = λ told tells.
    let script = g.S.Source.left c.args.source.now in
    let t = g.B.Board.trace c.args.board.now in
    let u = g.B.Board.trace c.answer_lines.new.board in
    let r = record_view c.answer_lines.new.answerer.meter.record in
    over dry_setup dry_opening script (g.S.Source.left c.answer_lines.new.source) r u (λ rest n. SomeProgress dry_setup dry_opening script rest n r u) (λ rest n h. h) c.answer_lines.result
    (c.answer_lines.ensures.over told tells tt (subst (λ o. SomeProgress dry_setup dry_opening script script 0 o t) (sym c.standard-meter.ensures.opening) (dry_starts script t (c.requires tells))))

pub returns-clause-delivered : goal.returns-clause-delivered
returns-clause-delivered g c = λ told tells is.
    let script = g.S.Source.left c.args.source.now in
    let t = g.B.Board.trace c.args.board.now in
    let u = g.B.Board.trace c.answer_lines.new.board in
    let r = record_view c.answer_lines.new.answerer.meter.record in
    stops_at_read dry_setup dry_opening script (g.S.Source.left c.answer_lines.new.source) r u (λ rest n. SomeProgress dry_setup dry_opening script rest n r u) (λ rest n h. h) c.answer_lines.result is
    (c.answer_lines.ensures.over told tells tt (subst (λ o. SomeProgress dry_setup dry_opening script script 0 o t) (sym c.standard-meter.ensures.opening) (dry_starts script t (c.requires tells))))

pub returns-clause-puts : goal.returns-clause-puts
returns-clause-puts g c = λ tells. c.answer_lines.ensures.goes_on.1 tells (subst PutsAlone (sym (c.requires tells)) tt)

pub returns-clause-complete : goal.returns-clause-complete
returns-clause-complete g c = λ no_read no_write.
    completes c.answer_lines.result
    (λ is. no_read (c.answer_lines.ensures.read is)) (λ is. no_write (c.answer_lines.ensures.write is)) (λ is. subst EndsWithoutMemory is c.answer_lines.ensures.may_end)
    (λ byte is. subst EndsWithoutMemory is c.answer_lines.ensures.may_end) (λ at is. subst EndsWithoutMemory is c.answer_lines.ensures.may_end)
