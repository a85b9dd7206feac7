use Rattle.std.proofs.Common.{◌+◌, ◌∙◌, ◌++◌, inl, inr, refl, ap, sym, subst, arith}
use Rattle.event_script.specs.Held.{held}
use Rattle.event_script.specs.Next.{SaysAt}
use Rattle.event_script.specs.Views.{line_view}
use Rattle.run_engine.specs.declared.Ended.TheVariants as ends
use Rattle.run_engine.proofs.Reading.{all_read}
use Rattle.run_engine.proofs.Stops.{memory_stopped, rises_further, stop_not_done, stop_not_read, write_stopped}
use Rattle.run_engine.proofs.answering.answer_lines.Goals as goal

pub loop-said-init : goal.loop-said-init
loop-said-init g c = record {
  ready = λ told tells opening ready.
      let script = g.S.Source.left c.args.source.now in
      subst (λ n. g.A.Answerer.Readiness c.args.answerer.now c.args.board.now opening script (held c.new-lines.result.buffer ++ script) n) (sym c.new-lines.ensures.given)
      (subst (λ b. g.A.Answerer.Readiness c.args.answerer.now c.args.board.now opening script (b ++ script) 0) (sym c.new-lines.ensures.held) ready);
  settled = c.requires.settled;
  goes_on = g.met.A.Answerer.stays c.args.board.now;
  fresh = c.new-lines.ensures.has_ended;
  faults = omega arith;
  board_faults = record { memory = omega arith; output = omega arith; cuts = omega arith };
}

-- ---- reading ended

pub returns-in-End-clause-over : goal.returns-in-End-clause-over
returns-in-End-clause-over g c = λ told tells opening ready.
    let l = c.loop-said in
    inr (
      held l.lines.buffer ++ g.S.Source.left l.source,
      l.lines.given,
      l.invariant.ready told tells opening ready,
      inl (refl, (c.in-End.ensures.gives told).0, all_read (held c.next.new.self.buffer) (g.S.Source.left c.next.new.source) (c.in-End.ensures.gives told).1),
    )

pub returns-in-End-clause-end : goal.returns-in-End-clause-end
returns-in-End-clause-end g c = λ told is. all_read (held c.next.new.self.buffer) (g.S.Source.left c.next.new.source) (c.in-End.ensures.gives told).1

pub returns-in-Bad-clause-over : goal.returns-in-Bad-clause-over
returns-in-Bad-clause-over g c = λ told tells opening ready.
    let l = c.loop-said in
    inr (
      held l.lines.buffer ++ g.S.Source.left l.source,
      l.lines.given,
      l.invariant.ready told tells opening ready,
      inr (inl (c.in-Bad.kind, ap (λ n. ends.Line (n + 1) c.in-Bad.kind) c.given-taken.ensures, c.in-Bad.ensures.gives told)),
    )

pub returns-in-ReadFault-clause-over : goal.returns-in-ReadFault-clause-over
returns-in-ReadFault-clause-over g c = λ told tells opening ready.
    let l = c.loop-said in
    inr (
      held l.lines.buffer ++ g.S.Source.left l.source,
      l.lines.given,
      l.invariant.ready told tells opening ready,
      inr (inr (refl, record { front = held c.next.new.self.buffer; bytes = sym (c.in-ReadFault.ensures.gives told); undecided = c.in-ReadFault.ensures.open refl })),
    )

pub returns-in-End-clause-may_end : goal.returns-in-End-clause-may_end
returns-in-End-clause-may_end g c = g.met.A.Answerer.may_end_reading.0

pub returns-in-Bad-clause-may_end : goal.returns-in-Bad-clause-may_end
returns-in-Bad-clause-may_end g c = g.met.A.Answerer.may_end_reading.1 (c.given-taken.result + 1) c.in-Bad.kind

pub returns-in-ReadFault-clause-may_end : goal.returns-in-ReadFault-clause-may_end
returns-in-ReadFault-clause-may_end g c = g.met.A.Answerer.may_end_reading.2

-- ---- a line was answered

pub returns-in-Err-clause-over : goal.returns-in-Err-clause-over
returns-in-Err-clause-over g c = λ told tells opening ready.
    let l = c.loop-said in
    let script = g.S.Source.left c.args.source.now in
    let rest = held l.lines.buffer ++ g.S.Source.left l.source in
    let said = c.in-Got.ensures.gives told in
    inl (
      record { n = c.given-taken.result + 1; stop = c.in-Err.stop; is = c.ended.ensures },
      subst (g.A.Answerer.Leaves c.answer.new.board opening script) (sym c.ended.ensures)
          (c.in-Err.ensures.leads tells opening script rest said.line (held c.next.new.self.buffer ++ g.S.Source.left c.next.new.source) c.given-taken.result
          (subst (λ n. g.A.Answerer.Readiness l.answerer l.board opening script rest n) (sym c.given-taken.ensures) (l.invariant.ready told tells opening ready)) said.first
          (subst (λ m. SaysAt c.given-taken.result said.line (line_view c.in-Got.said m)) (sym c.message.ensures)
          (subst (λ n. SaysAt n said.line (line_view c.in-Got.said c.next.new.self.message.items)) (sym c.given-taken.ensures) said.says))),
    )

pub returns-in-Err-clause-may_end : goal.returns-in-Err-clause-may_end
returns-in-Err-clause-may_end g c = subst g.A.Answerer.MayEnd (sym c.ended.ensures) (c.in-Err.ensures.may_end (c.given-taken.result + 1))

pub returns-in-Err-clause-end : goal.returns-in-Err-clause-end
returns-in-Err-clause-end g c = λ told is. absurd (stop_not_done (c.given-taken.result + 1) c.in-Err.stop (sym c.ended.ensures ∙ is))

pub returns-in-Err-clause-read : goal.returns-in-Err-clause-read
returns-in-Err-clause-read g c = λ is. absurd (stop_not_read (c.given-taken.result + 1) c.in-Err.stop (sym c.ended.ensures ∙ is))

pub returns-in-Err-clause-memory : goal.returns-in-Err-clause-memory
returns-in-Err-clause-memory g c = λ is.
    let rose = memory_stopped _ _ (c.given-taken.result + 1) c.in-Err.stop c.in-Err.ensures.cause.failed (sym c.ended.ensures ∙ is) in
    omega (arith, rose, c.loop-said.invariant.board_faults.memory)

pub returns-in-Err-clause-write : goal.returns-in-Err-clause-write
returns-in-Err-clause-write g c = λ is.
    let rose = write_stopped _ _ (c.given-taken.result + 1) c.in-Err.stop c.in-Err.ensures.cause.failed (sym c.ended.ensures ∙ is) in
    omega (arith, rose, c.loop-said.invariant.board_faults.output)

pub returns-in-Err-clause-goes_on : goal.returns-in-Err-clause-goes_on
returns-in-Err-clause-goes_on g c = g.met.A.Answerer.goes_further c.args.board.now c.loop-said.board c.answer.new.board c.loop-said.invariant.goes_on c.answer.ensures.goes_on

pub loop-said-preserved : goal.loop-said-preserved
loop-said-preserved g c =
    let l = c.loop-said in
    record {
      ready = λ told tells opening ready.
          let script = g.S.Source.left c.args.source.now in
          let rest = held l.lines.buffer ++ g.S.Source.left l.source in
          let after = held c.next.new.self.buffer ++ g.S.Source.left c.next.new.source in
          let said = c.in-Got.ensures.gives told in
          subst (λ n. g.A.Answerer.Readiness c.answer.new.self c.answer.new.board opening script after n) (ap (λ n. n + 1) c.given-taken.ensures ∙ sym c.in-Got.ensures.given)
          (c.in-Ok.ensures.leads tells opening script rest said.line after c.given-taken.result
          (subst (λ n. g.A.Answerer.Readiness l.answerer l.board opening script rest n) (sym c.given-taken.ensures) (l.invariant.ready told tells opening ready)) said.first
          (subst (λ m. SaysAt c.given-taken.result said.line (line_view c.in-Got.said m)) (sym c.message.ensures)
          (subst (λ n. SaysAt n said.line (line_view c.in-Got.said c.next.new.self.message.items)) (sym c.given-taken.ensures) said.says)));
      settled = c.in-Ok.ensures.settled;
      goes_on = g.met.A.Answerer.goes_further c.args.board.now l.board c.answer.new.board l.invariant.goes_on c.answer.ensures.goes_on;
      fresh = c.in-Got.ensures.has_ended;
      faults = omega (arith, l.invariant.faults, c.in-Got.ensures.later);
      board_faults = rises_further _ _ _ l.invariant.board_faults c.answer.ensures.cause.later;
    }
