use Rattle.std.proofs.Common.{subst}
use Rattle.register_store.specs.Recovered.{side_view}
use Rattle.run_engine.specs.Steps.{HoldGives}
use Rattle.billing_memory.specs.Records.{record_view}
use Rattle.run_engine.proofs.Holding.{held_cut, held_gives, held_goes_on, held_stands}
use Rattle.run_engine.proofs.answers.hold.Goals as goal

pub returns-clause-holds : goal.returns-clause-holds
returns-clause-holds g c = λ tells config r holds.
    subst (λ m. HoldGives config (side_view c.args.side) r (record_view m) (g.B.Board.trace c.args.board.now) c.commit.result (g.B.Board.trace c.commit.new.board) (g.B.Board.reads c.commit.new.board)) c.state.ensures
    (held_gives (g.B.Board.trace c.args.board.now) (g.B.Board.trace c.commit.new.board) (g.B.Board.reads c.commit.new.board) config (side_view c.args.side) r (record_view c.state.result.now) c.commit.result
    (c.commit.ensures.moments tells config r holds) (c.commit.ensures.stores tells) (c.commit.ensures.ok tells config r holds) (c.commit.ensures.leaves tells config r holds) c.commit.ensures.side)

pub returns-clause-goes_on : goal.returns-clause-goes_on
returns-clause-goes_on g c = λ tells.
    let stands = c.requires.stands tells in
    held_goes_on (g.B.Board.trace c.args.board.now) (g.B.Board.trace c.commit.new.board) (g.B.Board.reads c.commit.new.board) stands.config (side_view c.args.side) stands.held (record_view c.state.result.now) _ _ c.commit.result
    (c.commit.ensures.moments tells stands.config stands.held stands.is) (c.commit.ensures.stores tells) c.commit.ensures.cause

pub returns-clause-stands : goal.returns-clause-stands
returns-clause-stands g c = λ tells.
    let stands = c.requires.stands tells in
    held_stands (g.B.Board.trace c.args.board.now) (g.B.Board.trace c.commit.new.board) (g.B.Board.reads c.commit.new.board) stands.config (side_view c.args.side) stands.held (record_view c.state.result.now) c.commit.result
    (c.commit.ensures.ok tells stands.config stands.held stands.is) c.commit.ensures.side

pub returns-clause-cut_settled : goal.returns-clause-cut_settled
returns-clause-cut_settled g c = λ tells is.
    let stands = c.requires.stands tells in
    held_cut (g.B.Board.trace c.args.board.now) (g.B.Board.trace c.commit.new.board) (g.B.Board.reads c.commit.new.board) stands.config (side_view c.args.side) stands.held (record_view c.state.result.now) c.commit.result
    (c.commit.ensures.moments tells stands.config stands.held stands.is) is
