use Rattle.std.proofs.Common.{◌∷◌, ◌∙◌, [], ap, rules}
use Rattle.trace_model.specs.Images.{replaced}
use Rattle.register_store.specs.Commits.{gate_of}
use Rattle.register_store.specs.Recovered.{side_view}
use Rattle.register_store.proofs.StoreMoments.{keeps_on}
use Rattle.register_store.proofs.CommitMoments.{turn_keeps, turn_holds}
use Rattle.register_store.proofs.committing.turn_gate.Goals as goal

pub returns-in_err-store_settled-clause-moments : goal.returns-in_err-store_settled-clause-moments
returns-in_err-store_settled-clause-moments g c = λ tells config held new both.
    turn_keeps config held new (side_view c.args.side) (g.B.Board.reads c.args.board.now) both.in_force both.filled (g.met.B.Board.possible c.args.board.now tells).size (keeps_on (λ cut. search rules) (c.store_settled.ensures.moments tells))

pub returns-clause-moments : goal.returns-clause-moments
returns-clause-moments g c = λ tells config held new both.
    turn_keeps config held new (side_view c.args.side) (g.B.Board.reads c.args.board.now) both.in_force both.filled (g.met.B.Board.possible c.args.board.now tells).size (keeps_on (λ cut. absurd cc) (c.store_settled.ensures.moments tells))

pub returns-clause-ok : goal.returns-clause-ok
returns-clause-ok g c = λ tells config held new both.
    let gate = c.gate_byte.ensures ∙ ap gate_of c.other_side-turned.ensures in
    turn_holds config held new (side_view c.args.side) (g.B.Board.reads c.args.board.now) both.in_force both.filled (g.met.B.Board.possible c.args.board.now tells).size (g.B.Board.reads c.store_settled.new.board)
    (c.in_ok-store_settled.ensures.ok tells ∙ ap (λ n. replaced (g.B.Board.reads c.args.board.now) 256 (n ∷ [])) gate)
