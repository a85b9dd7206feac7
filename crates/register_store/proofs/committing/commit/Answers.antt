use Rattle.std.proofs.Common.{◌∙◌, rules}
use Rattle.billing_memory.specs.Records.{record_view}
use Rattle.register_store.specs.Recovered.{side_view}
use Rattle.register_store.proofs.StoreMoments.{keeps_on, keeps_then}
use Rattle.register_store.proofs.CommitMoments.{old_keeps, ok_leaves}
use Rattle.register_store.proofs.committing.commit.Goals as goal

pub returns-in_err-fill_slot-clause-moments : goal.returns-in_err-fill_slot-clause-moments
returns-in_err-fill_slot-clause-moments g c = λ tells config held is.
    old_keeps config held (record_view c.args.m.now) (side_view c.args.side) (g.B.Board.reads c.args.board.now) is (keeps_on (λ cut. search rules) (c.fill_slot.ensures.moments tells))

pub returns-clause-moments : goal.returns-clause-moments
returns-clause-moments g c = λ tells config held is.
    keeps_then (old_keeps config held (record_view c.args.m.now) (side_view c.args.side) (g.B.Board.reads c.args.board.now) is (c.fill_slot.ensures.moments tells)).moments
    (c.turn_gate.ensures.moments tells config held (record_view c.args.m.now) (record { in_force = c.in_ok-fill_slot.ensures.same tells ∙ is; filled = c.in_ok-fill_slot.ensures.slot tells }))

pub returns-clause-ok : goal.returns-clause-ok
returns-clause-ok g c = λ tells config held is.
    c.turn_gate.ensures.ok tells config held (record_view c.args.m.now) (record { in_force = c.in_ok-fill_slot.ensures.same tells ∙ is; filled = c.in_ok-fill_slot.ensures.slot tells })

pub returns-clause-leaves : goal.returns-clause-leaves
returns-clause-leaves g c = λ tells config held is.
    ok_leaves _ c.turn_gate.result (g.B.Board.trace c.turn_gate.new.board) (g.B.Board.reads c.turn_gate.new.board)
    (c.turn_gate.ensures.ok tells config held (record_view c.args.m.now) (record { in_force = c.in_ok-fill_slot.ensures.same tells ∙ is; filled = c.in_ok-fill_slot.ensures.slot tells }))
    (c.turn_gate.ensures.stores tells).settled (g.met.B.Board.possible c.turn_gate.new.board tells)
