use Rattle.std.proofs.Common.{ap, ◌∙◌, rules}
use Rattle.std.proofs.lemmas.Result.{on_ok_weaker}
use Rattle.billing_memory.specs.Records.{record_view}
use Rattle.memory_model.specs.Stored.{slot_at}
use Rattle.register_store.specs.Recovered.{side_view}
use Rattle.register_store.proofs.CommitMoments.{fill_keeps, fill_outside, fill_same, fill_holds}
use Rattle.register_store.proofs.committing.fill_slot.Goals as goal

pub returns-clause-moments : goal.returns-clause-moments
returns-clause-moments g c = λ tells.
    fill_keeps (side_view c.args.side) (g.B.Board.reads c.args.board.now) (c.requires.stands tells) (g.met.B.Board.possible c.args.board.now tells).size c.slot_place.result c.encode_record.result
    (c.slot_place.ensures.place ∙ ap slot_at c.other_side-filled.ensures) (search rules) (c.store_settled.ensures.moments tells)

pub returns-clause-slot : goal.returns-clause-slot
returns-clause-slot g c = λ tells.
    on_ok_weaker c.store_settled.result
    (fill_holds (side_view c.args.side) (g.B.Board.reads c.args.board.now) (c.requires.stands tells) (g.met.B.Board.possible c.args.board.now tells).size c.slot_place.result c.encode_record.result
    (c.slot_place.ensures.place ∙ ap slot_at c.other_side-filled.ensures) (search rules) (g.B.Board.reads c.store_settled.new.board) (record_view c.args.m.now) c.encode_record.ensures.read_again)
    (c.store_settled.ensures.ok tells)

pub returns-clause-same : goal.returns-clause-same
returns-clause-same g c = λ tells.
    on_ok_weaker c.store_settled.result
    (fill_same (side_view c.args.side) (g.B.Board.reads c.args.board.now) (c.requires.stands tells) (g.met.B.Board.possible c.args.board.now tells).size c.slot_place.result c.encode_record.result
    (c.slot_place.ensures.place ∙ ap slot_at c.other_side-filled.ensures) (search rules) (g.B.Board.reads c.store_settled.new.board))
    (c.store_settled.ensures.ok tells)

pub returns-clause-outside : goal.returns-clause-outside
returns-clause-outside g c = λ tells.
    on_ok_weaker c.store_settled.result
    (fill_outside (side_view c.args.side) (g.B.Board.reads c.args.board.now) (c.requires.stands tells) (g.met.B.Board.possible c.args.board.now tells).size c.slot_place.result c.encode_record.result
    (c.slot_place.ensures.place ∙ ap slot_at c.other_side-filled.ensures) (search rules) (g.B.Board.reads c.store_settled.new.board))
    (c.store_settled.ensures.ok tells)

pub returns-clause-stores : goal.returns-clause-stores
returns-clause-stores g c = λ tells. c.store_settled.ensures.stores tells
