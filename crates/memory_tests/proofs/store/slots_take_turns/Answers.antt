use Rattle.register_store.proofs.Standing.{formatted_stands, held_stands, read_stands}
use Rattle.memory_tests.proofs.store.slots_take_turns.Goals as goal

pub commit-requires-clause-stands : goal.commit-requires-clause-stands
commit-requires-clause-stands g c = λ tells. formatted_stands (c.in_ok-format.ensures.ok tells) c.format.new.board.possible

pub commit-requires-2-clause-stands : goal.commit-requires-2-clause-stands
commit-requires-2-clause-stands g c = λ tells.
    let first = formatted_stands (c.in_ok-format.ensures.ok tells) c.format.new.board.possible in
    read_stands (held_stands (c.in_ok-first.ensures.ok tells first.config first.held first.is) c.in_ok-first.ensures.side) (c.recover.ensures.reads tells)
