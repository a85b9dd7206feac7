use Rattle.register_store.proofs.Standing.{formatted_stands, same_stands, read_stands}
use Rattle.memory_tests.proofs.store.gate_turns_to_a_slot_that_was_filled.Goals as goal

pub fill_slot-requires-clause-stands : goal.fill_slot-requires-clause-stands
fill_slot-requires-clause-stands g c = λ tells. formatted_stands (c.in_ok-format.ensures.ok tells) c.format.new.board.possible

pub turn_gate-requires-clause-stands : goal.turn_gate-requires-clause-stands
turn_gate-requires-clause-stands g c = λ tells.
    let first = formatted_stands (c.in_ok-format.ensures.ok tells) c.format.new.board.possible in
    read_stands (same_stands first (c.in_ok-fill_slot.ensures.same tells)) (c.recover.ensures.reads tells)
