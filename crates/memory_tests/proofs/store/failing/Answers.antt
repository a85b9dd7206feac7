use Rattle.register_store.proofs.Standing.{formatted_stands}
use Rattle.memory_tests.proofs.store.failing.Goals as goal

pub commit-answer-requires-clause-stands : goal.commit-answer-requires-clause-stands
commit-answer-requires-clause-stands c = λ tells. formatted_stands (c.in_ok-format.ensures.ok tells) c.format.new.board.possible
