use Rattle.std.proofs.Common.{arith}
use Rattle.std.proofs.lemmas.Int.{ints}
use Rattle.number_model.proofs.Enclosures.{Holds-add_is}
use Rattle.interval_num.proofs.enc.Enc.add.Goals as goal

pub returns-clause-holds : goal.returns-clause-holds
returns-clause-holds g c = λ x y p q.
    Holds-add_is _ _ _ _ _ _ _ x y (omega (arith, ints)) (omega (arith, ints)) p q
