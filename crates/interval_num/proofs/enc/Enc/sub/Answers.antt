use Rattle.std.proofs.Common.{arith}
use Rattle.std.proofs.lemmas.Int.{ints}
use Rattle.number_model.proofs.Enclosures.{Holds-sub_is}
use Rattle.interval_num.proofs.enc.Enc.sub.Goals as goal

pub invariant_of-result : goal.invariant_of-result
invariant_of-result g c = omega (arith, ints)

pub returns-clause-lo : goal.returns-clause-lo
returns-clause-lo g c = omega (arith, ints)

pub returns-clause-hi : goal.returns-clause-hi
returns-clause-hi g c = omega (arith, ints)

pub returns-clause-holds : goal.returns-clause-holds
returns-clause-holds g c = λ x y p q.
    Holds-sub_is _ _ _ _ _ _ _ x y (omega (arith, ints)) (omega (arith, ints)) p q
