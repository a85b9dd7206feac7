use Rattle.std.proofs.Common.{arith, to_z-of_z}
use Rattle.std.proofs.lemmas.Int.{ints}
use mir.Syntax.{w128}
use mir.Val.{SFits}
use Rattle.number_model.proofs.Enclosures.{Holds-relabel}
use Rattle.interval_num.proofs.enc.Enc.relabel.Goals as goal

pub returns-clause-holds : goal.returns-clause-holds
returns-clause-holds g c = λ x p.
    let fl : SFits w128 c.args.self.lo = omega (arith, ints) in
    let fh : SFits w128 c.args.self.hi = omega (arith, ints) in
    simp to_z-of_z (Holds-relabel g.row.S g.row.T _ _ x p)
