use Rattle.std.proofs.Common.{tests, rules, not, ◌==◌}
use Rattle.std.proofs.lemmas.Iterator.{YieldsList-from_slice}
use Rattle.std.proofs.lemmas.Iterator.Search.{position_from_yields_List}
use Rattle.optical_readout.proofs.Addresses.{zeros_some, zeros_none}
use Rattle.optical_readout.proofs.request.without_zeros.Goals as goal

pub returns-in-Some : goal.returns-in-Some
returns-in-Some c =
    let found = position_from_yields_List (λ b. not (b == 48)) _ _ c.position.result c.position.ensures.ran (YieldsList-from_slice c.args.text.now cc) (λ x b q k. search (rules, tests)) in
    zeros_some c.args.text.now c.position.result c.in-Some.first found c.in-Some.is

pub returns-in-None : goal.returns-in-None
returns-in-None c =
    let found = position_from_yields_List (λ b. not (b == 48)) _ _ c.position.result c.position.ensures.ran (YieldsList-from_slice c.args.text.now cc) (λ x b q k. search (rules, tests)) in
    zeros_none c.args.text.now c.position.result found c.in-None.is
