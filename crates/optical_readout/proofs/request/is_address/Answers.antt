use Rattle.std.proofs.Common.{tests, rules, sym, subst, IsTrue}
use Rattle.std.proofs.lemmas.Iterator.{YieldsList-from_slice}
use Rattle.std.proofs.lemmas.Iterator.Search.{all_from_yields_List}
use Rattle.optical_model.specs.Requests.{is_address_byte}
use Rattle.optical_readout.proofs.request.is_address.Goals as goal

pub returns-then-text-le-MAX_ADDRESS : goal.returns-then-text-le-MAX_ADDRESS
returns-then-text-le-MAX_ADDRESS c =
    let all = all_from_yields_List is_address_byte _ _ c.all.result c.all.ensures.ran (YieldsList-from_slice c.args.text.now cc) (λ x b q k. search (rules, tests)) in
    (λ h. record { short = c.if-text-le-MAX_ADDRESS.true; bytes = subst IsTrue all h }, λ h. subst IsTrue (sym all) h.bytes)
