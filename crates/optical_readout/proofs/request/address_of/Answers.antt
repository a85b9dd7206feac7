use Rattle.std.proofs.Common.{ap, Some, ◌∙◌, ◌++◌, codes}
use Rattle.std.proofs.lemmas.Bool.Decides.{Decides-eqb}
use Rattle.std.proofs.lemmas.Slice.Eq.{strip_prefix_is, strip_suffix_is}
use Rattle.optical_readout.proofs.request.address_of.Goals as goal

pub returns-then-is_address : goal.returns-then-is_address
returns-then-is_address c =
    let rest = c.in_ok-strip_prefix.field-0 in
    let front = strip_prefix_is Decides-eqb c.args.message.now (codes "/?") (Some rest) c.in_ok-strip_prefix.ensures.cases in
    let back = strip_suffix_is Decides-eqb rest.now (codes "!\r\n") (Some c.in_ok-address.address) c.in_ok-address.ensures.cases in
    (c.is_address.ensures.0 c.if-is_address.true, front ∙ ap (λ t. codes "/?" ++ t) back)
