use Rattle.std.proofs.Common.{sym, ◌∙◌, subst}
use Rattle.optical_model.specs.Requests.{IsOwn}
use Rattle.meter_config.specs.Views.{config_view}
use Rattle.optical_readout.proofs.Addresses.{request_same}
use Rattle.optical_readout.proofs.request.is_request.Goals as goal

pub returns-in-Some : goal.returns-in-Some
returns-in-Some c =
    let address = c.in-Some.address.now in (
      λ own. record { address = address; form = c.in-Some.ensures.1; allowed = c.in-Some.ensures.0; own = c.is_own.ensures.0 own },
      λ h. c.is_own.ensures.1 (subst (λ a. IsOwn (config_view c.args.c.now) a) (sym (request_same address h.address (sym c.in-Some.ensures.1 ∙ h.form))) h.own),
    )
