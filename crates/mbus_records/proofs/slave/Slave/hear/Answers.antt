use Rattle.std.proofs.Common.{◌∙◌, [], ◌∷◌, refl, sym, subst, reverse}
use Rattle.std.proofs.lemmas.List.{reverse-append}
use Rattle.mbus_records.specs.State.{IsAfterLatest, heard_now}
use Rattle.meter_config.specs.Views.{config_view}
use Rattle.mbus_records.proofs.Steps.{request_replied}
use Rattle.mbus_records.proofs.slave.Slave.hear.Goals as goal

pub returns-in-Request-clause-reply : goal.returns-in-Request-clause-reply
returns-in-Request-clause-reply c = λ heard before.
    let config = config_view c.args.c.now in
    let h = heard_now c.args.f.now c.args.m.now in
    c.last_reply.ensures.frame
    ∙ request_replied config (reverse heard) h c.in-Request.control c.take_request.new.self c.in-Request.ensures
    (c.take_request.ensures config (reverse heard) h before c.in-Request.ensures refl)

pub returns-in-Request-clause-after : goal.returns-in-Request-clause-after
returns-in-Request-clause-after c = λ heard before.
    let config = config_view c.args.c.now in
    let h = heard_now c.args.f.now c.args.m.now in
    subst (λ hs. IsAfterLatest config hs c.take_request.new.self) (sym (reverse-append heard (h ∷ [])))
    (c.take_request.ensures config (reverse heard) h before c.in-Request.ensures refl)
