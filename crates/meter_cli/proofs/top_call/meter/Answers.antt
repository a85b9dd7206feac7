use Rattle.std.proofs.Common.{subst, sym}
use Rattle.trace_model.specs.Output.{PutsAlone}
use Rattle.reading_model.specs.Messages.{message_in}
use Rattle.reading_model.specs.Telegrams.{telegram_in}
use Rattle.meter_cli.proofs.Certs.{cert_alone, cert_base, cert_ends}
use Rattle.meter_cli.proofs.Inits.{each_moment}
use Rattle.meter_cli.proofs.Lines.{done_or}
use Rattle.meter_cli.proofs.Readings.{complete}
use Rattle.meter_cli.proofs.Shows.{looks_alone, looks_base}
use Rattle.meter_cli.proofs.top_call.meter.Goals as goal

pub returns-in-Ok-Init-clause-init_moments : goal.returns-in-Ok-Init-clause-init_moments
returns-in-Ok-Init-clause-init_moments g c = λ config p is reads tells accepts other before.
    each_moment config _ _ p (c.requires tells) (g.met.B.Board.whole c.args.board.now tells) other (c.init.ensures.moments config reads tells accepts) before

pub returns-in-Ok-Show-clause-puts : goal.returns-in-Ok-Show-clause-puts
returns-in-Ok-Show-clause-puts g c = λ other not_run tells. looks_alone _ _ _ _ _ c.show.result (c.show.ensures.leaves tells) (subst PutsAlone (sym (c.requires tells)) tt)

pub returns-in-Ok-Ask-clause-one_line : goal.returns-in-Ok-Ask-clause-one_line
returns-in-Ok-Ask-clause-one_line g c = λ query is. done_or c.answer.result c.answer.ensures.kind c.answer.ensures.write

pub returns-in-Ok-Show-clause-base : goal.returns-in-Ok-Show-clause-base
returns-in-Ok-Show-clause-base g c = λ tells. looks_base _ _ _ _ _ c.show.result (c.show.ensures.leaves tells)

pub returns-in-Ok-Slots-clause-puts : goal.returns-in-Ok-Slots-clause-puts
returns-in-Ok-Slots-clause-puts g c = λ other not_run tells. looks_alone _ _ _ _ _ c.slots.result (c.slots.ensures.leaves tells) (subst PutsAlone (sym (c.requires tells)) tt)

pub returns-in-Ok-Slots-clause-base : goal.returns-in-Ok-Slots-clause-base
returns-in-Ok-Slots-clause-base g c = λ tells. looks_base _ _ _ _ _ c.slots.result (c.slots.ensures.leaves tells)

pub returns-in-Ok-Cert-clause-puts : goal.returns-in-Ok-Cert-clause-puts
returns-in-Ok-Cert-clause-puts g c = λ other not_run tells. cert_alone _ 0 _ _ c.cert.result (c.cert.ensures.leaves tells) (subst PutsAlone (sym (c.requires tells)) tt)

pub returns-in-Ok-Cert-clause-base : goal.returns-in-Ok-Cert-clause-base
returns-in-Ok-Cert-clause-base g c = λ tells. cert_base _ 0 _ _ c.cert.result (c.cert.ensures.leaves tells)

pub returns-in-Ok-Cert-clause-cert_complete : goal.returns-in-Ok-Cert-clause-cert_complete
returns-in-Ok-Cert-clause-cert_complete g c = λ p is. cert_ends c.cert.result c.cert.ensures.kind c.cert.ensures.write

pub returns-in-Ok-ReadMbus-clause-read_mbus_complete : goal.returns-in-Ok-ReadMbus-clause-read_mbus_complete
returns-in-Ok-ReadMbus-clause-read_mbus_complete g c = λ is told unread unwritten.
    complete (telegram_in (g.S.Source.left c.args.source.now)) c.mbus.result (c.mbus.ensures.answers told) (λ read. unread (c.mbus.ensures.read read)) (λ write. unwritten (c.mbus.ensures.write write))

pub returns-in-Ok-ReadMbus-clause-puts : goal.returns-in-Ok-ReadMbus-clause-puts
returns-in-Ok-ReadMbus-clause-puts g c = λ other not_run tells. c.mbus.ensures.alone tells (subst PutsAlone (sym (c.requires tells)) tt)

pub returns-in-Ok-ReadOptical-clause-read_optical_complete : goal.returns-in-Ok-ReadOptical-clause-read_optical_complete
returns-in-Ok-ReadOptical-clause-read_optical_complete g c = λ is told unread unwritten.
    complete (message_in (g.S.Source.left c.args.source.now)) c.optical.result (c.optical.ensures.answers told) (λ read. unread (c.optical.ensures.read read)) (λ write. unwritten (c.optical.ensures.write write))

pub returns-in-Ok-ReadOptical-clause-puts : goal.returns-in-Ok-ReadOptical-clause-puts
returns-in-Ok-ReadOptical-clause-puts g c = λ other not_run tells. c.optical.ensures.alone tells (subst PutsAlone (sym (c.requires tells)) tt)

pub returns-in-Ok-Run-clause-run_few_lost : goal.returns-in-Ok-Run-clause-run_few_lost
returns-in-Ok-Run-clause-run_few_lost g c = λ config o side j is reads tells held pairs. c.run.ensures.few_lost reads tells config o side j held pairs
