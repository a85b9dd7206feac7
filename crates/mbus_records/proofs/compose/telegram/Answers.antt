use Rattle.std.proofs.Common.{◌∙◌, ◌++◌, ap, arith, [], ◌∷◌, if◌then◌else◌}
use Rattle.std.specs.Prelude.{nat_lt}
use Rattle.telegram_model.specs.Telegram.{header}
use Rattle.billing_memory.specs.Records.{record_view}
use Rattle.meter_config.specs.Views.{config_view}
use Rattle.mbus_records.proofs.Composed.{none_beyond, one_composed}
use Rattle.mbus_records.proofs.compose.telegram.Goals as goal

pub returns-then-k-last_telegram-clause-frame : goal.returns-then-k-last_telegram-clause-frame
returns-then-k-last_telegram-clause-frame c =
    none_beyond (config_view c.args.c.now) (record_view c.args.frozen.now) c.args.k c.args.access (omega (arith, c.last_telegram.ensures, c.if-k-last_telegram.true))

pub returns-clause-frame : goal.returns-clause-frame
returns-clause-frame c =
    let config = config_view c.args.c.now in
    let m = record_view c.args.frozen.now in
    one_composed config m c.args.k c.args.access c.push_header.new.body.items c.push_records.new.body.items c.push_mark.new.body.items
    (omega (arith, c.last_telegram.ensures, c.if-k-last_telegram.false))
    (c.push_header.ensures.items ∙ ap (λ l. l ++ header config c.args.access) c.new-body.ensures)
    c.push_records.ensures.items
    (c.push_mark.ensures.items ∙ ap (λ n. c.push_records.new.body.items ++ (if nat_lt c.args.k n then 31 ∷ [] else [])) c.last_telegram-2.ensures)
