use Rattle.std.proofs.Common.{◌∙◌, ap, ◌++◌, [], ◌∷◌}
use Rattle.std.specs.Int.{w16, to_le_bytes}
use Rattle.telegram_model.specs.Values.{decimal_bytes}
use Rattle.telegram_model.specs.Telegram.{header, maker_code, medium}
use Rattle.meter_parts.specs.Views.{place_view}
use Rattle.mbus_records.proofs.Pushes.{three_parts}
use Rattle.mbus_records.proofs.compose.push_header.Goals as goal

pub returns-clause-items : goal.returns-clause-items
unfolding header
returns-clause-items c =
    let config = c.args.c.now in
    three_parts c.args.body.now.items c.append.new.list.items c.append-2.new.list.items c.append-3.new.list.items
    (decimal_bytes config.serial) (to_le_bytes w16 (maker_code config.maker)) (config.version ∷ medium (place_view config.place) ∷ c.args.access ∷ 0 ∷ 0 ∷ 0 ∷ [])
    (c.append.ensures.items ∙ ap (λ l. c.args.body.now.items ++ l) c.decimal_bytes.ensures)
    (c.append-2.ensures.items ∙ ap (λ l. c.append.new.list.items ++ l) (c.to_le_bytes.ensures ∙ ap (to_le_bytes w16) c.maker_code.ensures))
    (c.append-3.ensures.items ∙ ap (λ kind. c.append-2.new.list.items ++ config.version ∷ kind ∷ c.args.access ∷ 0 ∷ 0 ∷ 0 ∷ []) c.medium.ensures)
