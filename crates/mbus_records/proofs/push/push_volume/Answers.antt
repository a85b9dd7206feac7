use Rattle.std.proofs.Common.{◌∙◌, ap, ◌++◌, ◌∷◌, ◌-◌}
use Rattle.telegram_model.specs.Values.{information, decimal_bytes}
use Rattle.telegram_model.specs.Telegram.{volume_record}
use Rattle.mbus_records.proofs.push.push_volume.Goals as goal

pub returns-clause-items : goal.returns-clause-items
unfolding volume_record
returns-clause-items c =
    c.push_digits.ensures.items
    ∙ ap (λ digits. c.args.body.now.items ++ (information 12 c.args.storage ++ (22 - c.args.c.now.volume_decimals) ∷ decimal_bytes digits)) c.volume_digits-digits.ensures.value
