use Rattle.std.proofs.Common.{◌∙◌, Ok, sym, ap, arith}
use Rattle.std.specs.Int.{w16, from_le_bytes}
use Rattle.meter_parts.specs.Views.{place_view}
use Rattle.reading_model.specs.Telegrams.{decimal_number, letters_of}
use Rattle.readout_reader.specs.Views.{recs_view}
use Rattle.readout_reader.proofs.Wholes.{whole, telegram_is, serial_bytes, maker_bytes}
use Rattle.readout_reader.proofs.telegram.read_mbus.Goals as goal

pub returns : goal.returns
returns c =
    let bytes = c.args.bytes.now in
    whole bytes (recs_view c.in_ok-records.records.items, c.in_ok-records.more) c.in_ok-check_start.ensures.rules c.in_ok-check_end.ensures.rules c.in_ok-check_link.ensures c.in_ok-check_serial.ensures.rules c.in_ok-check_kind.ensures c.in_ok-records.ensures
    ∙ ap Ok (telegram_is bytes (recs_view c.in_ok-records.records.items) c.in_ok-records.more c.decimal_number.result c.maker_of.result (place_view c.place_of.result)
    (c.decimal_number.ensures.said ∙ ap decimal_number (sym (serial_bytes bytes (omega (arith, c.in_ok-check_end.ensures.size, c.in_ok-check_start.ensures.many)))))
    (c.maker_of.ensures ∙ ap (λ l. letters_of (from_le_bytes w16 l)) (sym (maker_bytes bytes (omega (arith, c.in_ok-check_end.ensures.size, c.in_ok-check_start.ensures.many)))))
    c.place_of.ensures)
