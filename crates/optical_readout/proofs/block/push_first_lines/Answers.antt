use Rattle.std.proofs.Common.{◌∙◌, ap, refl, arith, ◌++◌, codes}
use Rattle.optical_model.specs.Messages.{day_line, energy_value, first_lines, serial_line, volume_value}
use Rattle.energy_register.specs.Register.{register_view}
use Rattle.meter_config.specs.Views.{config_view}
use Rattle.optical_readout.proofs.Pushes.{appended, six_texts}
use Rattle.optical_readout.proofs.block.push_first_lines.Goals as goal

pub returns : goal.returns
returns c =
    let config = config_view c.args.c.now in
    let register = register_view c.args.register.now in
    let day = c.text.result.bytes in
    appended 74 c.args.message.now.items c.push_day.new.message.items (first_lines config register day)
    (record { day = day; dated = c.text.ensures; is = refl })
    (six_texts c.args.message.now.items c.push_serial.new.message.items c.append.new.list.items c.push_energy.new.message.items c.append-2.new.list.items c.push_volume.new.message.items c.push_day.new.message.items
    (serial_line config) (codes "6.8") (energy_value config register) (codes "6.26") (volume_value config register) (day_line day)
    c.push_serial.ensures.items c.append.ensures.items c.push_energy.ensures.items c.append-2.ensures.items c.push_volume.ensures.items
    (c.push_day.ensures.items ∙ ap (λ t. c.push_volume.new.message.items ++ day_line t) c.as_str.ensures.value))
    (omega (arith, c.push_serial.ensures.len, c.append.ensures.len, c.push_energy.ensures.len, c.append-2.ensures.len, c.push_volume.ensures.len, c.push_day.ensures.len, c.as_str.ensures.fits))
