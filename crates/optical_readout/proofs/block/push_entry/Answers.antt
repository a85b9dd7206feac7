use Rattle.std.proofs.Common.{◌∙◌, ap, refl, arith, ◌++◌, codes}
use Rattle.optical_model.specs.Messages.{energy_value, entry_lines, marked, volume_value}
use Rattle.energy_register.specs.Register.{register_view}
use Rattle.meter_config.specs.Views.{config_view}
use Rattle.optical_readout.proofs.Pushes.{appended, six_texts}
use Rattle.optical_readout.proofs.block.push_entry.Goals as goal

pub returns : goal.returns
returns c =
    let config = config_view c.args.c.now in
    let register = register_view c.args.entry.now.register in
    let day = c.text-day.result.bytes in
    let mark = marked c.args.mark day in
    appended 70 c.args.message.now.items c.push_volume.new.message.items (entry_lines config register c.args.mark day)
    (record { day = day; dated = c.text-day.ensures; is = refl })
    (six_texts c.args.message.now.items c.append.new.list.items c.push_mark.new.message.items c.push_energy.new.message.items c.append-2.new.list.items c.push_mark-2.new.message.items c.push_volume.new.message.items
    (codes "6.8") mark (energy_value config register) (codes "6.26") mark (volume_value config register)
    c.append.ensures.items (c.push_mark.ensures.items ∙ ap (λ t. c.append.new.list.items ++ marked c.args.mark t) c.as_str.ensures.value) c.push_energy.ensures.items c.append-2.ensures.items (c.push_mark-2.ensures.items ∙ ap (λ t. c.append-2.new.list.items ++ marked c.args.mark t) c.as_str-2.ensures.value) c.push_volume.ensures.items)
    (omega (arith, c.append.ensures.len, c.push_mark.ensures.len, c.push_energy.ensures.len, c.append-2.ensures.len, c.push_mark-2.ensures.len, c.push_volume.ensures.len, c.as_str.ensures.fits, c.as_str-2.ensures.fits))
