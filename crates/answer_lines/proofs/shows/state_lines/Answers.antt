use Rattle.std.proofs.Common.{◌∙◌, ap, codes, refl}
use Rattle.answer_lines.specs.Texts.{bytes_of}
use Rattle.answer_lines.proofs.MonthLines.{joined, pushed}
use Rattle.answer_lines.proofs.shows.state_lines.Goals as goal

pub returns-clause-lines : goal.returns-clause-lines
returns-clause-lines c =
    let serial = joined c.labelled.result.bytes (codes "serial ") _ _ (codes "\n") c.labelled.ensures (c.as_str.ensures.value ∙ c.digits_text.ensures) in
    let day = joined c.labelled-2.result.bytes (codes "day ") _ _ (codes "\n") c.labelled-2.ensures c.as_str-2.ensures.value in
    let seq = joined c.labelled-3.result.bytes (codes "seq ") _ _ (codes "\n") c.labelled-3.ensures c.format.ensures.text in
    let volume = joined c.labelled-4.result.bytes (codes "volume ") _ _ (codes " m3\n") c.labelled-4.ensures (c.as_str-3.ensures.value ∙ c.volume_text.ensures) in
    let energy = joined c.labelled-5.result.bytes (codes "energy ") _ _ (codes " kWh\n") c.labelled-5.ensures (c.as_str-4.ensures.value ∙ c.energy_text.ensures) in
    let faulty = joined c.labelled-6.result.bytes (codes "faulty ") _ _ (codes "\n") c.labelled-6.ensures c.format-2.ensures.text in
    record {
      day = c.labelled-2.result.bytes;
      set = c.set_line.result.bytes;
      day_is = (c.text.result.bytes, c.text.ensures, day);
      set_is = c.set_line.ensures.text;
      are = pushed _ _ c.set_line.result _ _ c.push-8.ensures.items
          (pushed _ _ c.labelled-6.result _ _ c.push-7.ensures.items
          (pushed _ _ c.register_line.result _ _ c.push-6.ensures.items
          (pushed _ _ c.labelled-5.result _ _ c.push-5.ensures.items
          (pushed _ _ c.labelled-4.result _ _ c.push-4.ensures.items
          (pushed _ _ c.labelled-3.result _ _ c.push-3.ensures.items
          (pushed _ _ c.labelled-2.result _ _ c.push-2.ensures.items
          (pushed _ _ c.labelled.result _ _ c.push.ensures.items (ap bytes_of c.new-lines.ensures) serial) refl) seq) volume) energy) c.register_line.ensures) faulty) refl;
    }
