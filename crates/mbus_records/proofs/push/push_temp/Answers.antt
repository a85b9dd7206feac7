use Rattle.std.proofs.Common.{◌∙◌, ap, to_z-of_z, SFits, w32, ◌++◌, [], ◌∷◌}
use Rattle.telegram_model.specs.Values.{integer_bytes, thousandths}
use Rattle.mbus_records.proofs.Pushes.{three_parts}
use Rattle.mbus_records.proofs.push.push_temp.Goals as goal

pub returns-clause-items : goal.returns-clause-items
unfolding integer_bytes
returns-clause-items c =
    let fits = c.ranges.microdegrees in
    let quotient = simp (to_z-of_z, fits) at c.div_euclid.ensures in
    let small : SFits w32 c.div_euclid.result = record { sfits = c.div_euclid.type_inv } in
    let bytes = (simp (to_z-of_z, small) at c.to_le_bytes.ensures) ∙ ap integer_bytes quotient in
    three_parts c.args.body.now.items c.push.new.self.items c.push-2.new.self.items c.append.new.list.items
    (4 ∷ []) (c.args.unit ∷ []) (integer_bytes (thousandths c.args.microdegrees))
    c.push.ensures.items c.push-2.ensures.items
    (c.append.ensures.items ∙ ap (λ l. c.push-2.new.self.items ++ l) bytes)
