use Rattle.std.proofs.Common.{◌∙◌, ap}
use Rattle.std.specs.Int.{w128, to_le_bytes, cast_unsigned}
use Rattle.std.proofs.lemmas.Int.{to_z-of_z}
use Rattle.billing_memory.specs.Entries.{entry_view}
use Rattle.state_codec.proofs.Entries.{energy_fits, entry_spelled}
use Rattle.state_codec.proofs.entry.write_entry.Goals as goal

pub returns : goal.returns
returns c =
    let r = c.args.entry.now.register in
    let energy = to_z-of_z w128 r.energy_mj (energy_fits r) in
    entry_spelled (entry_view c.args.entry.now) c.to_le_bytes-d.result c.to_le_bytes-p.result c.to_le_bytes-e.result c.to_le_bytes-b.result c.to_le_bytes-d.ensures c.to_le_bytes-p.ensures (c.to_le_bytes-e.ensures ∙ ap (λ z. to_le_bytes w128 (cast_unsigned w128 z)) energy) c.to_le_bytes-b.ensures
