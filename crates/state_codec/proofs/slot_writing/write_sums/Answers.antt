use Rattle.std.proofs.Common.{◌∙◌, ap, arith}
use Rattle.std.specs.Int.{w32, w128, to_le_bytes, cast_unsigned}
use Rattle.std.proofs.lemmas.Int.{to_z-of_z}
use Rattle.billing_memory.specs.Records.{record_view}
use Rattle.state_codec.proofs.Entries.{energy_fits, sums_spelled}
use Rattle.state_codec.proofs.slot_writing.write_sums.Goals as goal

pub returns : goal.returns
returns c =
    let r = c.args.m.now.register in
    let energy = to_z-of_z w128 r.energy_mj (energy_fits r) in
    record {
      bytes = sums_spelled (record_view c.args.m.now) c.to_le_bytes-s.result c.to_le_bytes-r.result c.to_le_bytes-f.result c.to_le_bytes-p.result c.to_le_bytes-e.result c.to_le_bytes-b.result (c.to_le_bytes-s.ensures ∙ ap (to_le_bytes w32) c.flow_sample.ensures) (c.to_le_bytes-r.ensures ∙ ap (to_le_bytes w32) c.return_sample.ensures) c.to_le_bytes-f.ensures c.to_le_bytes-p.ensures (c.to_le_bytes-e.ensures ∙ ap (λ z. to_le_bytes w128 (cast_unsigned w128 z)) energy) c.to_le_bytes-b.ensures;
      flow = omega (arith, c.flow_sample.ensures, c.flow_sample.type_inv);
      ret = omega (arith, c.return_sample.ensures, c.return_sample.type_inv);
    }
