use Rattle.std.proofs.Common.{◌∙◌, ap}
use Rattle.std.specs.Int.{w128, from_le_bytes, cast_signed}
use Rattle.std.proofs.lemmas.Int.{to_z-of_z}
use Rattle.state_codec.proofs.Numbers.{number_16}
use Rattle.state_codec.proofs.fields.i128_at.Goals as goal

pub returns : goal.returns
returns c =
    to_z-of_z w128 c.from_le_bytes.result (record { sfits = c.from_le_bytes.type_inv })
    ∙ c.from_le_bytes.ensures ∙ ap (λ l. cast_signed w128 (from_le_bytes w128 l)) c.array_at.ensures ∙ ap (cast_signed w128) (number_16 c.args.at c.args.bytes.now c.requires)
