use Rattle.std.proofs.Common.{refl, inl, inr}
use Rattle.optical_readout.proofs.head.Optical.hear.Goals as goal

pub returns-then-is_data_select-clause-reply : goal.returns-then-is_data_select-clause-reply
returns-then-is_data_select-clause-reply c =
    λ last heard. inr (inl ((heard.0 c.if-selected.true, c.is_data_select.ensures.0 c.if-is_data_select.true), c.data_message.result.items, c.data_message.ensures.data, refl))
