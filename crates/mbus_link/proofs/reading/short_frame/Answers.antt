use Rattle.std.proofs.Common.{[], ◌∷◌}
use Rattle.mbus_link.proofs.Parts.{only_short}
use Rattle.mbus_link.proofs.reading.short_frame.Goals as goal

pub returns-in_default : goal.returns-in_default
returns-in_default c = only_short c.args.rest.now (λ x y. c.in_default.ensures (x ∷ y ∷ []))
