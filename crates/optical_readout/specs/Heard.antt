-- What an optical head has heard.
use Rattle.std.specs.Prelude.{◌↔◌, ℕ, List, Option, IsTrue}
use Rattle.config_model.specs.Configuration.{Configuration}
use Rattle.optical_model.specs.Replies.{IsSelected}
use Rattle.optical_readout.specs.declared.head.Optical.{Optical}

-- the head has heard messages since the start of which this is the last, or none
abbrev pub Heard : Configuration → (last : Option (List ℕ)) → Optical → Type 0
Heard c last head = IsTrue head.selected ↔ IsSelected c last
