-- Texts of lines, as bytes.
use Rattle.std.specs.Prelude.{ℕ, ◌<◌, List, length, map}
use Rattle.std.specs.List.{All}
use Rattle.arrayvec.specs.ArrayString.{ArrayString}

-- the bytes of texts
abbrev pub bytes_of : List ArrayString → List (List ℕ)
bytes_of texts = map (λ (text : ArrayString). text.bytes) texts

-- none of these texts is empty
abbrev pub NoneEmpty : List ArrayString → Type 0
NoneEmpty texts = All (λ (text : ArrayString). 0 < length text.bytes) texts
