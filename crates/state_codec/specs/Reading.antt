-- What calls that read bytes answer.
use Rattle.std.specs.Prelude.{◌≡◌, ℕ, List, None, Some, Result, Ok, Err}
use Rattle.memory_model.specs.Fields.{Field, first_broken, unless_broken}
use Rattle.state_codec.specs.declared.foreign.Foreign.{Foreign}

-- what a call answered, seen by view, is what the definitions read
abbrev pub Gives : {X Y : Type 0} → (X → Y) → Result X Foreign → Result Y ℕ → Type 0
Gives view (Ok x) read = read ≡ Ok (view x)
Gives view (Err f) read = read ≡ Err f.at

-- what bytes hold in some fields, or else the offset of the first of them that breaks its rule
abbrev pub checked : {Y : Type 0} → List Field → List ℕ → Y → Result Y ℕ
checked fields bytes held = unless_broken (first_broken fields bytes) held

-- of a call that checks some fields alone
abbrev pub Passes : {T : Type 0} → List Field → List ℕ → Result T Foreign → Type 0
Passes fields bytes (Ok x) = first_broken fields bytes ≡ None
Passes fields bytes (Err f) = first_broken fields bytes ≡ Some f.at
