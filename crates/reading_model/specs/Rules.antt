-- Rules on bytes, looked at in order.
use Rattle.std.specs.Prelude.{ℕ, Bool, if◌then◌else◌, slice_index, List, [], ◌∷◌, Option, None, Some, Result, Err}

-- whether a rule is kept, and the place of what it speaks of
pub record Rule : Type 0 where
  pub at : ℕ
  pub kept : Bool

abbrev pub rule : ℕ → Bool → Rule
rule at kept = record { at = at; kept = kept }

-- the place of the first rule that is broken
abbrev pub first_broken : List Rule → Option ℕ
first_broken [] = None
first_broken (r ∷ rs) = if r.kept then first_broken rs else Some r.at

-- what is said where no rule is broken, and the place of the first that is
abbrev pub unless_broken : {Said : Type 0} → Option ℕ → Result Said ℕ → Result Said ℕ
unless_broken None said = said
unless_broken (Some at) said = Err at

-- the byte at a place, and 0 where there is none
abbrev pub byte : List ℕ → ℕ → ℕ
byte bytes place = slice_index bytes place
