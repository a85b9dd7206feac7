-- The trace of a board: the bytes of its memory at first, and what happened since, in order.
use Rattle.std.specs.Prelude.{◌≡◌, ℕ, Bool, List}

pub data Entry : Type 0 where
  -- bytes were stored in the memory from this place on
  Store : (at : ℕ) (bytes : List ℕ) → Entry
  -- all that was stored before is settled
  Sync : Entry
  -- a sync failed
  Missed : Entry
  -- bytes went out
  Put : (bytes : List ℕ) → Entry
  -- a cut of the power was ordered
  Arm : (n keep fill : ℕ) → Entry
  -- the power was cut, within a store or a sync (forced) or by a call of its own, and left this image
  Cut : (forced : Bool) (image : List ℕ) → Entry

-- what stands to the left of an entry is the trace before it
infixl 60 ◌▷◌
pub data Trace : Type 0 where
  Start : (base : List ℕ) → Trace
  ◌▷◌ : (earlier : Trace) (last : Entry) → Trace

-- the bytes of the memory at first
abbrev pub base_of : Trace → List ℕ
base_of (Start base) = base
base_of (t ▷ e) = base_of t

-- nothing has happened yet
abbrev pub IsFresh : Trace → Type 0
IsFresh t = t ≡ Start (base_of t)
