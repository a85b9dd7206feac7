-- What the memory of a board may hold after a trace.
use Rattle.std.specs.Prelude.{◌≡◌, ℕ, ◌+◌, ◌<◌, Bool, false, ◌&&◌, ◌||◌, nat_le, nat_lt, List, [], ◌∷◌, ◌++◌, length, take, drop, slice_index}
use Rattle.trace_model.specs.Trace.{Store, Sync, Missed, Put, Arm, Cut, Trace, Start, ◌▷◌}

-- the bytes of a memory
abbrev pub memory_size : ℕ
memory_size = 16384

-- bytes, and the place from which on they were stored
pub record Range : Type 0 where
  pub at : ℕ
  pub bytes : List ℕ

-- the ranges stored since the last sync or cut, the last one first
abbrev pub pending : Trace → List Range
pending (Start base) = []
pending (t ▷ Store at bytes) = record { at = at; bytes = bytes } ∷ pending t
pending (t ▷ Sync) = []
pending (t ▷ Missed) = pending t
pending (t ▷ Put bytes) = pending t
pending (t ▷ Arm n keep fill) = pending t
pending (t ▷ Cut forced image) = []

abbrev pub NothingPending : Trace → Type 0
NothingPending t = pending t ≡ []

-- a memory with these bytes from this place on
abbrev pub replaced : List ℕ → ℕ → List ℕ → List ℕ
replaced memory at bytes = take at memory ++ (bytes ++ drop (at + length bytes) memory)

-- a memory with these ranges laid over it, from the end of the list to its front
abbrev pub laid_over : List ℕ → List Range → List ℕ
laid_over memory [] = memory
laid_over memory (r ∷ rs) = replaced (laid_over memory rs) r.at r.bytes

-- the base; at a cut its image; at a sync the settled bytes before it, with the ranges stored since laid over in order
abbrev pub settled : Trace → List ℕ
settled (Start base) = base
settled (t ▷ Store at bytes) = settled t
settled (t ▷ Sync) = laid_over (settled t) (pending t)
settled (t ▷ Missed) = settled t
settled (t ▷ Put bytes) = settled t
settled (t ▷ Arm n keep fill) = settled t
settled (t ▷ Cut forced image) = image

-- the settled bytes with the pending ranges laid over, which a sync settles
abbrev pub written : Trace → List ℕ
written t = laid_over (settled t) (pending t)

-- one of the n places from at on
abbrev pub is_within : ℕ → ℕ → ℕ → Bool
is_within at n place = nat_le at place && nat_lt place (at + n)

abbrev pub is_covered : List Range → ℕ → Bool
is_covered [] place = false
is_covered (r ∷ rs) place = is_within r.at (length r.bytes) place || is_covered rs place

-- what the memory may hold: the settled bytes, but any bytes in the ranges that are pending
pub record IsImage (t : Trace) (image : List ℕ) : Type 0 where
  pub size : length image ≡ memory_size
  pub same : (place : ℕ) → place < memory_size → is_covered (pending t) place ≡ false → slice_index image place ≡ slice_index (settled t) place

-- alike but for the n places from at on
pub record SameOutside (at n : ℕ) (old new : List ℕ) : Type 0 where
  pub size : length new ≡ length old
  pub same : (place : ℕ) → place < length old → is_within at n place ≡ false → slice_index new place ≡ slice_index old place
