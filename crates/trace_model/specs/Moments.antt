-- The moments of a trace: each front of it is what had happened at some moment.
use Rattle.std.specs.Prelude.{◌≡◌, ◌⊎◌, List, ℕ}
use Rattle.trace_model.specs.Trace.{Entry, Trace, Start, ◌▷◌}
use Rattle.trace_model.specs.Images.{IsImage}

-- p is a front of the trace, or all of it
abbrev pub IsPrefix : Trace → Trace → Type 0
IsPrefix p (Start base) = p ≡ Start base
IsPrefix p (t ▷ e) = (p ≡ t ▷ e) ⊎ IsPrefix p t

-- the trace grew from old to this, and P holds at each moment after old
pub data Grew (P : Trace → Type 0) (old : Trace) : Trace → Type 0 where
  same : Grew P old old
  more : {t : Trace} {e : Entry} → Grew P old t → P (t ▷ e) → Grew P old (t ▷ e)

-- each image that is possible then has Q
abbrev pub Leaves : (List ℕ → Type 0) → Trace → Type 0
Leaves Q t = (image : List ℕ) → IsImage t image → Q image
