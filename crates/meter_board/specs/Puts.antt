-- What a put adds to the trace.
use Rattle.std.specs.Prelude.{◌≡◌, ◌≤◌, ◌⊎◌, ℕ, List, length, take, Result, MatchResult}
use Rattle.trace_model.specs.Trace.{Trace, Put, ◌▷◌}

-- a front of the bytes went out, which may be all of them, or nothing
abbrev pub PutsFront : Trace → List ℕ → Trace → Type 0
PutsFront t bytes t' = (t' ≡ t) ⊎ ((n : ℕ) × (n ≤ length bytes) × (t' ≡ t ▷ Put (take n bytes)))

-- all the bytes, or a front of them where it fails
abbrev pub PutGives : {T E : Type 0} → Trace → List ℕ → Result T E → Trace → Type 0
PutGives t bytes result t' = MatchResult result (λ _. t' ≡ t ▷ Put bytes) (λ _. PutsFront t bytes t')
