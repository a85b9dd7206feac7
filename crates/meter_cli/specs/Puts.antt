-- Lines that are put, one by one.
use Rattle.std.specs.Prelude.{◌≡◌, ◌⊎◌, ℕ, List, [], ◌∷◌}
use Rattle.trace_model.specs.Trace.{Trace, Put, ◌▷◌}
use Rattle.meter_board.specs.Puts.{PutsFront}
use Rattle.meter_cli.specs.declared.status.Status.{Status}
use Rattle.meter_cli.specs.declared.status.Status.TheVariants.{Done, Write}

-- At Done each line went out whole, by one put each, in order. At Write some did, and then a front of the next line or
-- nothing. There is no other status.
abbrev pub PutsLines : List (List ℕ) → Trace → Trace → Status → Type 0
PutsLines [] old new status = (status ≡ Done) × (new ≡ old)
PutsLines (line ∷ lines) old new status = PutsLines lines (old ▷ Put line) new status ⊎ ((status ≡ Write) × PutsFront old line new)

-- so it is with one line
abbrev pub PutsLine : List ℕ → Trace → Trace → Status → Type 0
PutsLine line = PutsLines (line ∷ [])
