-- A run in which no fault rose: each line was answered, or one was refused.
use Rattle.std.proofs.Common.{◌≡◌, inl, inr, refl}
use Rattle.run_engine.specs.declared.Ended.{Ended}
use Rattle.run_engine.specs.declared.Ended.TheVariants.{Done, Line, Memory, Read, Write, Unformatted, Foreign}
use Rattle.run_engine.specs.Outcome.{IsDoneOrRefused}

pub completes : (ended : Ended) → ¬ (ended ≡ Read) → ¬ (ended ≡ Write) → ¬ (ended ≡ Memory) → ((byte : _) → ¬ (ended ≡ Unformatted byte)) → ((at : _) → ¬ (ended ≡ Foreign at)) → IsDoneOrRefused ended
completes Done no_read no_write no_memory formatted known = inl refl
completes (Line n kind) no_read no_write no_memory formatted known = inr (n, kind, refl)
completes Read no_read no_write no_memory formatted known = absurd (no_read refl)
completes Write no_read no_write no_memory formatted known = absurd (no_write refl)
completes Memory no_read no_write no_memory formatted known = absurd (no_memory refl)
completes (Unformatted byte) no_read no_write no_memory formatted known = absurd (formatted byte refl)
completes (Foreign at) no_read no_write no_memory formatted known = absurd (known at refl)
