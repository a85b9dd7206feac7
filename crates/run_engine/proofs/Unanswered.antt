-- A run that answered no line, and one that must be done.
use Rattle.std.proofs.Common.{◌≡◌, inl, inr, ℕ, List, [], Err, refl, sym, ap, subst, arith}
use Rattle.metering_model.specs.Records.{MeterRecord}
use Rattle.script_model.specs.Lines.{lines_of}
use Rattle.trace_model.specs.Trace.{Trace, IsFresh}
use Rattle.trace_model.specs.Images.{IsImage}
use Rattle.trace_model.specs.Output.{open_segment, output_lines}
use Rattle.trace_model.specs.Moments.{Leaves}
use Rattle.config_model.specs.Configuration.{Configuration}
use Rattle.memory_model.specs.Stored as model
use Rattle.memory_model.specs.Stored.{Side, Stored, Holds, stored}
use Rattle.pairing_model.specs.Setup.{on_memory}
use Rattle.pairing_model.specs.Journal.{at_start}
use Rattle.recovery_model.specs.Right.{HoldsKept}
use Rattle.recovery_model.proofs.Held.{IsHeld, held_record}
use Rattle.register_store.specs.Commits as commits
use Rattle.register_store.specs.Recovered.{RecoverGives}
use Rattle.register_store.specs.declared.unreadable.Unreadable.{Unreadable}
use Rattle.register_store.specs.declared.unreadable.Unreadable.TheVariants as reasons
use Rattle.run_engine.specs.declared.Ended.{Ended}
use Rattle.run_engine.specs.declared.Ended.TheVariants.{Memory, Read, Write, Unformatted, Foreign}
use Rattle.run_engine.specs.Progress.{ProgressOnMemory, first_point}
use Rattle.run_engine.specs.Outcome.{EndsAt, IsDoneOrRefused, Outcome}
use Rattle.run_engine.specs.OutcomeOnMemory.{EndsHeld, OutcomeOnMemory, OutcomeByMemory}
use Rattle.run_engine.specs.Stops.{ended_unread}
use Rattle.run_engine.proofs.Complete.{completes}
use Rattle.run_engine.proofs.Progress.{ran_to}
use Rattle.run_engine.proofs.OnMemory.{progress_held}
use Rattle.run_engine.proofs.ProgressOnMemory.{started}

-- no line was answered
module _ (c : Configuration) (o : MeterRecord) (script : List ℕ) (t : Trace) (reads : List ℕ) (side : Side) (fresh : IsFresh t) (of : IsImage t reads) (holds : commits.StandsFor (Holds c o side) reads) (is : IsHeld o) where
  nothing_yet : ProgressOnMemory c o (first_point script o t) side reads
  nothing_yet = started c o script t reads side fresh of holds is.months (omega (arith, is.seq))

  unanswered : (ended : Ended) → EndsAt (on_memory c) o (lines_of script) (output_lines t) (open_segment t) at_start ended → EndsHeld c o (lines_of script) t ended → OutcomeOnMemory c o script t ended
  unanswered ended ends held = record { ran = ran_to (on_memory c) o script at_start t ended nothing_yet.progress.pairs nothing_yet.progress.fits ends; sound = nothing_yet.sound; held = held }

  no_lines : output_lines t ≡ []
  no_lines = ap output_lines fresh

  all_held : Leaves (HoldsKept c o (lines_of script) t) t
  all_held = progress_held nothing_yet

  pub unloaded : OutcomeOnMemory c o script t Memory
  unloaded = unanswered Memory (inl (no_lines, nothing_yet.progress.nothing)) tt

-- a memory that could not be read
module _ (reads script : List ℕ) (t : Trace) (fresh : IsFresh t) (of : IsImage t reads) where
  memory_failed : (memory : Stored) → memory ≡ stored reads → OutcomeByMemory memory script t Memory
  memory_failed (model.Unformatted byte) is = (inr refl, fresh)
  memory_failed (model.Foreign at) is = (inr refl, fresh)
  memory_failed (Holds c o side) is = unloaded c o script t reads side fresh of (sym is) (held_record reads c o side (sym is))

  pub unread_leaves : (fault : Unreadable) → RecoverGives (Err fault) reads → OutcomeByMemory (stored reads) script t (ended_unread fault)
  unread_leaves (reasons.Unformatted byte) gives = subst (λ m. OutcomeByMemory m script t (Unformatted byte)) (sym gives) (inl refl, fresh)
  unread_leaves (reasons.Foreign at) gives = subst (λ m. OutcomeByMemory m script t (Foreign at)) (sym gives) (inl refl, fresh)
  unread_leaves reasons.Memory gives = memory_failed (stored reads) refl

-- over a memory that held a configuration and a record
module _ (memory : Stored) (c : Configuration) (o : MeterRecord) (side : Side) (script : List ℕ) (t : Trace) (ended : Ended) (is : memory ≡ Holds c o side) (leaves : OutcomeByMemory memory script t ended) where
  ran : Outcome (on_memory c) o script t ended
  ran = (subst (λ m. OutcomeByMemory m script t ended) is leaves).ran

  pub never_unformatted : (byte : ℕ) → ¬ (ended ≡ Unformatted byte)
  never_unformatted byte e = subst (EndsAt (on_memory c) o (lines_of script) (output_lines t) (open_segment t) ran.journal) e ran.ends

  pub never_foreign : (at : ℕ) → ¬ (ended ≡ Foreign at)
  never_foreign at e = subst (EndsAt (on_memory c) o (lines_of script) (output_lines t) (open_segment t) ran.journal) e ran.ends

  pub complete_from : ¬ (ended ≡ Read) → ¬ (ended ≡ Write) → ¬ (ended ≡ Memory) → IsDoneOrRefused ended
  complete_from no_read no_write no_memory = completes ended no_read no_write no_memory never_unformatted never_foreign
