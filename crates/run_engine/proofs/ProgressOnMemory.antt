-- How a run over a memory goes on, and how it ends.
use Rattle.std.proofs.Common.{◌≡◌, inl, inr, ℕ, ◌+◌, ◌^◌, ◌≤◌, ◌<◌, List, [], length, Some, Ok, refl, sym, ap, ◌∙◌, subst, arith}
use Rattle.metering_model.specs.Records.{MeterRecord}
use Rattle.script_model.specs.Lines.{lines_of}
use Rattle.script_model.specs.Grammar.{Metering}
use Rattle.trace_model.specs.Trace.{Entry, Put, Trace, Start, ◌▷◌, IsFresh, base_of}
use Rattle.trace_model.specs.Images.{IsImage}
use Rattle.trace_model.specs.Moments.{IsPrefix, Leaves}
use Rattle.trace_model.proofs.Images.{one_image}
use Rattle.config_model.specs.Configuration.{Configuration}
use Rattle.memory_model.specs.Stored.{Side, Holds}
use Rattle.answer_model.specs.Faults.{Run, fault_of}
use Rattle.answer_model.specs.Texts.{ok_text}
use Rattle.answer_model.proofs.Texts.{IsPrintable}
use Rattle.pairing_model.specs.Settings.{settings_for}
use Rattle.pairing_model.specs.Setup.{on_memory}
use Rattle.pairing_model.specs.Journal.{Journal, at_start}
use Rattle.recovery_model.specs.Shown.{number_shown}
use Rattle.recovery_model.proofs.Shown.{number_shown-ok_text}
use Rattle.meter_board.specs.Puts.{PutsFront}
use Rattle.event_script.specs.declared.LineFault.{LineFault}
use Rattle.event_script.specs.Views.{fault_view}
use Rattle.register_store.specs.Commits as commits
use Rattle.register_store.specs.Commits.{EndsCut, HoldsEither, other}
use Rattle.register_store.specs.declared.side.Side as sides
use Rattle.register_store.specs.Recovered.{side_view}
use Rattle.register_store.proofs.MemoryAlone.{MemoryStretch}
use Rattle.event_script.specs.Next.{IsFirst}
use Rattle.run_engine.specs.declared.Ended.TheVariants.{Done, Line, Memory, Write}
use Rattle.run_engine.specs.Progress.{Point, ProgressOnMemory, first_point, next_point}
use Rattle.run_engine.specs.Outcome.{FailsIn, Outcome}
use Rattle.run_engine.specs.OutcomeOnMemory.{IsSound, OutcomeOnMemory}
use Rattle.run_engine.specs.Steps.{Commits, HoldGives}
use Rattle.run_engine.specs.EventVerdict.{TakenLine}
use Rattle.run_engine.proofs.Nothing.{stands_nothing}
use Rattle.run_engine.proofs.Progress.{Answered, Reached, done, event_answered, memory_stops, next_journal, next_taken, refused}
use Rattle.run_engine.proofs.OnMemory.{progress_held, commit_sound, cut_reached, cut_within, kept_right, new_right, reached, stretch, uncut}
use Rattle.run_engine.proofs.GoesOut.{IsHeldFor, progress_next, put_failed}

module _ (c : Configuration) (o : MeterRecord) (script : List ℕ) where
  -- before the first line
  start : (base reads : List ℕ) (side : Side) → IsImage (Start base) reads → commits.StandsFor (Holds c o side) reads → length o.months ≤ 24 → o.seq < 10 ^ 64 → ProgressOnMemory c o (first_point script o (Start base)) side reads
  start base reads side of holds few small = record {
    progress = record { pairs = refl; fits = tt; count = refl; nothing = refl; behind = refl; in_force = stands_nothing (settings_for c) o few };
    settled = refl;
    possible = of;
    holds = holds;
    sound = λ p is. subst (IsSound c o (lines_of script)) (sym is) at_first;
  } where
    at_first : IsSound c o (lines_of script) (Start base)
    at_first = record {
      right = λ image of'. kept_right c o script (Start base) image at_start o side refl tt small (subst (commits.StandsFor (Holds c o side)) (one_image (Start base) reads image refl of of') holds) (stands_nothing (settings_for c) o few);
      held_before = tt;
      frugal = record { stores = omega arith; syncs = omega arith };
    }

  pub started : (t : Trace) (reads : List ℕ) (side : Side) → IsFresh t → IsImage t reads → commits.StandsFor (Holds c o side) reads → length o.months ≤ 24 → o.seq < 10 ^ 64 → ProgressOnMemory c o (first_point script o t) side reads
  started t reads side fresh of holds few small =
      subst (λ (u : Trace). ProgressOnMemory c o (first_point script o u) side reads) (sym fresh) (start (base_of t) reads side (subst (λ (u : Trace). IsImage u reads) fresh of) holds few small)

module _ {c : Configuration} {o : MeterRecord} {at : Point} {side : Side} {reads : List ℕ} (b : ProgressOnMemory c o at side reads) where
  pub done_on : at.rest ≡ [] → OutcomeOnMemory c o at.script at.trace Done
  done_on empty = record { ran = done b.progress empty; sound = b.sound; held = progress_held b }

  module _ {line after : List ℕ} (first : IsFirst at.rest line after) where
    pub refused_on : (kind : LineFault) → fault_of Run at.in_force at.answered line ≡ Some (fault_view kind) → OutcomeOnMemory c o at.script at.trace (Line (at.answered + 1) kind)
    refused_on kind fault = record {
      ran = refused b.progress first kind fault;
      sound = b.sound;
      held = progress_held b;
    }

    -- ---- the next line is an event

    module _ {new : MeterRecord} (takes : TakenLine Run (settings_for c) at.answered at.in_force line new) (old_small : at.in_force.seq < 10 ^ 64) (printable : IsPrintable (settings_for c) new) where
      pub sound_to : (cuts : ℕ) (u : Trace) → Commits c side at.in_force new cuts at.trace u → (p : Trace) → IsPrefix p u → IsSound c o (lines_of at.script) p
      sound_to = commit_sound b first takes old_small printable.seq

      abbrev pub entries_of : (cuts : ℕ) (u : Trace) → Commits c side at.in_force new cuts at.trace u → MemoryStretch (Leaves (HoldsEither c side at.in_force new)) at.trace u
      entries_of = stretch b first takes old_small printable.seq

      stops : (u : Trace) (es : List Entry) → Reached at.trace u es → FailsIn (Metering takes.event) es → Outcome (on_memory c) o at.script u Memory
      stops u es came fails =
          memory_stops b.progress first (Metering takes.event) takes.says (next_taken b.progress first takes) u came.outputs
          (subst (FailsIn (Metering takes.event)) (sym came.segment) fails)

      pub memory_failed : (u : Trace) → Commits c side at.in_force new 0 at.trace u → OutcomeOnMemory c o at.script u Memory
      memory_failed u commit = record {
        ran = stops u (entries_of 0 u commit).entries (reached b first takes old_small printable.seq u commit)
            (inl (uncut b first takes old_small printable.seq u commit));
        sound = sound_to 0 u commit;
        held = tt;
      }

      -- after a cut the record could not be recovered
      pub cut_stops : (u : Trace) (reads' : List ℕ) → Commits c side at.in_force new 1 at.trace u → EndsCut (HoldsEither c side at.in_force new) u reads' → OutcomeOnMemory c o at.script u Memory
      cut_stops u reads' commit ends = record {
        ran = stops u (entries_of 1 u commit).entries (cut_reached b first takes old_small printable.seq u commit)
            (inr (cut_within b first takes old_small printable.seq u reads' commit ends));
        sound = sound_to 1 u commit;
        held = tt;
      }

      -- the memory holds the new record, and then its line goes out
      module _ (u : Trace) (reads' : List ℕ) (turned : sides.Side) (gives : HoldGives c side at.in_force new at.trace (Ok turned) u reads') (text : List ℕ) (is : text ≡ ok_text (settings_for c) new) where
        abbrev entries : List Entry
        entries = (stretch b first takes old_small printable.seq 0 u gives.0.commits).entries

        abbrev later : Journal
        later = next_journal b.progress first takes

        answered : Answered (on_memory c) o at line entries text later new
        answered = event_answered b.progress first takes entries text
            (uncut b first takes old_small printable.seq u gives.0.commits) is printable

        held_for : IsHeldFor c o at u text new (other side)
        held_for = record {
          sound = sound_to 0 u gives.0.commits;
          settled = gives.0.settled;
          holds = gives.0.holds;
          right = new_right b first takes old_small printable.seq;
          shows = inl (ap number_shown is ∙ number_shown-ok_text (settings_for c) new printable.seq);
          small = printable.seq;
        }

        pub event_held : IsImage (u ▷ Put text) reads' → ProgressOnMemory c o (next_point at after (next_journal b.progress first takes) new (u ▷ Put text)) (side_view turned) reads'
        event_held of = subst (λ (s : Side). ProgressOnMemory c o (next_point at after later new (u ▷ Put text)) s reads') (sym gives.2)
            (progress_next b.progress first answered
            (reached b first takes old_small printable.seq u gives.0.commits) held_for reads' gives.1 of)

        pub event_unshown : (v : Trace) → PutsFront u text v → OutcomeOnMemory c o at.script v Write
        event_unshown = put_failed b.progress first answered
            (reached b first takes old_small printable.seq u gives.0.commits) held_for
