-- A run over a memory goes on behind a readout.
use Rattle.std.proofs.Common.{◌≡◌, inl, inr, ℕ, ◌^◌, ◌<◌, List, [], ◌∷◌, ◌++◌, Option, Some, None, Ok, Err, refl, sym, ap, ◌∙◌, subst}
use Rattle.std.specs.Prelude.{option_map}
use Rattle.metering_model.specs.Records.{MeterRecord}
use Rattle.script_model.specs.Lines.{lines_of}
use Rattle.script_model.specs.Grammar.{Opt, Mbus}
use Rattle.trace_model.specs.Trace.{Put, Trace, ◌▷◌}
use Rattle.trace_model.specs.Images.{IsImage}
use Rattle.trace_model.specs.Output.{OutputLine}
use Rattle.trace_model.proofs.Images.{one_image}
use Rattle.config_model.specs.Configuration.{Configuration}
use Rattle.memory_model.specs.Stored.{Side, Holds}
use Rattle.answer_model.specs.Faults.{Run}
use Rattle.answer_model.specs.Texts.{mbus_text, opt_text}
use Rattle.answer_model.proofs.Texts.{one_line-mbus_text, one_line-opt_text}
use Rattle.optical_model.specs.Replies as optical
use Rattle.frame_model.specs.Frames.{Frame, Spells, frame_bytes}
use Rattle.slave_model.specs.Replies.{reply_to}
use Rattle.pairing_model.specs.Setup.{on_memory}
use Rattle.pairing_model.specs.Journal.{Journal, at_start, in_force}
use Rattle.pairing_model.specs.Pairing.{Pairs}
use Rattle.recovery_model.specs.Shown.{number_shown}
use Rattle.recovery_model.proofs.Shown.{number_shown-mbus_text, number_shown-opt_text}
use Rattle.meter_board.specs.Puts.{PutsFront}
use Rattle.mbus_records.specs.State.{IsAfter}
use Rattle.mbus_records.specs.declared.slave.Slave.{Slave}
use Rattle.register_store.specs.Commits as commits
use Rattle.run_engine.specs.declared.Ended.TheVariants.{Write}
use Rattle.run_engine.specs.Progress.{Point, ProgressOnMemory, next_point}
use Rattle.run_engine.specs.OutcomeOnMemory.{OutcomeOnMemory}
use Rattle.run_engine.specs.Shows.{RepliesOnBus, ShowsOnBus, ShowsReply}
use Rattle.event_script.specs.Next.{IsFirst, SaysAt}
use Rattle.event_script.proofs.Says.{decides}
use Rattle.run_engine.proofs.Progress.{Answered, Reached, at_once}
use Rattle.run_engine.proofs.OnMemory.{kept_right}
use Rattle.run_engine.proofs.GoesOut.{IsHeldFor, progress_next, put_failed}

module _ {c : Configuration} {o : MeterRecord} {at : Point} {side : Side} {reads : List ℕ} (b : ProgressOnMemory c o at side reads) {line after : List ℕ} (first : IsFirst at.rest line after) (small : at.in_force.seq < 10 ^ 64) where
  -- the journal decides the record in force
  is_in_force : at.in_force ≡ in_force (on_memory c) o at.journal
  is_in_force = b.progress.in_force.is

  held_still : (text : List ℕ) → number_shown text ≡ Some at.in_force.seq → IsHeldFor c o at at.trace text at.in_force side
  held_still text shows = record {
    sound = b.sound;
    settled = b.settled;
    holds = λ image of. subst (commits.StandsFor (Holds c at.in_force side)) (one_image at.trace reads image b.settled b.possible of) b.holds;
    right = λ p image same holds. kept_right c o at.script p image at.journal at.in_force side (subst (λ (outputs : List OutputLine). Pairs (on_memory c) o 0 at_start (lines_of at.script) outputs at.journal) (sym same) b.progress.pairs) b.progress.fits small holds b.progress.in_force;
    shows = inl shows;
    small = small;
  }

  -- a readout changes the journal alone, in what was heard
  module _ (text : List ℕ) (later : Journal) (a : Answered (on_memory c) o at line [] text later at.in_force) (shows : number_shown text ≡ Some at.in_force.seq) where
    still : Reached at.trace at.trace []
    still = at_once at.trace b.progress.nothing

    pub shown_goes_on : (t' : Trace) (reads' : List ℕ) → t' ≡ at.trace ▷ Put text → reads' ≡ reads → IsImage t' reads' → ProgressOnMemory c o (next_point at after later at.in_force t') side reads'
    shown_goes_on t' reads' grown same of =
        subst (λ (u : Trace). ProgressOnMemory c o (next_point at after later at.in_force u) side reads') (sym grown)
        (progress_next b.progress first a still (held_still text shows) reads' (subst (commits.StandsFor (Holds c at.in_force side)) (sym same) b.holds) (subst (λ (u : Trace). IsImage u reads') grown of))

    pub shown_ends : (t' : Trace) → PutsFront at.trace text t' → OutcomeOnMemory c o at.script t' Write
    shown_ends t' gives = put_failed b.progress first a still (held_still text shows) t' gives

  -- ---- a message at the optical head

  module _ (message : List ℕ) (says : SaysAt at.answered line (Opt message)) where
    abbrev pub head_journal : Journal
    head_journal = record at.journal { last_message = Some message }

    message_answered : (reply : Option (List ℕ)) → optical.Replies c at.in_force at.journal.last_message message reply → Answered (on_memory c) o at line [] (opt_text at.in_force reply) head_journal at.in_force
    message_answered reply replies = record {
      answer = record {
        taken = decides says Run (in_force (on_memory c) o at.journal);
        said = Opt message;
        says = says.says;
        reply = record {
          reply = reply;
          replies = subst (λ (m : MeterRecord). optical.Replies c m at.journal.last_message message reply) is_in_force replies;
          hears = refl;
          shows = ap (λ (m : MeterRecord). opt_text m reply) is_in_force;
          still = refl;
        };
      };
      fits = b.progress.fits;
      in_force = b.progress.in_force;
      one_line = one_line-opt_text at.in_force reply small;
    }

    pub message_goes_on : {T E : Type 0} (u : T) (t' : Trace) (reads' : List ℕ) → ShowsReply c at.in_force at.journal.last_message message {E = E} at.trace (Ok u) t' → reads' ≡ reads → IsImage t' reads' → ProgressOnMemory c o (next_point at after head_journal at.in_force t') side reads'
    message_goes_on u t' reads' s same of = shown_goes_on (opt_text at.in_force s.reply) head_journal (message_answered s.reply s.replies) (number_shown-opt_text at.in_force s.reply small) t' reads' s.shown same of

    pub message_ends : {T E : Type 0} (t' : Trace) (e : E) → ShowsReply c at.in_force at.journal.last_message message {T = T} at.trace (Err e) t' → OutcomeOnMemory c o at.script t' Write
    message_ends t' e s = shown_ends (opt_text at.in_force s.reply) head_journal (message_answered s.reply s.replies) (number_shown-opt_text at.in_force s.reply small) t' s.shown

  -- ---- bytes on the bus

  module _ (bytes : List ℕ) (says : SaysAt at.answered line (Mbus bytes)) where
    -- the journal with this frame, which is heard while this record is in force
    abbrev with_frame : Frame → MeterRecord → Journal
    with_frame frame m = record at.journal { frames = at.journal.frames ++ record { frame = frame; in_force = m } ∷ [] }

    frame_answered : (frame : Frame) (reply : Option (List ℕ)) → Spells frame bytes → reply ≡ option_map frame_bytes (reply_to c at.journal.frames (record { frame = frame; in_force = at.in_force }))
        → Answered (on_memory c) o at line [] (mbus_text at.in_force reply) (with_frame frame at.in_force) at.in_force
    frame_answered frame reply spells is = record {
      answer = record {
        taken = decides says Run (in_force (on_memory c) o at.journal);
        said = Mbus bytes;
        says = says.says;
        reply = inl (record {
          frame = frame;
          spells = spells;
          hears = ap (λ (m : MeterRecord). with_frame frame m) is_in_force;
          shows = ap (mbus_text at.in_force) is ∙ ap (λ (m : MeterRecord). mbus_text m (option_map frame_bytes (reply_to c at.journal.frames (record { frame = frame; in_force = m })))) is_in_force;
          still = refl;
        });
      };
      fits = b.progress.fits;
      in_force = b.progress.in_force;
      one_line = one_line-mbus_text at.in_force reply small;
    }

    ignored : (reply : Option (List ℕ)) → ((frame : Frame) → ¬ (Spells frame bytes)) → reply ≡ None → Answered (on_memory c) o at line [] (mbus_text at.in_force reply) at.journal at.in_force
    ignored reply no_frame is = record {
      answer = record {
        taken = decides says Run (in_force (on_memory c) o at.journal);
        said = Mbus bytes;
        says = says.says;
        reply = inr (record { no_frame = no_frame; hears = refl; shows = ap (mbus_text at.in_force) is ∙ ap (λ (m : MeterRecord). mbus_text m None) is_in_force; still = refl });
      };
      fits = b.progress.fits;
      in_force = b.progress.in_force;
      one_line = one_line-mbus_text at.in_force reply small;
    }

    -- the run goes on, and the slave has heard what the journal then tells
    pub record BusGoesOn (new : Slave) (reads' : List ℕ) (t' : Trace) : Type 0 where
      pub journal : Journal
      pub progress : ProgressOnMemory c o (next_point at after journal at.in_force t') side reads'
      pub head : journal.last_message ≡ at.journal.last_message
      pub bus : IsAfter c journal.frames new

    pub bytes_go_on : {T E : Type 0} (u : T) (new : Slave) (t' : Trace) (reads' : List ℕ) → ShowsOnBus c at.in_force at.journal.frames bytes new {E = E} at.trace (Ok u) t' → reads' ≡ reads → IsImage t' reads' → BusGoesOn new reads' t'
    bytes_go_on u new t' reads' s same of = by_cases s.replies where
      by_cases : RepliesOnBus c at.in_force at.journal.frames bytes s.reply new → BusGoesOn new reads' t'
      by_cases (inl f) = record {
        journal = with_frame f.frame at.in_force;
        progress = shown_goes_on (mbus_text at.in_force s.reply) (with_frame f.frame at.in_force) (frame_answered f.frame s.reply f.spells f.reply_is) (number_shown-mbus_text at.in_force s.reply small) t' reads' s.shown same of;
        head = refl;
        bus = f.after;
      }
      by_cases (inr i) = record {
        journal = at.journal;
        progress = shown_goes_on (mbus_text at.in_force s.reply) at.journal (ignored s.reply i.no_frame i.reply_is) (number_shown-mbus_text at.in_force s.reply small) t' reads' s.shown same of;
        head = refl;
        bus = i.after;
      }

    pub bytes_end : {T E : Type 0} (new : Slave) (t' : Trace) (e : E) → ShowsOnBus c at.in_force at.journal.frames bytes new {T = T} at.trace (Err e) t' → OutcomeOnMemory c o at.script t' Write
    bytes_end new t' e s = by_cases s.replies where
      by_cases : RepliesOnBus c at.in_force at.journal.frames bytes s.reply new → OutcomeOnMemory c o at.script t' Write
      by_cases (inl f) = shown_ends (mbus_text at.in_force s.reply) (with_frame f.frame at.in_force) (frame_answered f.frame s.reply f.spells f.reply_is) (number_shown-mbus_text at.in_force s.reply small) t' s.shown
      by_cases (inr i) = shown_ends (mbus_text at.in_force s.reply) at.journal (ignored s.reply i.no_frame i.reply_is) (number_shown-mbus_text at.in_force s.reply small) t' s.shown
