-- When the answer to a line goes out over a memory that holds its record.
use Rattle.std.proofs.Common.{◌≡◌, ◌⊎◌, inl, inr, ℕ, cond, ◌^◌, ◌<◌, false, List, [], ◌∷◌, ◌++◌, take, Some, sym, ap, ◌∙◌, subst, arith}
use Rattle.std.specs.Prelude.{count_by}
use Rattle.std.proofs.lemmas.Bool.{both_ways}
use Rattle.std.proofs.lemmas.List.Sums.{sum_by-append}
use Rattle.metering_model.specs.Records.{MeterRecord}
use Rattle.script_model.specs.Lines.{lines_of}
use Rattle.trace_model.specs.Trace.{Entry, Put, Trace, ◌▷◌}
use Rattle.trace_model.specs.Images.{IsImage, NothingPending}
use Rattle.trace_model.specs.Output.{ends_line, output_lines, open_segment}
use Rattle.trace_model.specs.Moments.{IsPrefix, Leaves}
use Rattle.trace_model.proofs.Images.{before_put}
use Rattle.trace_model.proofs.Lines.{open_segment-piece, output_lines-piece}
use Rattle.trace_model.proofs.Moments.{IsPrefix-self}
use Rattle.config_model.specs.Configuration.{Configuration}
use Rattle.memory_model.specs.Stored.{Side, Holds}
use Rattle.pairing_model.specs.Setup.{on_memory}
use Rattle.pairing_model.specs.Journal.{Journal}
use Rattle.answer_model.specs.Texts.{armed_text}
use Rattle.recovery_model.specs.Shown.{number_shown}
use Rattle.recovery_model.specs.Right.{IsRight}
use Rattle.meter_board.specs.Puts.{PutsFront}
use Rattle.register_store.specs.Commits as commits
use Rattle.register_store.specs.Works.{is_store, is_sync}
use Rattle.event_script.specs.Next.{IsFirst}
use Rattle.run_engine.specs.declared.Ended.TheVariants.{Write}
use Rattle.run_engine.specs.Progress.{Point, ProgressOnMemory, Progress, next_point}
use Rattle.run_engine.specs.OutcomeOnMemory.{IsSound, OutcomeOnMemory}
use Rattle.run_engine.proofs.Progress.{Answered, Reached, failed, goes_on}
use Rattle.run_engine.proofs.OnMemory.{kept_right}

-- The next line has this answer, for which the trace went on to u. All was sound so far, each image holds the
-- record that the answer shows, and so the memory is right until the answer is out.
pub record IsHeldFor (c : Configuration) (o : MeterRecord) (at : Point) (u : Trace) (text : List ℕ) (new : MeterRecord) (side : Side) : Type 0 where
  pub sound : (p : Trace) → IsPrefix p u → IsSound c o (lines_of at.script) p
  pub settled : NothingPending u
  pub holds : Leaves (commits.StandsFor (Holds c new side)) u
  pub right : (p : Trace) (image : List ℕ) → output_lines p ≡ output_lines at.trace → commits.StandsFor (Holds c new side) image → IsRight c o (lines_of at.script) p image
  pub shows : (number_shown text ≡ Some new.seq) ⊎ (text ≡ armed_text)
  pub small : new.seq < 10 ^ 64

module _ {c : Configuration} {o : MeterRecord} {at : Point} (g : Progress (on_memory c) o at) {line after : List ℕ} (first : IsFirst at.rest line after)
    {u : Trace} {es : List Entry} {text : List ℕ} {later : Journal} {new : MeterRecord} (a : Answered (on_memory c) o at line es text later new) (reached : Reached at.trace u es) {side : Side} (h : IsHeldFor c o at u text new side) where
  progress : Progress (on_memory c) o (next_point at after later new (u ▷ Put text))
  progress = goes_on g first a reached

  -- all of it
  line_sound : IsSound c o (lines_of at.script) (u ▷ Put text)
  line_sound = record {
    right = λ image of. kept_right c o at.script (u ▷ Put text) image later new side progress.pairs progress.fits h.small (h.holds image (before_put u text image of)) progress.in_force;
    held_before = λ ends image of. record {
      all = record { journal = later; pairs = progress.pairs; held = new; side = side; holds = h.holds image of; stands = progress.in_force };
      shows = h.shows;
    };
    frugal = record { stores = omega (arith, ap (count_by is_store) progress.nothing); syncs = omega (arith, ap (count_by is_sync) progress.nothing) };
  }

  -- a front of it, which is no line
  part_sound : (piece : List ℕ) → ends_line piece ≡ false → IsSound c o (lines_of at.script) (u ▷ Put piece)
  part_sound piece part =
      let segment : open_segment (u ▷ Put piece) ≡ es ++ Put piece ∷ [] = open_segment-piece u piece part ∙ ap (λ (l : List Entry). l ++ Put piece ∷ []) reached.segment in
      let before = (h.sound u (IsPrefix-self u)).frugal in
      record {
        right = λ image of. h.right (u ▷ Put piece) image (output_lines-piece u piece part ∙ reached.outputs) (h.holds image (before_put u piece image of));
        held_before = λ ends. absurd (both_ways (ends_line piece) part ends);
        frugal = record {
          stores = omega (arith, before.stores, ap (count_by is_store) reached.segment, ap (count_by is_store) segment, sum_by-append (λ (x : Entry). cond (is_store x) 1 0) es (Put piece ∷ []));
          syncs = omega (arith, before.syncs, ap (count_by is_sync) reached.segment, ap (count_by is_sync) segment, sum_by-append (λ (x : Entry). cond (is_sync x) 1 0) es (Put piece ∷ []));
        };
      }

  sound_line : (p : Trace) → IsPrefix p (u ▷ Put text) → IsSound c o (lines_of at.script) p
  sound_line p (inl last) = subst (IsSound c o (lines_of at.script)) (sym last) line_sound
  sound_line p (inr earlier) = h.sound p earlier

  sound_front : (count : ℕ) → (take count text ≡ text) ⊎ (ends_line (take count text) ≡ false) → (p : Trace) → IsPrefix p (u ▷ Put (take count text)) → IsSound c o (lines_of at.script) p
  sound_front count (inl whole) p before = sound_line p (subst (λ (piece : List ℕ). IsPrefix p (u ▷ Put piece)) whole before)
  sound_front count (inr part) p (inl last) = subst (IsSound c o (lines_of at.script)) (sym last) (part_sound (take count text) part)
  sound_front count (inr part) p (inr earlier) = h.sound p earlier

  pub progress_next : (reads : List ℕ) → commits.StandsFor (Holds c new side) reads → IsImage (u ▷ Put text) reads → ProgressOnMemory c o (next_point at after later new (u ▷ Put text)) side reads
  progress_next reads holds of = record { progress = progress; settled = h.settled; possible = of; holds = holds; sound = sound_line }

  pub put_failed : (v : Trace) → PutsFront u text v → OutcomeOnMemory c o at.script v Write
  put_failed v puts = record { ran = failed g first a reached v puts; sound = by_front puts; held = tt } where
    by_front : PutsFront u text v → (p : Trace) → IsPrefix p v → IsSound c o (lines_of at.script) p
    by_front (inl none) p before = h.sound p (subst (IsPrefix p) none before)
    by_front (inr piece) p before = sound_front piece.0 (a.one_line.whole_or_part piece.0) p (subst (IsPrefix p) piece.2 before)
