-- How a run ends where the script does, at a line that is refused whatever the record in force, or at a read that failed.
use Rattle.std.proofs.Common.{◌≡◌, inl, inr, ℕ, ◌+◌, true, List, [], ◌++◌, length, ◌∙◌, sym, ap, subst, arith, length-append}
use Rattle.std.proofs.lemmas.List.{nil_from_length}
use Rattle.metering_model.specs.Records.{MeterRecord}
use Rattle.script_model.specs.Lines.{after_lines, lines_of}
use Rattle.trace_model.specs.Trace.{Trace}
use Rattle.trace_model.specs.Output.{output_lines}
use Rattle.trace_model.specs.Moments.{Leaves}
use Rattle.recovery_model.specs.Right.{HoldsKept}
use Rattle.config_model.specs.Configuration.{Configuration}
use Rattle.answer_model.specs.Faults.{is_open}
use Rattle.memory_model.specs.Stored.{Side}
use Rattle.pairing_model.specs.Setup.{Setup}
use Rattle.run_engine.specs.declared.Ended.{Ended}
use Rattle.run_engine.specs.declared.Ended.TheVariants.{Done, Line, Read}
use Rattle.run_engine.specs.declared.station.Station.{Station}
use Rattle.run_engine.specs.Progress.{Point, ProgressOnMemory, Progress, Readiness, SomeProgress}
use Rattle.run_engine.specs.Outcome.{Outcome, StopsAtRead}
use Rattle.run_engine.specs.Reads.{IsOver, StopsReading}
use Rattle.run_engine.specs.OutcomeOnMemory.{EndsHeld, OutcomeOnMemory}
use Rattle.run_engine.proofs.OnMemory.{progress_held}
use Rattle.run_engine.proofs.Stops.{stop_not_read}
use Rattle.run_engine.proofs.Progress.{done, ran_to, refused}

module _ {s : Setup} {o : MeterRecord} {at : Point} (g : Progress s o at) where
  pub stops : (left : List ℕ) (ended : Ended) → StopsReading at.answered at.rest left ended → Outcome s o at.script at.trace ended
  stops left ended (inl h) = subst (Outcome s o at.script at.trace) (sym h.0) (done g h.1)
  stops left ended (inr (inl h)) = subst (Outcome s o at.script at.trace) (sym h.1) (refused g h.2.first h.0 (h.2.why s.command at.in_force))
  stops left ended (inr (inr h)) = subst (Outcome s o at.script at.trace) (sym h.0) (ran_to s o at.script at.journal at.trace Read g.pairs g.fits g.nothing)

  -- where a read failed
  pub delivered : (left : List ℕ) (ended : Ended) → ended ≡ Read → StopsReading at.answered at.rest left ended → StopsAtRead at.script left (length (output_lines at.trace))
  delivered left ended is (inl h) = absurd (let same : Done ≡ Read = sym h.0 ∙ is in cc)
  delivered left ended is (inr (inl h)) = absurd (let same : Line (at.answered + 1) h.0 ≡ Read = sym h.1 ∙ is in cc)
  delivered left ended is (inr (inr h)) = record {
    front = h.1.front;
    behind = ap (λ k. after_lines k at.script) g.count ∙ g.behind ∙ h.1.bytes;
    undecided = subst (λ k. is_open k h.1.front ≡ true) (sym g.count) h.1.undecided;
  }

module _ {c : Configuration} {o : MeterRecord} {at : Point} {side : Side} {reads : List ℕ} (b : ProgressOnMemory c o at side reads) where
  pub stops_on : (left : List ℕ) (ended : Ended) → StopsReading at.answered at.rest left ended → OutcomeOnMemory c o at.script at.trace ended
  stops_on left ended h = record { ran = stops b.progress left ended h; sound = b.sound; held = by_end h } where
    all_held : Leaves (HoldsKept c o (lines_of at.script) at.trace) at.trace
    all_held = progress_held b

    by_end : StopsReading at.answered at.rest left ended → EndsHeld c o (lines_of at.script) at.trace ended
    by_end (inl h) = subst (EndsHeld c o (lines_of at.script) at.trace) (sym h.0) all_held
    by_end (inr (inl h)) = subst (EndsHeld c o (lines_of at.script) at.trace) (sym h.1) all_held
    by_end (inr (inr h)) = subst (EndsHeld c o (lines_of at.script) at.trace) (sym h.0) all_held

-- from how it ended, where all that is ready has some progress
module _ (s : Setup) (o : MeterRecord) (script left : List ℕ) (r : MeterRecord) (t : Trace) (ready : List ℕ → ℕ → Type 0) (progress : (rest : List ℕ) (n : ℕ) → ready rest n → SomeProgress s o script rest n r t) where
  pub over : (ended : Ended) → IsOver ready (Outcome s o script t ended) left ended → Outcome s o script t ended
  over ended (inl answered) = answered.1
  over ended (inr read) = stops (progress read.0 read.1 read.2).1 left ended read.3

  pub stops_at_read : {L : Type 0} (ended : Ended) → ended ≡ Read → IsOver ready L left ended → StopsAtRead script left (length (output_lines t))
  stops_at_read {L} ended is (inl answered) = absurd (stop_not_read answered.0.n answered.0.stop (sym answered.0.is ∙ is))
  stops_at_read {L} ended is (inr read) = delivered (progress read.0 read.1 read.2).1 left ended is read.3

-- over a memory
module _ (c : Configuration) (o : MeterRecord) (script left : List ℕ) (station : Station) (reads : List ℕ) (t : Trace) where
  pub over_on : (ended : Ended) → IsOver (λ rest n. Readiness c o script rest n station reads t) (OutcomeOnMemory c o script t ended) left ended → OutcomeOnMemory c o script t ended
  over_on ended (inl answered) = answered.1
  over_on ended (inr read) = stops_on read.2.progress left ended read.3

-- at the end nothing is left
pub all_read : (held left : List ℕ) → held ++ left ≡ [] → left ≡ []
all_read held left none = nil_from_length left (omega (arith, ap length none, length-append held left))
