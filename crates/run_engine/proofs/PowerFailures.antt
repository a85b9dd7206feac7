-- A run goes on after a power failure, from what the memory holds then.
use Rattle.std.proofs.Common.{◌≡◌, ◌⊎◌, inl, inr, ℕ, ◌+◌, ◌^◌, ◌<◌, cond, false, List, [], ◌∷◌, ◌++◌, None, Result, Ok, Err, refl, sym, ap, ◌∙◌, subst, arith}
use Rattle.std.specs.Prelude.{count_by}
use Rattle.std.proofs.lemmas.Bool.{both_ways}
use Rattle.std.proofs.lemmas.List.{append-nil}
use Rattle.metering_model.specs.Events.{Kept}
use Rattle.metering_model.specs.Settings.{Settings}
use Rattle.metering_model.specs.Records.{MeterRecord, StandsFor}
use Rattle.integral_model.specs.Integral.{AllFitClosely}
use Rattle.script_model.specs.Lines.{lines_of}
use Rattle.script_model.specs.Grammar as grammar
use Rattle.script_model.specs.Grammar.{Metering, Power}
use Rattle.trace_model.specs.Trace.{Entry, Put, Arm, Cut, Trace, ◌▷◌}
use Rattle.trace_model.specs.Images.{IsImage, NothingPending}
use Rattle.trace_model.specs.Output.{OutputLine, bytes_put, is_output_line, output_lines, open_segment}
use Rattle.trace_model.specs.Moments.{IsPrefix, Leaves}
use Rattle.trace_model.proofs.Images.{one_image}
use Rattle.config_model.specs.Configuration.{Configuration}
use Rattle.answer_model.specs.Faults.{Run, fault_of}
use Rattle.answer_model.specs.Texts.{armed_text, power_text}
use Rattle.answer_model.proofs.Texts.{IsPrintable, one_line-armed_text, one_line-power_text}
use Rattle.memory_model.specs.Stored as model
use Rattle.memory_model.specs.Stored.{Side, Holds, stored}
use Rattle.pairing_model.specs.Settings.{settings_for}
use Rattle.pairing_model.specs.Setup.{on_memory}
use Rattle.pairing_model.specs.Journal.{at_start, in_force, started}
use Rattle.pairing_model.specs.Pairing.{Answers, IsCutWork, IsEvent, Pairs}
use Rattle.recovery_model.proofs.Shown.{number_shown-power_text}
use Rattle.recovery_model.specs.Right.{IsRight}
use Rattle.billing_memory.specs.Records.{record_view}
use Rattle.meter_config.specs.Views.{config_view, settings_of}
use Rattle.meter_board.specs.Puts.{PutsFront}
use Rattle.register_store.specs.Commits as commits
use Rattle.register_store.specs.Commits.{EndsCut, HoldsEither, other}
use Rattle.register_store.specs.declared.side.Side as sides
use Rattle.register_store.specs.Recovered.{side_view}
use Rattle.register_store.specs.Works.{is_store, is_sync}
use Rattle.event_script.specs.Next.{IsFirst, SaysAt}
use Rattle.event_script.proofs.Says.{decides}
use Rattle.register_store.specs.declared.unreadable.Unreadable.TheVariants as reasons
use Rattle.run_engine.specs.declared.Ended.TheVariants.{Memory, Write}
use Rattle.run_engine.specs.declared.stop.Halt.{Halt}
use Rattle.run_engine.specs.declared.stop.Halt.TheVariants as halts
use Rattle.run_engine.specs.declared.stop.OrderFault.{OrderFault}
use Rattle.run_engine.specs.declared.stop.OrderFault.TheVariants as orders
use Rattle.run_engine.specs.Stops.{ended_by, ended_halted, stop_of_order}
use Rattle.run_engine.specs.declared.station.Station.{Station}
use Rattle.run_engine.specs.Progress.{Point, ProgressOnMemory, Progress, Readiness, NextOrOutcome, next_point, station_point}
use Rattle.run_engine.specs.OutcomeOnMemory.{IsSound, OutcomeOnMemory}
use Rattle.run_engine.specs.Steps.{Commits, IsRestarted, OrderGives, RestartGives, restart_text}
use Rattle.run_engine.specs.EventVerdict.{TakenLine}
use Rattle.run_engine.proofs.Nothing.{few_litres, settings_same}
use Rattle.run_engine.proofs.Progress.{Answered, Reached, memory_stops, next_fits, next_kept, next_stands, next_taken, printable}
use Rattle.run_engine.proofs.OnMemory.{cut_reached, cut_within, kept_right, new_right}
use Rattle.run_engine.proofs.GoesOut.{IsHeldFor, progress_next, put_failed}
use Rattle.run_engine.proofs.ProgressOnMemory.{cut_stops, entries_of, sound_to}

same_config : (c d : Configuration) (r s : MeterRecord) (a b : Side) → Holds c r a ≡ Holds d s b → c ≡ d
same_config c d r s a b e = cc

same_record : (c d : Configuration) (r s : MeterRecord) (a b : Side) → Holds c r a ≡ Holds d s b → r ≡ s
same_record c d r s a b e = cc

same_side : (c d : Configuration) (r s : MeterRecord) (a b : Side) → Holds c r a ≡ Holds d s b → a ≡ b
same_side c d r s a b e = cc

held_is_marked : (m : model.Stored) (byte : ℕ) (c : Configuration) (r : MeterRecord) (side : Side) → m ≡ model.Unformatted byte → m ≡ Holds c r side → ⊥
held_is_marked m byte c r side is holds = differ byte c r side (sym is ∙ holds) where
  differ : (b : ℕ) (d : Configuration) (s : MeterRecord) (a : Side) → model.Unformatted b ≡ Holds d s a → ⊥
  differ b d s a e = cc

held_is_known : (m : model.Stored) (at : ℕ) (c : Configuration) (r : MeterRecord) (side : Side) → m ≡ model.Foreign at → m ≡ Holds c r side → ⊥
held_is_known m at c r side is holds = differ at c r side (sym is ∙ holds) where
  differ : (b : ℕ) (d : Configuration) (s : MeterRecord) (a : Side) → model.Foreign b ≡ Holds d s a → ⊥
  differ b d s a e = cc

-- a station on the side that was recovered
pub on_side : (c : Configuration) (r : MeterRecord) (side turned : sides.Side) (reads now : List ℕ) → stored reads ≡ Holds c r (side_view side) → turned ≡ side → now ≡ reads → commits.StandsOn (side_view turned) now
on_side c r side turned reads now holds is same = record { config = c; held = r; is = ap stored same ∙ holds ∙ ap (λ (s : sides.Side). Holds c r (side_view s)) (sym is) }

-- what the bytes hold: this configuration with some record
pub record HoldsSome (c : Configuration) (reads : List ℕ) : Type 0 where
  pub held : MeterRecord
  pub side : Side
  pub is : stored reads ≡ Holds c held side

module _ {c : Configuration} {o : MeterRecord} {at : Point} (g : Progress (on_memory c) o at) {line after : List ℕ} (first : IsFirst at.rest line after) where
  -- A station that was restarted from what the memory reads: the line has its `power` line as its answer, from then on this
  -- is the journal, and the record in force is the station's.
  pub record Found (es : List Entry) (station : Station) : Type 0 where
    pub kept : List Kept
    pub interrupted : ℕ
    pub config : c ≡ config_view station.meter.config
    pub answer : Answers (on_memory c) o at.answered at.journal line (record { segment = es; text = restart_text station }) (started kept interrupted)
    pub fits : AllFitClosely (settings_for c) o kept
    pub in_force : StandsFor (settings_for c) o kept (record_view station.meter.record)
    pub right : (p : Trace) (image : List ℕ) → output_lines p ≡ output_lines at.trace → commits.StandsFor (Holds c (record_view station.meter.record) (side_view station.side)) image → IsRight c o (lines_of at.script) p image

  -- the power failed, and the trace went on to u for it
  module _ (u : Trace) (es : List Entry) (reached : Reached at.trace u es) (sound : (p : Trace) → IsPrefix p u → IsSound c o (lines_of at.script) p) (settled : NothingPending u) (reads : List ℕ) (of : IsImage u reads) (stops : OutcomeOnMemory c o at.script u Memory) (some : HoldsSome c reads)
      (station : Station) (found : IsRestarted (stored reads) station → Found es station) where
    module _ (restarted : IsRestarted (stored reads) station) where
      abbrev f : Found es station
      f = found restarted

      can_print : IsPrintable (settings_of station.meter.config) (record_view station.meter.record)
      can_print = printable (settings_of station.meter.config) station.meter.record (few_litres station.meter.config.per_pulse station.meter.config.per_pulse_in_range)

      answered : Answered (on_memory c) o at line es (restart_text station) (started f.kept f.interrupted) (record_view station.meter.record)
      answered = record { answer = f.answer; fits = f.fits; in_force = f.in_force; one_line = one_line-power_text (settings_of station.meter.config) (record_view station.meter.record) can_print }

      holds : commits.StandsFor (Holds c (record_view station.meter.record) (side_view station.side)) reads
      holds = subst (λ (k : Configuration). stored reads ≡ Holds k (record_view station.meter.record) (side_view station.side)) (sym f.config) restarted.holds

      held_for : IsHeldFor c o at u (restart_text station) (record_view station.meter.record) (side_view station.side)
      held_for = record {
        sound = sound;
        settled = settled;
        holds = λ image of'. subst (commits.StandsFor (Holds c (record_view station.meter.record) (side_view station.side))) (one_image u reads image settled of of') holds;
        right = f.right;
        shows = inl (number_shown-power_text (settings_of station.meter.config) (record_view station.meter.record) can_print.seq);
        small = can_print.seq;
      }

      told_on : (t' : Trace) (reads' : List ℕ) → t' ≡ u ▷ Put (restart_text station) → reads' ≡ reads → IsImage t' reads' → Readiness c o at.script after (at.answered + 1) station reads' t'
      told_on t' reads' grown same of' = record {
        config = f.config;
        journal = started f.kept f.interrupted;
        progress = subst (λ (v : Trace). ProgressOnMemory c o (station_point at.script after (at.answered + 1) (started f.kept f.interrupted) station v) (side_view station.side) reads') (sym grown)
            (progress_next g first answered reached held_for reads'
            (subst (commits.StandsFor (Holds c (record_view station.meter.record) (side_view station.side))) (sym same) holds) (subst (λ (v : Trace). IsImage v reads') grown of'));
        head = restarted.head c;
        bus = restarted.bus c;
      }

      untold : (v : Trace) → PutsFront u (restart_text station) v → OutcomeOnMemory c o at.script v Write
      untold = put_failed g first answered reached held_for

    pub restart_leads : {T : Type 0} (t' : Trace) (reads' : List ℕ) (result : Result T Halt) → reads' ≡ reads → IsImage t' reads' → RestartGives reads u station t' result → NextOrOutcome c o at.script after (at.answered + 1) station reads' t' ended_halted result
    restart_leads t' reads' (Ok x) same of' gives = told_on gives.0 t' reads' gives.1 same of'
    restart_leads t' reads' (Err halts.Write) same of' gives = untold gives.0 t' gives.1
    restart_leads t' reads' (Err (halts.Unread reasons.Memory)) same of' gives = subst (λ (v : Trace). OutcomeOnMemory c o at.script v Memory) (sym gives.0) stops
    restart_leads t' reads' (Err (halts.Unread (reasons.Unformatted byte))) same of' gives = absurd (held_is_marked (stored reads) byte c some.held some.side gives.1 some.is)
    restart_leads t' reads' (Err (halts.Unread (reasons.Foreign place))) same of' gives = absurd (held_is_known (stored reads) place c some.held some.side gives.1 some.is)

-- the text tells the record in force
told_text : (c : Configuration) (o : MeterRecord) (station : Station) (kept : List Kept) (interrupted : ℕ) → c ≡ config_view station.meter.config → StandsFor (settings_for c) o kept (record_view station.meter.record) → restart_text station ≡ power_text (settings_for c) (in_force (on_memory c) o (started kept interrupted))
told_text c o station kept interrupted config stands =
    ap (λ (k : Settings). power_text k (record_view station.meter.record)) (settings_same station.meter.config ∙ ap settings_for (sym config)) ∙ ap (power_text (settings_for c)) stands.is

module _ {c : Configuration} {o : MeterRecord} {at : Point} {side : Side} {reads : List ℕ} (b : ProgressOnMemory c o at side reads) {line after : List ℕ} (first : IsFirst at.rest line after) where
  same_pairs : (p : Trace) → output_lines p ≡ output_lines at.trace → Pairs (on_memory c) o 0 at_start (lines_of at.script) (output_lines p) at.journal
  same_pairs p same = subst (λ (outputs : List OutputLine). Pairs (on_memory c) o 0 at_start (lines_of at.script) outputs at.journal) (sym same) b.progress.pairs

  -- the record in force is right as long as no line goes out
  r_right : at.in_force.seq < 10 ^ 64 → (s : Side) (p : Trace) (image : List ℕ) → output_lines p ≡ output_lines at.trace → commits.StandsFor (Holds c at.in_force s) image → IsRight c o (lines_of at.script) p image
  r_right small s p image same holds = kept_right c o at.script p image at.journal at.in_force s (same_pairs p same) b.progress.fits small holds b.progress.in_force

  -- ---- the power failed while the memory came to hold an event

  module _ {new : MeterRecord} (takes : TakenLine Run (settings_for c) at.answered at.in_force line new) (old_small : at.in_force.seq < 10 ^ 64) (can_print : IsPrintable (settings_for c) new) (u : Trace) (reads' : List ℕ) (commit : Commits c side at.in_force new 1 at.trace u) (ends : EndsCut (HoldsEither c side at.in_force new) u reads') (station : Station) where
    abbrev entries : List Entry
    entries = (entries_of b first takes old_small can_print 1 u commit).entries

    within : IsCutWork entries
    within = cut_within b first takes old_small can_print.seq u reads' commit ends

    settled : NothingPending u
    settled = subst NothingPending (sym ends.last) refl

    some : HoldsEither c side at.in_force new reads' → HoldsSome c reads'
    some (inl holds) = record { held = at.in_force; side = side; is = holds }
    some (inr holds) = record { held = new; side = other side; is = holds }

    interrupted_answer : (held : List Kept) → (held ≡ []) ⊎ IsEvent takes.event held → c ≡ config_view station.meter.config → StandsFor (settings_for c) o (at.journal.kept ++ held) (record_view station.meter.record)
        → Answers (on_memory c) o at.answered at.journal line (record { segment = entries; text = restart_text station }) (started (at.journal.kept ++ held) (at.journal.interrupted + 1))
    interrupted_answer held either config stands = record {
      taken = next_taken b.progress first takes;
      said = Metering takes.event;
      says = takes.says;
      reply = inr (record {
        held = held;
        either = either;
        restarts = record { starts = refl; shows = told_text c o station (at.journal.kept ++ held) (at.journal.interrupted + 1) config stands };
        cut = within;
      });
    }

    -- without the event
    found_old : stored reads' ≡ Holds c at.in_force side → IsRestarted (stored reads') station → Found b.progress first entries station
    found_old holds restarted =
        let all : Holds c at.in_force side ≡ Holds (config_view station.meter.config) (record_view station.meter.record) (side_view station.side) = sym holds ∙ restarted.holds in
        let is : at.in_force ≡ record_view station.meter.record = same_record c _ at.in_force _ side _ all in
        let config : c ≡ config_view station.meter.config = same_config c _ at.in_force _ side _ all in
        let stands : StandsFor (settings_for c) o (at.journal.kept ++ []) (record_view station.meter.record) = subst (λ (ks : List Kept). StandsFor (settings_for c) o ks (record_view station.meter.record)) (sym (append-nil at.journal.kept)) (subst (StandsFor (settings_for c) o at.journal.kept) is b.progress.in_force) in
        record {
          kept = at.journal.kept ++ [];
          interrupted = at.journal.interrupted + 1;
          config = config;
          answer = interrupted_answer [] (inl refl) config stands;
          fits = subst (AllFitClosely (settings_for c) o) (sym (append-nil at.journal.kept)) b.progress.fits;
          in_force = stands;
          right = λ p image same held. r_right old_small (side_view station.side) p image same (subst (λ (m : MeterRecord). commits.StandsFor (Holds c m (side_view station.side)) image) (sym is) held);
        }

    -- with it
    found_new : stored reads' ≡ Holds c new (other side) → IsRestarted (stored reads') station → Found b.progress first entries station
    found_new holds restarted =
        let all : Holds c new (other side) ≡ Holds (config_view station.meter.config) (record_view station.meter.record) (side_view station.side) = sym holds ∙ restarted.holds in
        let is : new ≡ record_view station.meter.record = same_record c _ new _ (other side) _ all in
        let on : other side ≡ side_view station.side = same_side c _ new _ (other side) _ all in
        let config : c ≡ config_view station.meter.config = same_config c _ new _ (other side) _ all in
        let one : List Kept = next_kept b.progress first takes ∷ [] in
        let stands : StandsFor (settings_for c) o (at.journal.kept ++ one) (record_view station.meter.record) = subst (StandsFor (settings_for c) o (at.journal.kept ++ one)) is (next_stands b.progress first takes) in
        record {
          kept = at.journal.kept ++ one;
          interrupted = at.journal.interrupted + 1;
          config = config;
          answer = interrupted_answer one (inr (record { energy_mj = takes.takes.energy_mj; bound_mj = takes.takes.bound_mj; is = refl })) config stands;
          fits = next_fits b.progress first takes;
          in_force = stands;
          right = λ p image same held. new_right b first takes old_small can_print.seq p image same
              (subst (λ (m : MeterRecord). commits.StandsFor (Holds c m (other side)) image) (sym is) (subst (λ (s : Side). commits.StandsFor (Holds c (record_view station.meter.record) s) image) (sym on) held));
        }

    found : HoldsEither c side at.in_force new reads' → IsRestarted (stored reads') station → Found b.progress first entries station
    found (inl holds) restarted = found_old holds restarted
    found (inr holds) restarted = found_new holds restarted

    pub event_restarts : {T : Type 0} (t' : Trace) (reads'' : List ℕ) (result : Result T Halt) → IsImage u reads' → reads'' ≡ reads' → IsImage t' reads'' → RestartGives reads' u station t' result → NextOrOutcome c o at.script after (at.answered + 1) station reads'' t' ended_halted result
    event_restarts t' reads'' result of same of' gives =
        restart_leads b.progress first u entries (cut_reached b first takes old_small can_print.seq u commit)
        (sound_to b first takes old_small can_print 1 u commit) settled reads' of (cut_stops b first takes old_small can_print u reads' commit ends)
        (some ends.image) station (found ends.image) t' reads'' result same of' gives

  -- ---- an entry for which the memory holds what it held

  module _ (small : at.in_force.seq < 10 ^ 64) (e : Entry) (no_line : is_output_line e ≡ false) (no_store : count_by is_store (e ∷ []) ≡ 0) (no_sync : count_by is_sync (e ∷ []) ≡ 0) (reads' : List ℕ) (settled : NothingPending (at.trace ▷ e)) (of : IsImage (at.trace ▷ e) reads') (holds : commits.StandsFor (Holds c at.in_force side) reads') where
    lines_same : output_lines (at.trace ▷ e) ≡ output_lines at.trace
    lines_same = ap (λ k. cond k (output_lines at.trace ++ record { segment = open_segment at.trace; text = bytes_put e } ∷ []) (output_lines at.trace)) no_line

    segment_is : open_segment (at.trace ▷ e) ≡ e ∷ []
    segment_is = ap (λ k. cond k [] (open_segment at.trace ++ e ∷ [])) no_line ∙ ap (λ (l : List Entry). l ++ e ∷ []) b.progress.nothing

    quiet_reached : Reached at.trace (at.trace ▷ e) (e ∷ [])
    quiet_reached = record { outputs = lines_same; segment = segment_is }

    quiet_holds : Leaves (commits.StandsFor (Holds c at.in_force side)) (at.trace ▷ e)
    quiet_holds image of' = subst (commits.StandsFor (Holds c at.in_force side)) (one_image (at.trace ▷ e) reads' image settled of of') holds

    quiet_sound : IsSound c o (lines_of at.script) (at.trace ▷ e)
    quiet_sound = record {
      right = λ image of'. r_right small side (at.trace ▷ e) image lines_same (quiet_holds image of');
      held_before = λ ends. absurd (both_ways (is_output_line e) no_line ends);
      frugal = record { stores = omega (arith, ap (count_by is_store) segment_is, no_store); syncs = omega (arith, ap (count_by is_sync) segment_is, no_sync) };
    }

    all_sound : (p : Trace) → IsPrefix p (at.trace ▷ e) → IsSound c o (lines_of at.script) p
    all_sound p (inl last) = subst (IsSound c o (lines_of at.script)) (sym last) quiet_sound
    all_sound p (inr earlier) = b.sound p earlier

  -- ---- the power fails by itself

  module _ (small : at.in_force.seq < 10 ^ 64) (says : SaysAt at.answered line Power) where
    power_taken : fault_of Run (in_force (on_memory c) o at.journal) at.answered line ≡ None
    power_taken = decides says Run (in_force (on_memory c) o at.journal)

    -- it did not fail, as the memory did
    pub power_failed : OutcomeOnMemory c o at.script at.trace Memory
    power_failed = record {
      ran = memory_stops b.progress first Power says.says power_taken at.trace refl (inl b.progress.nothing);
      sound = b.sound;
      held = tt;
    }

    module _ (reads' : List ℕ) (of : IsImage (at.trace ▷ Cut false reads') reads') (before : IsImage at.trace reads') (station : Station) where
      still_holds : commits.StandsFor (Holds c at.in_force side) reads'
      still_holds = subst (commits.StandsFor (Holds c at.in_force side)) (one_image at.trace reads reads' b.settled b.possible before) b.holds

      found_same : IsRestarted (stored reads') station → Found b.progress first (Cut false reads' ∷ []) station
      found_same restarted =
          let all : Holds c at.in_force side ≡ Holds (config_view station.meter.config) (record_view station.meter.record) (side_view station.side) = sym still_holds ∙ restarted.holds in
          let is : at.in_force ≡ record_view station.meter.record = same_record c _ at.in_force _ side _ all in
          let config : c ≡ config_view station.meter.config = same_config c _ at.in_force _ side _ all in
          let stands : StandsFor (settings_for c) o at.journal.kept (record_view station.meter.record) = subst (StandsFor (settings_for c) o at.journal.kept) is b.progress.in_force in
          record {
            kept = at.journal.kept;
            interrupted = at.journal.interrupted;
            config = config;
            answer = record {
              taken = power_taken;
              said = Power;
              says = says.says;
              reply = record {
                restarts = record { starts = refl; shows = told_text c o station at.journal.kept at.journal.interrupted config stands };
                cut = record { image = reads'; is = refl };
              };
            };
            fits = b.progress.fits;
            in_force = stands;
            right = λ p image same held. r_right small (side_view station.side) p image same (subst (λ (m : MeterRecord). commits.StandsFor (Holds c m (side_view station.side)) image) (sym is) held);
          }

      power_sound : (p : Trace) → IsPrefix p (at.trace ▷ Cut false reads') → IsSound c o (lines_of at.script) p
      power_sound = all_sound small (Cut false reads') refl refl refl reads' refl of still_holds

      power_at : Reached at.trace (at.trace ▷ Cut false reads') (Cut false reads' ∷ [])
      power_at = quiet_reached small (Cut false reads') refl refl refl reads' refl of still_holds

      unrecovered : OutcomeOnMemory c o at.script (at.trace ▷ Cut false reads') Memory
      unrecovered = record {
        ran = memory_stops b.progress first Power says.says power_taken (at.trace ▷ Cut false reads') power_at.outputs (inr (record { image = reads'; is = power_at.segment }));
        sound = power_sound;
        held = tt;
      }

      pub power_restarts : {T : Type 0} (t' : Trace) (reads'' : List ℕ) (result : Result T Halt) → reads'' ≡ reads' → IsImage t' reads'' → RestartGives reads' (at.trace ▷ Cut false reads') station t' result → NextOrOutcome c o at.script after (at.answered + 1) station reads'' t' ended_halted result
      power_restarts t' reads'' result same of' gives =
          restart_leads b.progress first (at.trace ▷ Cut false reads') (Cut false reads' ∷ []) power_at power_sound refl reads' of unrecovered (record { held = at.in_force; side = side; is = still_holds }) station found_same t' reads'' result same of' gives

  -- ---- a cut is ordered

  module _ (small : at.in_force.seq < 10 ^ 64) (k keep fill : ℕ) (says : SaysAt at.answered line (grammar.Cut k keep fill)) where
    order_taken : fault_of Run (in_force (on_memory c) o at.journal) at.answered line ≡ None
    order_taken = decides says Run (in_force (on_memory c) o at.journal)

    order_answered : Answered (on_memory c) o at line (Arm k keep fill ∷ []) armed_text at.journal at.in_force
    order_answered = record {
      answer = record { taken = order_taken; said = grammar.Cut k keep fill; says = says.says; reply = record { stays = refl; says = refl; ordered = refl } };
      fits = b.progress.fits;
      in_force = b.progress.in_force;
      one_line = one_line-armed_text;
    }

    after_order : IsImage (at.trace ▷ Arm k keep fill) reads
    after_order = record { size = b.possible.size; same = b.possible.same }

    order_at : Reached at.trace (at.trace ▷ Arm k keep fill) (Arm k keep fill ∷ [])
    order_at = quiet_reached small (Arm k keep fill) refl refl refl reads b.settled after_order b.holds

    order_held : IsHeldFor c o at (at.trace ▷ Arm k keep fill) armed_text at.in_force side
    order_held = record {
      sound = all_sound small (Arm k keep fill) refl refl refl reads b.settled after_order b.holds;
      settled = b.settled;
      holds = quiet_holds small (Arm k keep fill) refl refl refl reads b.settled after_order b.holds;
      right = r_right small side;
      shows = inr refl;
      small = small;
    }

    pub ordered : (t' : Trace) (reads' : List ℕ) → t' ≡ at.trace ▷ Arm k keep fill ▷ Put armed_text → reads' ≡ reads → IsImage t' reads' → ProgressOnMemory c o (next_point at after at.journal at.in_force t') side reads'
    ordered t' reads' grown same of = subst (λ (v : Trace). ProgressOnMemory c o (next_point at after at.journal at.in_force v) side reads') (sym grown)
        (progress_next b.progress first order_answered order_at order_held reads'
        (subst (commits.StandsFor (Holds c at.in_force side)) (sym same) b.holds) (subst (λ (v : Trace). IsImage v reads') grown of))

    pub order_ends : (T : Type 0) (t' : Trace) (fault : OrderFault) → OrderGives {T = T} k keep fill at.trace (Err fault) t' → OutcomeOnMemory c o at.script t' (ended_by (at.answered + 1) (stop_of_order fault))
    order_ends T t' orders.Write gives = put_failed b.progress first order_answered order_at order_held t' gives
    order_ends T t' orders.Memory gives = subst (λ (v : Trace). OutcomeOnMemory c o at.script v Memory) (sym gives) (record {
      ran = memory_stops b.progress first (grammar.Cut k keep fill) says.says order_taken at.trace refl b.progress.nothing;
      sound = b.sound;
      held = tt;
    })
