-- What the answer to a line leads to: the next line, or the end of the run.
use Rattle.std.proofs.Common.{◌≡◌, ℕ, ◌+◌, false, List, None, Some, Result, Ok, Err, sym, ap, ◌∙◌, subst, arith}
use Rattle.metering_model.specs.Events as events
use Rattle.integral_model.specs.Integral.{TakesEvent}
use Rattle.metering_model.specs.Records as records
use Rattle.metering_model.specs.Settings.{Settings}
use Rattle.script_model.specs.Grammar as grammar
use Rattle.script_model.specs.Grammar.{Metering, Power, Opt, Mbus}
use Rattle.trace_model.specs.Trace as entries
use Rattle.trace_model.specs.Trace.{Put, Trace, ◌▷◌}
use Rattle.trace_model.specs.Images.{IsImage}
use Rattle.config_model.specs.Configuration.{Configuration}
use Rattle.meter_board.specs.Puts.{PutsFront}
use Rattle.meter_board.specs.declared.refusal.Refusal.TheVariants.{Failed, Cut}
use Rattle.answer_model.specs.Faults.{Run, event_fault}
use Rattle.answer_model.specs.Texts.{armed_text, ok_text}
use Rattle.answer_model.proofs.Texts.{IsPrintable}
use Rattle.pairing_model.specs.Settings.{settings_for}
use Rattle.billing_memory.specs.Records.{record_view}
use Rattle.meter_config.specs.Views.{config_view, settings_of}
use Rattle.meter_core.specs.declared.meter.Meter.{Meter}
use Rattle.event_script.specs.declared.LineFault.{LineFault}
use Rattle.event_script.specs.Views.{fault_view}
use Rattle.optical_readout.specs.Heard.{Heard}
use Rattle.optical_readout.specs.declared.head.Optical.{Optical}
use Rattle.mbus_records.specs.declared.slave.Slave.{Slave}
use Rattle.register_store.specs.declared.side.Side.{Side}
use Rattle.register_store.specs.Recovered.{side_view}
use Rattle.run_engine.specs.declared.Ended.TheVariants.{Line, Memory, Write}
use Rattle.run_engine.specs.declared.stop.Halt.{Halt}
use Rattle.run_engine.specs.declared.stop.OrderFault.{OrderFault}
use Rattle.run_engine.specs.Stops.{ended_by, ended_halted, stop_of_order}
use Rattle.run_engine.specs.declared.station.Station.{Station}
use Rattle.run_engine.specs.Progress.{Point, ProgressOnMemory, Readiness, NextOrOutcome, next_point, station_point}
use Rattle.run_engine.specs.OutcomeOnMemory.{OutcomeOnMemory}
use Rattle.run_engine.specs.Shows.{ShowsOnBus, ShowsReply}
use Rattle.run_engine.specs.Steps.{HoldGives, OrderGives, RestartGives}
use Rattle.event_script.specs.Next.{IsFirst, SaysAt}
use Rattle.event_script.proofs.Says.{decides}
use Rattle.run_engine.specs.EventVerdict.{TakenLine}
use Rattle.run_engine.proofs.Nothing.{few_litres, settings_same}
use Rattle.run_engine.proofs.Readouts.{bytes_end, bytes_go_on, message_ends, message_goes_on, head_journal}
use Rattle.run_engine.proofs.Progress.{next_journal, printable}
use Rattle.run_engine.proofs.PowerFailures.{event_restarts, order_ends, ordered, power_failed, power_restarts}
use Rattle.run_engine.proofs.ProgressOnMemory.{event_held, event_unshown, memory_failed, refused_on}

module _ {c : Configuration} {o : records.MeterRecord} {script rest : List ℕ} {n : ℕ} {station : Station} {reads : List ℕ} {t : Trace} (ready : Readiness c o script rest n station reads t) {line after : List ℕ} (first : IsFirst rest line after) (is : c ≡ config_view station.meter.config) where
  abbrev r : records.MeterRecord
  r = record_view station.meter.record

  abbrev at : Point
  at = station_point script rest n ready.journal station t

  module _ (event : events.Event) (says : SaysAt n line (Metering event)) where
    pub event_refused : (kind : LineFault) → event_fault r event ≡ Some (fault_view kind) → OutcomeOnMemory c o script t (Line (n + 1) kind)
    event_refused kind fault = refused_on ready.progress first kind (decides says Run r ∙ fault)

    module _ (meter : Meter) (same : meter.config ≡ station.meter.config) (no_fault : event_fault r event ≡ None) (takes : TakesEvent (settings_of station.meter.config) r event (record_view meter.record)) where
      settings : settings_of station.meter.config ≡ settings_for c
      settings = settings_same station.meter.config ∙ ap settings_for (sym is)

      line_takes : TakenLine Run (settings_for c) n r line (record_view meter.record)
      line_takes = record { event = event; taken = decides says Run r ∙ no_fault; says = says.says; takes = subst (λ s. TakesEvent s r event (record_view meter.record)) settings takes }

      text : ok_text (settings_of meter.config) (record_view meter.record) ≡ ok_text (settings_for c) (record_view meter.record)
      text = ap (λ (s : Settings). ok_text s (record_view meter.record)) (ap settings_of same ∙ settings)

      can_print : IsPrintable (settings_for c) (record_view meter.record)
      can_print = subst (λ (k : Configuration). IsPrintable (settings_for k) (record_view meter.record)) (sym is) (printable (settings_for (config_view station.meter.config)) meter.record (few_litres station.meter.config.per_pulse station.meter.config.per_pulse_in_range))

      -- where the memory failed
      pub hold_stops : (u : Trace) (reads' : List ℕ) → HoldGives c (side_view station.side) r (record_view meter.record) t (Err Failed) u reads' → OutcomeOnMemory c o script u Memory
      hold_stops u reads' gives =
          memory_failed ready.progress first line_takes (omega (arith, station.meter.record.seq_in_range)) can_print u gives

      -- where the power failed, and the station was started anew
      pub cut_leads : (u : Trace) (reads' : List ℕ) → HoldGives c (side_view station.side) r (record_view meter.record) t (Err Cut) u reads' → IsImage u reads' → {T : Type 0} (restarted : Station) (t' : Trace) (reads'' : List ℕ) (result : Result T Halt)
          → reads'' ≡ reads' → IsImage t' reads'' → RestartGives reads' u restarted t' result → NextOrOutcome c o script after (n + 1) restarted reads'' t' ended_halted result
      cut_leads u reads' gives of restarted t' reads'' result same of' told =
          event_restarts ready.progress first line_takes (omega (arith, station.meter.record.seq_in_range)) can_print u reads' gives.0 gives.1 restarted t' reads'' result of same of' told

      module _ (u : Trace) (reads' : List ℕ) (turned : Side) (held : HoldGives c (side_view station.side) r (record_view meter.record) t (Ok turned) u reads') (t' : Trace) (after_reads : List ℕ) (same_reads : after_reads ≡ reads') (of : IsImage t' after_reads) where
        -- where the record was held on this side, and then its line went out
        pub show_leads : t' ≡ u ▷ Put (ok_text (settings_of meter.config) (record_view meter.record)) → Readiness c o script after (n + 1) (record station { meter = meter; side = turned }) after_reads t'
        show_leads shows = record {
          config = is ∙ ap config_view (sym same);
          journal = next_journal ready.progress.progress first line_takes;
          progress = subst (ProgressOnMemory c o (next_point at after (next_journal ready.progress.progress first line_takes) (record_view meter.record) t') (side_view turned)) (sym same_reads)
              (subst (λ (v : Trace). ProgressOnMemory c o (next_point at after (next_journal ready.progress.progress first line_takes) (record_view meter.record) v) (side_view turned) reads') (sym shows)
              (event_held ready.progress first line_takes (omega (arith, station.meter.record.seq_in_range)) can_print u reads' turned held _ text
              (subst (λ (v : Trace). IsImage v reads') shows (subst (IsImage t') same_reads of))));
          head = ready.head;
          bus = ready.bus;
        }

        -- or not whole
        pub show_stops : PutsFront u (ok_text (settings_of meter.config) (record_view meter.record)) t' → OutcomeOnMemory c o script t' Write
        show_stops shows =
            event_unshown ready.progress first line_takes (omega (arith, station.meter.record.seq_in_range)) can_print u reads' turned held _ text t' shows

  module _ (t' : Trace) (reads' : List ℕ) (same : reads' ≡ reads) (of : IsImage t' reads') where
    pub message_leads : {T E : Type 0} (message : List ℕ) (optical : Optical) (result : Result T E) → SaysAt n line (Opt message) → Heard (config_view station.meter.config) (Some message) optical
        → ShowsReply (config_view station.meter.config) r ready.journal.last_message message t result t' → NextOrOutcome c o script after (n + 1) (record station { optical = optical }) reads' t' (λ e. Write) result
    message_leads {T} {E} message optical (Ok u) says heard shows = record {
      config = is;
      journal = head_journal ready.progress first (omega (arith, station.meter.record.seq_in_range)) message says;
      progress = message_goes_on ready.progress first (omega (arith, station.meter.record.seq_in_range)) message says u t' reads'
          (subst (λ (k : Configuration). ShowsReply k r ready.journal.last_message message {E = E} t (Ok u) t') (sym is) shows) same of;
      head = subst (λ (k : Configuration). Heard k (Some message) optical) (sym is) heard;
      bus = ready.bus;
    }
    message_leads {T} {E} message optical (Err e) says heard shows =
        message_ends ready.progress first (omega (arith, station.meter.record.seq_in_range)) message says {T = T} t' e
        (subst (λ (k : Configuration). ShowsReply k r ready.journal.last_message message {T = T} t (Err e) t') (sym is) shows)

    pub bytes_lead : {T E : Type 0} (bytes : List ℕ) (slave : Slave) (result : Result T E) → SaysAt n line (Mbus bytes)
        → ShowsOnBus (config_view station.meter.config) r ready.journal.frames bytes slave t result t' → NextOrOutcome c o script after (n + 1) (record station { slave = slave }) reads' t' (λ e. Write) result
    bytes_lead {T} {E} bytes slave (Ok u) says shows =
        let on = bytes_go_on ready.progress first (omega (arith, station.meter.record.seq_in_range)) bytes says u slave t' reads'
        (subst (λ (k : Configuration). ShowsOnBus k r ready.journal.frames bytes slave {E = E} t (Ok u) t') (sym is) shows) same of in
        record { config = is; journal = on.journal; progress = on.progress; head = subst (λ last. Heard c last station.optical) (sym on.head) ready.head; bus = on.bus }
    bytes_lead {T} {E} bytes slave (Err e) says shows =
        bytes_end ready.progress first (omega (arith, station.meter.record.seq_in_range)) bytes says {T = T} slave t' e
        (subst (λ (k : Configuration). ShowsOnBus k r ready.journal.frames bytes slave {T = T} t (Err e) t') (sym is) shows)

    -- the order of a cut
    pub order_leads : (k keep fill : ℕ) → SaysAt n line (grammar.Cut k keep fill) → t' ≡ t ▷ entries.Arm k keep fill ▷ Put armed_text → Readiness c o script after (n + 1) station reads' t'
    order_leads k keep fill says gives = record {
      config = is;
      journal = ready.journal;
      progress = ordered ready.progress first (omega (arith, station.meter.record.seq_in_range)) k keep fill says t' reads' gives same of;
      head = ready.head;
      bus = ready.bus;
    }

    pub order_stops : (k keep fill : ℕ) (fault : OrderFault) → SaysAt n line (grammar.Cut k keep fill) → OrderGives {T = Unit {0}} k keep fill t (Err fault) t' → OutcomeOnMemory c o script t' (ended_by (n + 1) (stop_of_order fault))
    order_stops k keep fill fault says gives = order_ends ready.progress first (omega (arith, station.meter.record.seq_in_range)) k keep fill says (Unit {0}) t' fault gives

  -- a power failure of its own: none came, as the memory failed
  pub power_stops : SaysAt n line Power → OutcomeOnMemory c o script t Memory
  power_stops says = power_failed ready.progress first (omega (arith, station.meter.record.seq_in_range)) says

  -- or it came, and the station was started anew
  pub power_leads : SaysAt n line Power → (reads' : List ℕ) → IsImage (t ▷ entries.Cut false reads') reads' → IsImage t reads' → {T : Type 0} (restarted : Station) (t' : Trace) (reads'' : List ℕ) (result : Result T Halt)
      → reads'' ≡ reads' → IsImage t' reads'' → RestartGives reads' (t ▷ entries.Cut false reads') restarted t' result → NextOrOutcome c o script after (n + 1) restarted reads'' t' ended_halted result
  power_leads says reads' of before restarted t' reads'' result same of' told =
      power_restarts ready.progress first (omega (arith, station.meter.record.seq_in_range)) says reads' of before restarted t' reads'' result same of' told
