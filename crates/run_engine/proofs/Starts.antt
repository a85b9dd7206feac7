-- A station over a memory that was recovered is ready for the first line.
use Rattle.std.proofs.Common.{◌≡◌, ◌∙◌, ℕ, List, [], None, refl, sym, ap, subst, arith}
use Rattle.trace_model.specs.Trace.{Trace, IsFresh}
use Rattle.trace_model.specs.Images.{IsImage, NothingPending}
use Rattle.config_model.specs.Configuration.{Configuration}
use Rattle.memory_model.specs.Stored.{Holds, stored}
use Rattle.pairing_model.specs.Journal.{at_start}
use Rattle.billing_memory.specs.declared.meter_record.MeterRecord.{MeterRecord}
use Rattle.billing_memory.specs.Records.{record_view}
use Rattle.meter_config.specs.declared.config.Config.{Config}
use Rattle.meter_config.specs.Views.{config_view}
use Rattle.meter_core.specs.declared.meter.Meter.{Meter}
use Rattle.optical_readout.specs.Heard.{Heard}
use Rattle.mbus_records.specs.State.{IsAfter}
use Rattle.register_store.specs.declared.side.Side.{Side}
use Rattle.register_store.specs.Commits.{StandsOn}
use Rattle.register_store.specs.Recovered.{side_view}
use Rattle.run_engine.specs.declared.station.Station.{Station}
use Rattle.run_engine.specs.Progress.{ProgressOnMemory, Readiness, first_point}
use Rattle.run_engine.proofs.Nothing.{few_months}
use Rattle.run_engine.proofs.ProgressOnMemory.{started}

module _ (config : Config) (opening : MeterRecord) (side : Side) (meter : Meter) (station : Station) (reads : List ℕ) (t : Trace)
    (is_config : meter.config ≡ config) (is_opening : meter.record ≡ opening) (is_meter : station.meter ≡ meter) (is_side : station.side ≡ side)
    (fresh : IsFresh t) (holds : stored reads ≡ Holds (config_view config) (record_view opening) (side_view side)) where
  pub station_ready : (script : List ℕ) → ((c : Configuration) → Heard c None station.optical) → ((c : Configuration) → IsAfter c [] station.slave) → IsImage t reads → Readiness (config_view config) (record_view opening) script script 0 station reads t
  station_ready script head bus possible = record {
    config = sym (ap (λ (m : Meter). config_view m.config) is_meter ∙ ap config_view is_config);
    journal = at_start;
    progress = subst (λ m. ProgressOnMemory (config_view config) (record_view opening) (first_point script (record_view m) t) (side_view station.side) reads) (sym (ap (λ (m : Meter). m.record) is_meter ∙ is_opening))
        (subst (λ s. ProgressOnMemory (config_view config) (record_view opening) (first_point script (record_view opening) t) (side_view s) reads) (sym is_side)
        (started (config_view config) (record_view opening) script t reads (side_view side) fresh possible holds (few_months opening) (omega (arith, opening.seq_in_range))));
    head = head (config_view config);
    bus = bus (config_view config);
  }

  pub station_settled : NothingPending t × StandsOn (side_view station.side) reads
  station_settled = (subst NothingPending (sym fresh) refl, subst (λ s. StandsOn (side_view s) reads) (sym is_side) (record { config = config_view config; held = record_view opening; is = holds }))
