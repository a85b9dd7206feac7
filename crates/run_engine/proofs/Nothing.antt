-- Where no event was kept, the record that stands is the opening one; and the settings are those of the configuration.
use Rattle.std.proofs.Common.{◌≡◌, ℕ, ◌+◌, ◌-◌, ◌≤◌, pos, ◌+ℤ◌, List, [], ◌++◌, length, drop, true, refl, sym, ap, ◌∙◌, arith}
use Rattle.std.proofs.lemmas.Bool.Decides.{nat_tests}
use Rattle.std.proofs.lemmas.List.{append-nil, length-map}
use Rattle.std.proofs.Math.IntN.{+ℤ_idr}
use Rattle.calendar_model.specs.Entries.{latest}
use Rattle.metering_model.specs.Settings.{Settings}
use Rattle.metering_model.specs.Records.{StandsFor, record_after}
use Rattle.metering_model.specs.Records as records
use Rattle.parts_model.specs.Ranges.{is_pulse}
use Rattle.pairing_model.specs.Settings.{settings_for}
use Rattle.billing_memory.specs.declared.meter_record.MeterRecord.{MeterRecord}
use Rattle.billing_memory.specs.Entries.{entry_view}
use Rattle.billing_memory.specs.Records.{record_view}
use Rattle.meter_config.specs.declared.config.Config.{Config}
use Rattle.meter_config.specs.Views.{config_view, settings_of}

all_kept : {X : Type 0} (keep : ℕ) (xs : List X) → length xs ≤ keep → latest keep (xs ++ []) ≡ xs
all_kept keep xs few =
    ap (latest keep) (append-nil xs) ∙ ap (λ n. drop n xs) (let none : length xs - keep ≡ 0 = omega arith in none)

pub stands_nothing : (c : Settings) (o : records.MeterRecord) → length o.months ≤ c.kept_months → StandsFor c o [] o
stands_nothing c o few = record { in_order = refl; is = sym same } where
  same : record_after c o [] ≡ o
  same =
      let seq : o.seq + 0 ≡ o.seq = omega arith in
      let faulty : o.faulty + 0 ≡ o.faulty = omega arith in
      let pulses : o.register.pulses + 0 ≡ o.register.pulses = omega arith in
      let bound : o.register.bound_mj + 0 ≡ o.register.bound_mj = omega arith in
      let energy : (o.register.energy_mj +ℤ pos 0) ≡ o.register.energy_mj = +ℤ_idr o.register.energy_mj in
      let months : latest c.kept_months (o.months ++ []) ≡ o.months = all_kept c.kept_months o.months few in
      λ i. record {
        seq = seq i;
        day = o.day;
        samples = o.samples;
        faulty = faulty i;
        register = record { pulses = pulses i; energy_mj = energy i; bound_mj = bound i };
        months = months i;
        set_day = o.set_day;
      }

pub settings_same : (c : Config) → settings_of c ≡ settings_for (config_view c)
settings_same c = refl

pub few_months : (m : MeterRecord) → length (record_view m).months ≤ 24
few_months m = omega (arith, m.months_kept, length-map m.months.items entry_view)

-- a pulse stands for few litres
pub few_litres : (litres : ℕ) → is_pulse litres ≡ true → litres ≤ 65535
few_litres litres h = grind (arith, nat_tests)
