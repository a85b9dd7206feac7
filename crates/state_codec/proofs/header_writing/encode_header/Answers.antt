use Rattle.std.proofs.Common.{◌≡◌, ◌∙◌, ◌++◌, ◌∷◌, ◌+◌, lit≤, ap, sym, subst, ℕ, List, length, drop, arith, rules, Ok, true, refl, [], append_assoc, length-append}
use Rattle.std.specs.Prelude.{replicate}
use Rattle.config_model.specs.Configuration.{Configuration}
use Rattle.parts_model.specs.Ranges.{is_sensor}
use Rattle.meter_parts.specs.Views.{sensor_ohm}
use Rattle.meter_config.specs.Views.{config_view}
use Rattle.meter_config.specs.declared.config.Config.{Config}
use Rattle.meter_parts.specs.declared.sensor.Sensor.{Sensor}
use Rattle.meter_parts.specs.declared.sensor.Sensor.TheVariants.{Pt100, Pt500, Pt1000}
use Rattle.memory_model.specs.Header.{header_in}
use Rattle.state_codec.specs.Header.{identity_bytes, measuring_bytes, billing_bytes, settings_bytes, calibration_bytes, header_bytes}
use Rattle.state_codec.proofs.HeaderLaws.{IsSpelled, header-again, header-spelled}
use Rattle.state_codec.proofs.header_writing.encode_header.Goals as goal

is_sensor-ohm : (s : Sensor) → is_sensor (sensor_ohm s) ≡ true
is_sensor-ohm Pt100 = refl
is_sensor-ohm Pt500 = refl
is_sensor-ohm Pt1000 = refl

three_letters : (c : Configuration) → length (settings_bytes c) ≡ 23 → length c.maker ≡ 3
unfolding settings_bytes identity_bytes measuring_bytes billing_bytes
three_letters c size = omega (arith, length-append (c.maker ++ c.version ∷ c.address ∷ []) (measuring_bytes c ++ billing_bytes c), length-append c.maker (c.version ∷ c.address ∷ []))

configuration : (c : Config) → length c.maker ≡ 3 → IsSpelled (config_view c)
configuration c size = record {
  serial = c.serial_in_range;
  maker_length = size;
  maker = c.maker_in_range;
  version = lit≤ tt;
  address = c.address_in_range;
  pressure_kpa = c.pressure_in_range;
  sensor_ohm = is_sensor-ohm c.sensor;
  litres_per_pulse = c.per_pulse_in_range;
  energy_decimals = c.energy_decimals_in_range;
  volume_decimals = c.volume_decimals_in_range;
  set_month = c.set_month_in_range;
  opening_day = c.opening_day.in_century;
  calibration = c.cal_fits;
}

-- what is written, part after part
laid_out : (k : Configuration) (out settings constants : List ℕ) → settings ≡ settings_bytes k → constants ≡ calibration_bytes k.calibration → length settings ≡ 23 → length constants ≡ 28
    → out ≡ settings ++ (constants ++ ([] ++ drop (length settings + length constants + 0) (replicate 255 0))) → out ≡ header_bytes k
unfolding header_bytes settings_bytes
laid_out k out settings constants a b first second is =
    let size : length settings + length constants + 0 ≡ 51 = omega arith in
    is ∙ (λ i. a i ++ (b i ++ drop (size i) (replicate 255 0)))
    ∙ append_assoc (identity_bytes k) (measuring_bytes k ++ billing_bytes k) _
    ∙ ap (λ (l : List ℕ). identity_bytes k ++ l) (append_assoc (measuring_bytes k) (billing_bytes k) _)

pub returns-clause-read_again : goal.returns-clause-read_again
returns-clause-read_again c =
    let k = config_view c.args.c.now in
    let first : length c.write_settings.result ≡ 23 = search rules in
    let second : length c.write_calibration.result ≡ 28 = search rules in
    let letters : length c.args.c.now.maker ≡ 3 = three_letters k (sym (ap length c.write_settings.ensures) ∙ first) in
    let is = laid_out k c.fill_front.new.out c.write_settings.result c.write_calibration.result c.write_settings.ensures c.write_calibration.ensures first second c.fill_front.ensures in
    subst (λ (l : List ℕ). header_in (165 ∷ l) ≡ Ok k) (sym is) (header-again k (configuration c.args.c.now letters))

pub returns-clause-one_spelling : goal.returns-clause-one_spelling
returns-clause-one_spelling c bytes fits size read =
    let k = config_view c.args.c.now in
    let first : length c.write_settings.result ≡ 23 = search rules in
    let second : length c.write_calibration.result ≡ 28 = search rules in
    let is = laid_out k c.fill_front.new.out c.write_settings.result c.write_calibration.result c.write_settings.ensures c.write_calibration.ensures first second c.fill_front.ensures in
    ap (drop 1) is ∙ sym (header-spelled bytes fits size k read)
