-- A header that is written is read again, and a header that is read is spelled as it is written.
use Rattle.std.proofs.Common.{◌≡◌, ℕ, ◌%◌, ◌^◌, ◌≤◌, ◌<◌, true, subst, List, [], ◌∷◌, ◌++◌, length, get_or, drop, None, Ok, inl, inr, refl, sym, ◌∙◌, ap, arith, ◌==◌}
use Rattle.std.specs.Prelude.{nat_le, replicate}
use Rattle.std.specs.List.{list_all}
use Rattle.std.specs.Int.{w16, w32, to_le_bytes, is_in_range}
use Rattle.std.proofs.lemmas.Bool.{and_parts, eqb-true, cases_eq}
use Rattle.std.proofs.lemmas.Bool.Decides.{nat_tests}
use Rattle.parts_model.specs.Place.{Place, Flow, Return}
use Rattle.config_model.specs.Configuration.{Configuration, IsConfiguration}
use Rattle.parts_model.specs.Ranges.{is_capital, is_sensor, is_pulse}
use Rattle.memory_model.specs.Fields.{first_broken, unless_broken, number, zero_bytes}
use Rattle.byte_model.specs.Bytes.{AreBytes}
use Rattle.memory_model.specs.Header.{billing_fields, calibration_fields, configuration_of, header_fields, header_in, identity_fields, measuring_fields, place_of}
use Rattle.state_codec.specs.Header.{calibration_of, place_code, identity_bytes, measuring_bytes, billing_bytes, calibration_bytes, header_bytes}
use Rattle.state_codec.proofs.Checks.{AllKeep, all_kept, first_broken-all, checked-ok}
use Rattle.state_codec.proofs.CalibrationLaws.{spelled, spelled-is, calibration-keeps, calibration-again, calibration-spelled, tail-again}
use Rattle.state_codec.proofs.Spelling.{written_1, written_2, written_4, written_zeros, piece, spelled_1, spelled_2, spelled_4, spelled_zeros}

-- ---- what is written is read again

place-again : (p : Place) → place_of (place_code p) ≡ p
place-again Flow = refl
place-again Return = refl

place_passes : (p : Place) → nat_le (place_code p) 1 ≡ true
place_passes Flow = refl
place_passes Return = refl

le_true : (m n : ℕ) → m ≤ n → nat_le m n ≡ true
le_true m n le = grind (arith, nat_tests)

between_true : (a m b : ℕ) → a ≤ m → m ≤ b → is_in_range a b m ≡ true
between_true a m b low high = grind (arith, nat_tests)

sensor_fits : (n : ℕ) → is_sensor n ≡ true → n < 2 ^ 16
sensor_fits n h = grind (arith, nat_tests)

sensor_few : (n : ℕ) → is_sensor n ≡ true → n ≤ 1000
sensor_few n h = grind (arith, nat_tests)

pulse_fits : (n : ℕ) → is_pulse n ≡ true → n < 2 ^ 16
pulse_fits n h = grind (arith, nat_tests)

-- a configuration whose letters are written out
abbrev lettered : Configuration → ℕ → ℕ → ℕ → Configuration
lettered c x y z = record c { maker = x ∷ y ∷ z ∷ [] }

-- all but the version, which has no rule, is in its range
abbrev pub IsSpelled : Configuration → Type 0
IsSpelled c = IsConfiguration (record c { version = 0 })

module _ (c : Configuration) (x y z : ℕ) (fits : IsSpelled (lettered c x y z)) where
  abbrev text : List ℕ
  text = 165 ∷ header_bytes (lettered c x y z)

  serial_is : number 2 4 text ≡ c.serial
  unfolding number header_bytes identity_bytes measuring_bytes billing_bytes
  serial_is = written_4 c.serial (omega (arith, fits.serial))

  address_is : number 10 1 text ≡ c.address
  unfolding number header_bytes identity_bytes measuring_bytes billing_bytes
  address_is = written_1 c.address

  place_is : number 11 1 text ≡ place_code c.place
  unfolding number header_bytes identity_bytes measuring_bytes billing_bytes
  place_is = written_1 (place_code c.place)

  pressure_is : number 12 2 text ≡ c.pressure_kpa
  unfolding number header_bytes identity_bytes measuring_bytes billing_bytes
  pressure_is = written_2 c.pressure_kpa (omega (arith, fits.pressure_kpa.1))

  sensor_is : number 14 2 text ≡ c.sensor_ohm
  unfolding number header_bytes identity_bytes measuring_bytes billing_bytes
  sensor_is = written_2 c.sensor_ohm (sensor_fits c.sensor_ohm fits.sensor_ohm)

  litres_is : number 16 2 text ≡ c.litres_per_pulse
  unfolding number header_bytes identity_bytes measuring_bytes billing_bytes
  litres_is = written_2 c.litres_per_pulse (pulse_fits c.litres_per_pulse fits.litres_per_pulse)

  energy_decimals_is : number 18 1 text ≡ c.energy_decimals
  unfolding number header_bytes identity_bytes measuring_bytes billing_bytes
  energy_decimals_is = written_1 c.energy_decimals

  volume_decimals_is : number 19 1 text ≡ c.volume_decimals
  unfolding number header_bytes identity_bytes measuring_bytes billing_bytes
  volume_decimals_is = written_1 c.volume_decimals

  set_month_is : number 20 1 text ≡ c.set_month
  unfolding number header_bytes identity_bytes measuring_bytes billing_bytes
  set_month_is = written_1 c.set_month

  day_is : number 22 2 text ≡ c.opening_day
  unfolding number header_bytes identity_bytes measuring_bytes billing_bytes
  day_is = written_2 c.opening_day (omega (arith, fits.opening_day))

  letter_is : (number 6 1 text ≡ x) × (number 7 1 text ≡ y) × (number 8 1 text ≡ z)
  unfolding number header_bytes identity_bytes measuring_bytes billing_bytes
  letter_is = (written_1 x, written_1 y, written_1 z)

  version_is : number 9 1 text ≡ c.version
  unfolding number header_bytes identity_bytes measuring_bytes billing_bytes
  version_is = written_1 c.version

  format_keeps : ((number 1 1 text % 2) == 1) ≡ true
  unfolding number header_bytes identity_bytes measuring_bytes billing_bytes
  format_keeps = refl

  zero_keeps : (number 21 1 text == 0) ≡ true
  unfolding number header_bytes identity_bytes measuring_bytes billing_bytes
  zero_keeps = refl

  calibration_is : drop 24 text ≡ calibration_bytes c.calibration ++ replicate 204 0
  unfolding header_bytes identity_bytes measuring_bytes billing_bytes
  calibration_is = refl

  constants_are : drop 24 text ≡ spelled c.calibration ++ replicate 204 0
  constants_are = calibration_is ∙ ap (λ (l : List ℕ). l ++ replicate 204 0) (spelled-is c.calibration)

  few_ohm : c.sensor_ohm ≤ 1000
  few_ohm = sensor_few c.sensor_ohm fits.sensor_ohm

  blank_after : first_broken (zero_bytes 52 204) text ≡ None
  blank_after =
      written_zeros 204 52 text (tail-again text (replicate 204 0) c.sensor_ohm c.calibration constants_are sensor_is few_ohm fits.calibration)

  identity_keeps : AllKeep identity_fields text
  identity_keeps =
      let first = and_parts (is_capital x) (list_all is_capital (y ∷ z ∷ [])) fits.maker in
      let second = and_parts (is_capital y) (list_all is_capital (z ∷ [])) first.1 in
      let third = and_parts (is_capital z) true second.1 in (
        format_keeps,
        (
          ap (λ n. nat_le n 99999999) serial_is ∙ le_true c.serial 99999999 fits.serial,
          (
            ap is_capital letter_is.0 ∙ first.0,
            (
              ap is_capital letter_is.1 ∙ second.0,
              (ap is_capital letter_is.2 ∙ third.0, (refl, (ap (λ n. nat_le n 250) address_is ∙ le_true c.address 250 fits.address, tt))),
            ),
          ),
        ),
      )

  measuring_keeps : AllKeep measuring_fields text
  measuring_keeps = (
    ap (λ n. nat_le n 1) place_is ∙ place_passes c.place,
    (
      ap (is_in_range 1100 4000) pressure_is ∙ between_true 1100 c.pressure_kpa 4000 fits.pressure_kpa.0 fits.pressure_kpa.1,
      (ap is_sensor sensor_is ∙ fits.sensor_ohm, (ap is_pulse litres_is ∙ fits.litres_per_pulse, tt)),
    ),
  )

  billing_keeps : AllKeep billing_fields text
  billing_keeps = (
    ap (λ n. nat_le n 3) energy_decimals_is ∙ le_true c.energy_decimals 3 fits.energy_decimals,
    (
      ap (λ n. nat_le n 3) volume_decimals_is ∙ le_true c.volume_decimals 3 fits.volume_decimals,
      (
        ap (is_in_range 1 12) set_month_is ∙ between_true 1 c.set_month 12 fits.set_month.0 fits.set_month.1,
        (zero_keeps, (ap (λ n. nat_le n 36524) day_is ∙ le_true c.opening_day 36524 fits.opening_day, tt)),
      ),
    ),
  )

  calibration_keeps : AllKeep calibration_fields text
  calibration_keeps = calibration-keeps text (replicate 204 0) c.sensor_ohm c.calibration constants_are sensor_is few_ohm fits.calibration

  calibration_same : calibration_of text ≡ c.calibration
  calibration_same = calibration-again text (replicate 204 0) c.sensor_ohm c.calibration constants_are sensor_is few_ohm fits.calibration

  none_broken : first_broken header_fields text ≡ None
  unfolding header_fields
  none_broken =
      first_broken-all identity_fields (measuring_fields ++ (billing_fields ++ (calibration_fields ++ zero_bytes 52 204))) text identity_keeps
      ∙ first_broken-all measuring_fields (billing_fields ++ (calibration_fields ++ zero_bytes 52 204)) text measuring_keeps
      ∙ first_broken-all billing_fields (calibration_fields ++ zero_bytes 52 204) text billing_keeps
      ∙ first_broken-all calibration_fields (zero_bytes 52 204) text calibration_keeps ∙ blank_after

  same : configuration_of text ≡ lettered c x y z
  unfolding configuration_of
  same = λ i. record {
    serial = serial_is i;
    maker = letter_is.0 i ∷ letter_is.1 i ∷ letter_is.2 i ∷ [];
    version = version_is i;
    address = address_is i;
    place = (ap place_of place_is ∙ place-again c.place) i;
    pressure_kpa = pressure_is i;
    sensor_ohm = sensor_is i;
    litres_per_pulse = litres_is i;
    energy_decimals = energy_decimals_is i;
    volume_decimals = volume_decimals_is i;
    set_month = set_month_is i;
    opening_day = day_is i;
    calibration = calibration_same i;
  }

  lettered-again : header_in text ≡ Ok (lettered c x y z)
  unfolding header_in
  lettered-again =
      ap (λ broken. unless_broken broken (configuration_of text)) none_broken ∙ ap (λ r. Ok r) same

-- a list of three
three : (l : List ℕ) → length l ≡ 3 → l ≡ get_or l 0 0 ∷ get_or l 1 0 ∷ get_or l 2 0 ∷ []
three (x ∷ y ∷ z ∷ []) size = refl
three [] size = absurd cc
three (x ∷ []) size = absurd cc
three (x ∷ y ∷ []) size = absurd cc
three (x ∷ y ∷ z ∷ w ∷ l) size = absurd (omega arith)

pub header-again : (c : Configuration) → IsSpelled c → header_in (165 ∷ header_bytes c) ≡ Ok c
header-again c fits =
    let x = get_or c.maker 0 0 in
    let y = get_or c.maker 1 0 in
    let z = get_or c.maker 2 0 in
    let is : c ≡ lettered c x y z = ap (λ m. record c { maker = m }) (three c.maker fits.maker_length) in
    subst (λ (d : Configuration). header_in (165 ∷ header_bytes d) ≡ Ok d) (sym is) (lettered-again c x y z (subst IsSpelled is fits))

-- ---- what is read is spelled so

place_kept : (n : ℕ) → nat_le n 1 ≡ true → n ≡ place_code (place_of n)
place_kept n h = elim (cases_eq n 0) [
  | inl is ↦ rw is refl
  | inr other ↦ let one : n ≡ 1 = grind (arith, nat_tests) in rw one refl
]

module _ (bytes : List ℕ) (fits : AreBytes bytes) (size : length bytes ≡ 256) where
  spelled_so : AllKeep measuring_fields bytes → AllKeep billing_fields bytes → drop 24 bytes ≡ calibration_bytes (calibration_of bytes) ++ replicate 204 0 → drop 2 bytes ≡ drop 1 (header_bytes (configuration_of bytes))
  unfolding header_bytes identity_bytes measuring_bytes billing_bytes configuration_of
  spelled_so measuring billing e24 =
      let e22 = piece 22 2 bytes (to_le_bytes w16 (number 22 2 bytes)) (spelled_2 bytes fits 22 (omega (arith, size))) ∙ ap (λ (l : List ℕ). to_le_bytes w16 (number 22 2 bytes) ++ l) e24 in
      let e21 = piece 21 1 bytes (0 ∷ []) (spelled_1 bytes fits 21 (omega (arith, size)) ∙ ap (λ (b : ℕ). b ∷ []) (eqb-true (number 21 1 bytes) 0 billing.1.1.1.0)) ∙ ap (λ (l : List ℕ). 0 ∷ l) e22 in
      let e20 = piece 20 1 bytes (number 20 1 bytes ∷ []) (spelled_1 bytes fits 20 (omega (arith, size))) ∙ ap (λ (l : List ℕ). number 20 1 bytes ∷ l) e21 in
      let e19 = piece 19 1 bytes (number 19 1 bytes ∷ []) (spelled_1 bytes fits 19 (omega (arith, size))) ∙ ap (λ (l : List ℕ). number 19 1 bytes ∷ l) e20 in
      let e18 = piece 18 1 bytes (number 18 1 bytes ∷ []) (spelled_1 bytes fits 18 (omega (arith, size))) ∙ ap (λ (l : List ℕ). number 18 1 bytes ∷ l) e19 in
      let e16 = piece 16 2 bytes (to_le_bytes w16 (number 16 2 bytes)) (spelled_2 bytes fits 16 (omega (arith, size))) ∙ ap (λ (l : List ℕ). to_le_bytes w16 (number 16 2 bytes) ++ l) e18 in
      let e14 = piece 14 2 bytes (to_le_bytes w16 (number 14 2 bytes)) (spelled_2 bytes fits 14 (omega (arith, size))) ∙ ap (λ (l : List ℕ). to_le_bytes w16 (number 14 2 bytes) ++ l) e16 in
      let e12 = piece 12 2 bytes (to_le_bytes w16 (number 12 2 bytes)) (spelled_2 bytes fits 12 (omega (arith, size))) ∙ ap (λ (l : List ℕ). to_le_bytes w16 (number 12 2 bytes) ++ l) e14 in
      let e11 = piece 11 1 bytes (number 11 1 bytes ∷ []) (spelled_1 bytes fits 11 (omega (arith, size))) ∙ (λ i. place_kept (number 11 1 bytes) measuring.0 i ∷ e12 i) in
      let e10 = piece 10 1 bytes (number 10 1 bytes ∷ []) (spelled_1 bytes fits 10 (omega (arith, size))) ∙ ap (λ (l : List ℕ). number 10 1 bytes ∷ l) e11 in
      let e9 = piece 9 1 bytes (number 9 1 bytes ∷ []) (spelled_1 bytes fits 9 (omega (arith, size))) ∙ ap (λ (l : List ℕ). number 9 1 bytes ∷ l) e10 in
      let e8 = piece 8 1 bytes (number 8 1 bytes ∷ []) (spelled_1 bytes fits 8 (omega (arith, size))) ∙ ap (λ (l : List ℕ). number 8 1 bytes ∷ l) e9 in
      let e7 = piece 7 1 bytes (number 7 1 bytes ∷ []) (spelled_1 bytes fits 7 (omega (arith, size))) ∙ ap (λ (l : List ℕ). number 7 1 bytes ∷ l) e8 in
      let e6 = piece 6 1 bytes (number 6 1 bytes ∷ []) (spelled_1 bytes fits 6 (omega (arith, size))) ∙ ap (λ (l : List ℕ). number 6 1 bytes ∷ l) e7 in
      piece 2 4 bytes (to_le_bytes w32 (number 2 4 bytes)) (spelled_4 bytes fits 2 (omega (arith, size))) ∙ ap (λ (l : List ℕ). to_le_bytes w32 (number 2 4 bytes) ++ l) e6

  pub header-spelled : (c : Configuration) → header_in bytes ≡ Ok c → drop 2 bytes ≡ drop 1 (header_bytes c)
  unfolding header_in header_fields
  header-spelled c e =
      let read = checked-ok (first_broken header_fields bytes) (configuration_of bytes) c e in
      let first = all_kept identity_fields (measuring_fields ++ (billing_fields ++ (calibration_fields ++ zero_bytes 52 204))) bytes read.0 in
      let second = all_kept measuring_fields (billing_fields ++ (calibration_fields ++ zero_bytes 52 204)) bytes first.1 in
      let third = all_kept billing_fields (calibration_fields ++ zero_bytes 52 204) bytes second.1 in
      let fourth = all_kept calibration_fields (zero_bytes 52 204) bytes third.1 in
      let blank = spelled_zeros 204 52 bytes (omega (arith, size)) fourth.1 in
      spelled_so second.0 third.0 (calibration-spelled bytes fits size (replicate 204 0) fourth.0 blank) ∙ ap (λ d. drop 1 (header_bytes d)) read.1
