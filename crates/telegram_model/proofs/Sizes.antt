-- A telegram fits the body of a frame.
use Rattle.std.proofs.Common.{◌≡◌, ℕ, zero, suc, ◌+◌, ◌-◌, ◌*◌, ◌≤◌, ◌==◌, ◌/◌, ◌%◌, Bool, true, false, if◌then◌else◌, List, [], ◌∷◌, ◌++◌, length, take, drop, Option, None, Some, refl, arith, pos, length-append}
use Rattle.std.specs.Prelude.{nat_lt}
use Rattle.std.proofs.lemmas.List.{length-take}
use Rattle.calendar_model.specs.Entries.{MonthEntry}
use Rattle.display_model.specs.Display.{shown_digits, energy_unit, volume_unit}
use Rattle.config_model.specs.Configuration.{Configuration, flow_element, return_element}
use Rattle.metering_model.specs.Records.{Register, MeterRecord}
use Rattle.platinum_model.specs.Element.{Element}
use Rattle.telegram_model.specs.Values.{information, decimal_bytes, integer_bytes, date_bytes}
use Rattle.telegram_model.specs.Telegram.{header, energy_record, volume_record, date_record, temp_records, temp_of, sample_records, entry_records, set_day_records, records_from, newest, first_records, records_of, mark_of}

join : (xs ys : List ℕ) (a b : ℕ) → length xs ≤ a → length ys ≤ b → length (xs ++ ys) ≤ a + b
join xs ys a b h k = omega (arith, length-append xs ys)

pub length-header : (c : Configuration) (access : ℕ) → length (header c access) ≡ 12
unfolding header decimal_bytes
length-header c access = refl

at_most_two : (b : Bool) (x y z : ℕ) → length (if b then x ∷ [] else y ∷ z ∷ []) ≤ 2
at_most_two true x y z = omega arith
at_most_two false x y z = omega arith

pub length-information : (kind storage : ℕ) → length (information kind storage) ≤ 2
length-information kind storage = at_most_two (storage / 2 == 0) (kind + 64 * storage) (kind + 128 + 64 * (storage % 2)) (storage / 2)

length-decimal_bytes : (n : ℕ) → length (decimal_bytes n) ≡ 4
unfolding decimal_bytes
length-decimal_bytes n = refl

length-date_bytes : (day : ℕ) → length (date_bytes day) ≡ 2
unfolding date_bytes
length-date_bytes day = refl

pub length-value : (kind storage unit : ℕ) (value : List ℕ) → length (information kind storage ++ unit ∷ value) ≤ 3 + length value
length-value kind storage unit value = omega (arith, length-append (information kind storage) (unit ∷ value), length-information kind storage)

pub length-energy_record : (c : Configuration) (storage : ℕ) (r : Register) → length (energy_record c storage r) ≤ 7
unfolding energy_record
length-energy_record c storage r =
    let shown = shown_digits r.energy_mj (energy_unit c.energy_decimals) in
    omega (arith, length-value 12 storage (6 - c.energy_decimals) (decimal_bytes shown), length-decimal_bytes shown)

pub length-volume_record : (c : Configuration) (storage : ℕ) (r : Register) → length (volume_record c storage r) ≤ 7
unfolding volume_record
length-volume_record c storage r =
    let shown = shown_digits (pos (r.pulses * c.litres_per_pulse)) (volume_unit c.volume_decimals) in
    omega (arith, length-value 12 storage (22 - c.volume_decimals) (decimal_bytes shown), length-decimal_bytes shown)

pub length-date_record : (storage day : ℕ) → length (date_record storage day) ≤ 5
unfolding date_record
length-date_record storage day = omega (arith, length-value 2 storage 108 (date_bytes day), length-date_bytes day)

pub length-entry_records : (c : Configuration) (storage : ℕ) (e : MonthEntry Register) → length (entry_records c storage e) ≤ 19
unfolding entry_records
length-entry_records c storage e =
    join _ (volume_record c storage e.register) 12 7
    (join (date_record storage e.day) (energy_record c storage e.register) 5 7 (length-date_record storage e.day) (length-energy_record c storage e.register))
    (length-volume_record c storage e.register)

pub length-records_from : (c : Configuration) (storage : ℕ) (es : List (MonthEntry Register)) → length (records_from c storage es) ≤ 19 * length es
length-records_from c storage [] = omega arith
length-records_from c storage (e ∷ es) =
    omega (arith, length-append (entry_records c storage e) (records_from c (storage + 1) es), length-entry_records c storage e, length-records_from c (storage + 1) es)

length-temp_records : (flow ret : Option ℕ) → length (temp_records flow ret) ≤ 18
unfolding temp_records integer_bytes
length-temp_records None None = omega arith
length-temp_records None (Some t) = omega arith
length-temp_records (Some t) None = omega arith
length-temp_records (Some t) (Some s) = omega arith

length-sample_records : (flow ret : Element) (samples : Option (ℕ × ℕ)) → length (sample_records flow ret samples) ≤ 18
length-sample_records flow ret None = omega arith
length-sample_records flow ret (Some s) = length-temp_records (temp_of flow s.0) (temp_of ret s.1)

length-set_day_records : (c : Configuration) (e : Option (MonthEntry Register)) → length (set_day_records c e) ≤ 19
length-set_day_records c None = omega arith
length-set_day_records c (Some e) = length-entry_records c 1 e

pub length-first_records : (c : Configuration) (m : MeterRecord) → length (first_records c m) ≤ 56
unfolding first_records
length-first_records c m =
    let samples = sample_records (flow_element c) (return_element c) m.samples in
    join _ (set_day_records c m.set_day) 37 19
    (join _ (date_record 0 m.day) 32 5
    (join _ samples 14 18
    (join (energy_record c 0 m.register) (volume_record c 0 m.register) 7 7 (length-energy_record c 0 m.register) (length-volume_record c 0 m.register))
    (length-sample_records (flow_element c) (return_element c) m.samples))
    (length-date_record 0 m.day))
    (length-set_day_records c m.set_day)

pub length-records_of : (c : Configuration) (m : MeterRecord) (k : ℕ) → length (records_of c m k) ≤ 152
length-records_of c m zero = omega (arith, length-first_records c m)
length-records_of c m (suc k) =
    omega (arith, length-records_from c (8 * k + 2) (take 8 (drop (8 * k) (newest m))), length-take 8 (drop (8 * k) (newest m)))

at_most_one : (b : Bool) → length {A = ℕ} (if b then 31 ∷ [] else []) ≤ 1
at_most_one true = omega arith
at_most_one false = omega arith

length-mark_of : (m : MeterRecord) (k : ℕ) → length (mark_of m k) ≤ 1
length-mark_of m k = at_most_one (nat_lt (8 * k) (length (newest m)))

-- the body of any telegram
pub length-body : (c : Configuration) (m : MeterRecord) (k access : ℕ) → length (header c access ++ records_of c m k ++ mark_of m k) ≤ 165
length-body c m k access =
    join _ (mark_of m k) 164 1 (join (header c access) (records_of c m k) 12 152 (omega (arith, length-header c access)) (length-records_of c m k)) (length-mark_of m k)
