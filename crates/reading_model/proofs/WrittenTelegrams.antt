-- The telegrams that a meter writes are read as what they were written from.
use Rattle.std.proofs.Common.{◌≡◌, ◌∙◌, ℕ, zero, suc, ◌+◌, ◌-◌, ◌*◌, ◌<◌, ◌≤◌, Bool, true, false, cond, if◌then◌else◌, List, [], ◌∷◌, ◌++◌, length, take, drop, Option, None, Some, Ok, refl, sym, ap, subst, append-nil, arith, rules}
use Rattle.std.specs.Prelude.{ℤ, pos, ◌-ℤ◌, nat_lt, FitsSigned}
use Rattle.std.specs.Int.{w32}
use Rattle.std.specs.List.{All}
use Rattle.std.specs.Prelude.{reverse}
use Rattle.std.proofs.lemmas.List.{length-take, length-reverse, get_or-reverse}
use Rattle.std.proofs.lemmas.List.Elements.{All-take, All-drop}
use Rattle.platinum_model.specs.Element.{Element}
use Rattle.calendar_model.specs.Entries.{MonthEntry}
use Rattle.config_model.specs.Configuration.{Configuration, IsConfiguration, flow_element, return_element}
use Rattle.metering_model.specs.Records.{Register, MeterRecord}
use Rattle.metering_model.specs.Counting.{is_at_most, greatest_to, whole_temp, is_in_range}
use Rattle.display_model.specs.Display.{shown_digits, energy_unit, volume_unit}
use Rattle.number_model.specs.Fraction.{whole}
use Rattle.platinum_model.specs.Element.{resistance, microdegrees}
use Rattle.jiff_core.proofs.SignedLemmas.{signed_arith}
use Rattle.std.specs.Option.{option_to_list}
use Rattle.telegram_model.specs.Values.{decimal_bytes, integer_bytes, date_bytes, thousandths}
use Rattle.telegram_model.specs.Telegram.{energy_record, volume_record, date_record, temp_record, one_temp, difference, temp_records, temp_of, sample_records, entry_records, set_day_records, records_from, newest, first_records, records_of, mark_of}
use Rattle.reading_model.specs.Fields.{Kind, Energy, Volume, FlowTemp, ReturnTemp, Difference, Date, Reading}
use Rattle.reading_model.specs.Records.{Integer16, Integer32, Decimal8, quantity, records_in}
use Rattle.reading_model.specs.Written.{energy_digits, volume_digits, energy_reading, volume_reading, date_reading, temp_reading, one_temp_reading, difference_reading, temp_readings, sample_readings, entry_readings, set_day_readings, readings_from, first_readings, readings_of, IsInCentury, HasDays}
use Rattle.reading_model.proofs.Spelled.{AreRead, in_front, none_read, both_read, spelled_read, date_fields, decimal_fields, integer_fields, decimal_said, integer_said, date_said}

-- what is shown has eight digits
shown_small : (z : ℤ) (unit : ℕ) → shown_digits z unit < 100000000
shown_small z unit = omega (arith, signed_arith)

energy_unit_said : (decimals : ℕ) → decimals ≤ 3 → quantity Decimal8 (6 - decimals) ≡ Some (Energy, pos 3 -ℤ pos decimals)
energy_unit_said zero le = refl
energy_unit_said (suc zero) le = refl
energy_unit_said (suc (suc zero)) le = refl
energy_unit_said (suc (suc (suc zero))) le = refl
energy_unit_said (suc (suc (suc (suc n)))) le = absurd (omega arith)

volume_unit_said : (decimals : ℕ) → decimals ≤ 3 → quantity Decimal8 (22 - decimals) ≡ Some (Volume, pos 0 -ℤ pos decimals)
volume_unit_said zero le = refl
volume_unit_said (suc zero) le = refl
volume_unit_said (suc (suc zero)) le = refl
volume_unit_said (suc (suc (suc zero))) le = refl
volume_unit_said (suc (suc (suc (suc n)))) le = absurd (omega arith)

energy_read : (c : Configuration) (storage : ℕ) (r : Register) → c.energy_decimals ≤ 3 → storage < 32 → AreRead (energy_record c storage r) (energy_reading c storage r ∷ [])
unfolding energy_record decimal_bytes
energy_read c storage r few low =
    spelled_read 12 storage (6 - c.energy_decimals) (decimal_bytes (energy_digits c r)) Decimal8 (Energy, pos 3 -ℤ pos c.energy_decimals) (pos (energy_digits c r)) low decimal_fields (energy_unit_said c.energy_decimals few)
    (λ rest. decimal_said Energy (energy_digits c r) rest (shown_small r.energy_mj (energy_unit c.energy_decimals)))

volume_read : (c : Configuration) (storage : ℕ) (r : Register) → c.volume_decimals ≤ 3 → storage < 32 → AreRead (volume_record c storage r) (volume_reading c storage r ∷ [])
unfolding volume_record decimal_bytes
volume_read c storage r few low =
    spelled_read 12 storage (22 - c.volume_decimals) (decimal_bytes (volume_digits c r)) Decimal8 (Volume, pos 0 -ℤ pos c.volume_decimals) (pos (volume_digits c r)) low decimal_fields (volume_unit_said c.volume_decimals few)
    (λ rest. decimal_said Volume (volume_digits c r) rest (shown_small (pos (r.pulses * c.litres_per_pulse)) (volume_unit c.volume_decimals)))

date_read : (storage day : ℕ) → day ≤ 36524 → storage < 32 → AreRead (date_record storage day) (date_reading storage day ∷ [])
unfolding date_record date_bytes
date_read storage day few low =
    spelled_read 2 storage 108 (date_bytes day) Integer16 (Date, pos 0) (pos day) low date_fields refl (λ rest. date_said day rest few)

-- ---- temperatures

greatest_small : (n : ℕ) (e : Element) (r : ℕ) → greatest_to n e r ≤ n
unfolding greatest_to
greatest_small zero e r = omega arith
greatest_small (suc n) e r = at_most (is_at_most (resistance e (microdegrees (suc n))) (whole r)) (greatest_small n e r)
  where
    at_most : (b : Bool) → greatest_to n e r ≤ n → cond b (suc n) (greatest_to n e r) ≤ suc n
    at_most true le = omega arith
    at_most false le = omega arith

abbrev IsTemp : Option ℕ → Type 0
IsTemp None = Unit {0}
IsTemp (Some t) = t ≤ 180000000

temp_small : (e : Element) (sample : ℕ) → IsTemp (temp_of e sample)
unfolding whole_temp
temp_small e sample = known (is_in_range e sample)
  where
    known : (b : Bool) → IsTemp (cond b (Some (greatest_to 180000000 e sample)) None)
    known true = greatest_small 180000000 e sample
    known false = tt

temp_read : (kind : Kind) (unit : ℕ) (z : ℤ) → quantity Integer32 unit ≡ Some (kind, pos 0 -ℤ pos 3) → FitsSigned w32 (thousandths z) → AreRead (temp_record unit z) (temp_reading kind z ∷ [])
unfolding integer_bytes
temp_read kind unit z quantified fits =
    spelled_read 4 0 unit (integer_bytes (thousandths z)) Integer32 (kind, pos 0 -ℤ pos 3) (thousandths z) (omega arith) integer_fields quantified (λ rest. integer_said kind (thousandths z) rest fits)

one_temp_read : (kind : Kind) (unit : ℕ) (t : Option ℕ) → IsTemp t → quantity Integer32 unit ≡ Some (kind, pos 0 -ℤ pos 3) → AreRead (one_temp unit t) (one_temp_reading kind t)
one_temp_read kind unit None small quantified = none_read
one_temp_read kind unit (Some t) small quantified = temp_read kind unit (pos t) quantified (search (rules, signed_arith))

difference_read : (flow ret : Option ℕ) → IsTemp flow → IsTemp ret → AreRead (difference flow ret) (difference_reading flow ret)
difference_read None ret f r = none_read
difference_read (Some flow) None f r = none_read
difference_read (Some flow) (Some ret) f r = temp_read Difference 96 (pos flow -ℤ pos ret) refl (search (rules, signed_arith))

temps_read : (flow ret : Option ℕ) → IsTemp flow → IsTemp ret → AreRead (temp_records flow ret) (temp_readings flow ret)
unfolding temp_records
temps_read flow ret f r =
    both_read (one_temp 88 flow ++ one_temp 92 ret) (difference flow ret) (one_temp_reading FlowTemp flow ++ one_temp_reading ReturnTemp ret) (difference_reading flow ret)
    (both_read (one_temp 88 flow) (one_temp 92 ret) (one_temp_reading FlowTemp flow) (one_temp_reading ReturnTemp ret) (one_temp_read FlowTemp 88 flow f refl) (one_temp_read ReturnTemp 92 ret r refl))
    (difference_read flow ret f r)

samples_read : (flow ret : Element) (samples : Option (ℕ × ℕ)) → AreRead (sample_records flow ret samples) (sample_readings flow ret samples)
samples_read flow ret None = none_read
samples_read flow ret (Some s) = temps_read (temp_of flow s.0) (temp_of ret s.1) (temp_small flow s.0) (temp_small ret s.1)

-- ---- entries

entry_read : (c : Configuration) (storage : ℕ) (e : MonthEntry Register) → IsConfiguration c → IsInCentury e → storage < 32 → AreRead (entry_records c storage e) (entry_readings c storage e)
unfolding entry_records
entry_read c storage e is few low =
    both_read (date_record storage e.day ++ energy_record c storage e.register) (volume_record c storage e.register) (date_reading storage e.day ∷ energy_reading c storage e.register ∷ []) (volume_reading c storage e.register ∷ [])
    (both_read (date_record storage e.day) (energy_record c storage e.register) (date_reading storage e.day ∷ []) (energy_reading c storage e.register ∷ []) (date_read storage e.day few low) (energy_read c storage e.register is.energy_decimals low))
    (volume_read c storage e.register is.volume_decimals low)

set_day_read : (c : Configuration) (e : Option (MonthEntry Register)) → IsConfiguration c → All IsInCentury (option_to_list e) → AreRead (set_day_records c e) (set_day_readings c e)
set_day_read c None is few = none_read
set_day_read c (Some e) is few = entry_read c 1 e is (few 0 e (omega arith)) (omega arith)

entries_read : (c : Configuration) (storage : ℕ) (es : List (MonthEntry Register)) → IsConfiguration c → All IsInCentury es → storage + length es ≤ 32 → AreRead (records_from c storage es) (readings_from c storage es)
entries_read c storage [] is few low = none_read
entries_read c storage (e ∷ es) is few low =
    both_read (entry_records c storage e) (records_from c (storage + 1) es) (entry_readings c storage e) (readings_from c (storage + 1) es)
    (entry_read c storage e is (few 0 e (omega arith)) (omega arith)) (entries_read c (storage + 1) es is (λ k d lt. few (suc k) d (omega arith)) (omega arith))

first_read : (c : Configuration) (m : MeterRecord) → IsConfiguration c → HasDays m → AreRead (first_records c m) (first_readings c m)
unfolding first_records
first_read c m is days =
    let flow = flow_element c in
    let ret = return_element c in
    let shown = both_read (energy_record c 0 m.register) (volume_record c 0 m.register) (energy_reading c 0 m.register ∷ []) (volume_reading c 0 m.register ∷ []) (energy_read c 0 m.register is.energy_decimals (omega arith)) (volume_read c 0 m.register is.volume_decimals (omega arith)) in
    let temps = both_read (energy_record c 0 m.register ++ volume_record c 0 m.register) (sample_records flow ret m.samples) (energy_reading c 0 m.register ∷ volume_reading c 0 m.register ∷ []) (sample_readings flow ret m.samples) shown (samples_read flow ret m.samples) in
    let dated = both_read (energy_record c 0 m.register ++ volume_record c 0 m.register ++ sample_records flow ret m.samples) (date_record 0 m.day) (energy_reading c 0 m.register ∷ volume_reading c 0 m.register ∷ sample_readings flow ret m.samples) (date_reading 0 m.day ∷ []) temps (date_read 0 m.day days.day (omega arith)) in
    both_read (energy_record c 0 m.register ++ volume_record c 0 m.register ++ sample_records flow ret m.samples ++ date_record 0 m.day) (set_day_records c m.set_day) (energy_reading c 0 m.register ∷ volume_reading c 0 m.register ∷ sample_readings flow ret m.samples ++ date_reading 0 m.day ∷ []) (set_day_readings c m.set_day) dated (set_day_read c m.set_day is days.set_day)

-- the days of entries, the other way round
pub newest_first : (es : List (MonthEntry Register)) → All IsInCentury es → All IsInCentury (reverse es)
newest_first es days k d lt =
    let inside : k < length es = omega (arith, length-reverse es) in
    let P : MonthEntry Register → Type 0 = IsInCentury in
    subst P (sym (get_or-reverse es k d inside)) (days (length es - 1 - k) d (omega arith))

-- the records of any telegram that there is
telegram_read : (c : Configuration) (m : MeterRecord) (k : ℕ) → IsConfiguration c → HasDays m → k ≤ 3 → AreRead (records_of c m k) (readings_of c m k)
telegram_read c m zero is days few = first_read c m is days
telegram_read c m (suc k) is days few =
    entries_read c (8 * k + 2) (take 8 (drop (8 * k) (newest m))) is
    (All-take IsInCentury 8 (drop (8 * k) (newest m)) (All-drop IsInCentury (8 * k) (newest m) (All-take IsInCentury 24 (reverse m.months) (newest_first m.months days.months))))
    (omega (arith, length-take 8 (drop (8 * k) (newest m))))

mark_read : (more : Bool) → records_in 0 (if more then 31 ∷ [] else []) ≡ Ok ([], more)
mark_read true = refl
mark_read false = refl

-- and the mark behind them
pub records_read : (c : Configuration) (m : MeterRecord) (k : ℕ) → IsConfiguration c → HasDays m → k ≤ 3 → records_in 0 (records_of c m k ++ mark_of m k) ≡ Ok (readings_of c m k, nat_lt (8 * k) (length (newest m)))
records_read c m k is days few =
    telegram_read c m k is days few (mark_of m k)
    ∙ ap (in_front (readings_of c m k)) (mark_read (nat_lt (8 * k) (length (newest m))))
    ∙ ap (λ (l : List Reading). Ok (l, nat_lt (8 * k) (length (newest m)))) (append-nil (readings_of c m k))
