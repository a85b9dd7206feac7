-- Memories that are read, worked by hand: the standard configuration, the record of a new meter, a record with samples, a
-- negative energy, a set day and two months, and some with one wrong byte.
use Rattle.std.specs.Prelude.{◌≡◌, ℕ, List, [], ◌∷◌, ◌++◌, replicate, slice_set, pos, negsuc, Some, Ok, Err, refl}
use Rattle.calendar_model.specs.Entries.{MonthEntry}
use Rattle.calendar_model.proofs.Worked.{is_first_february, is_first_march, not_first, begun_february, begun_start_of_march, begun_march}
use Rattle.platinum_model.specs.Element.{nominal}
use Rattle.config_model.specs.Configuration.{Configuration}
use Rattle.config_model.specs.Standard.{standard}
use Rattle.metering_model.specs.Records.{MeterRecord, Register, opening_record}
use Rattle.memory_model.specs.Fields.{number, zero_bytes}
use Rattle.memory_model.specs.Header.{header_fields, header_in, configuration_of, constants_of}
use Rattle.memory_model.specs.Slot.{record_in, record_of, record_fields, month_fields, month_keeps, set_day_keeps, months_of, samples_of, set_day_of, is_entry, entry_of, follows, goes_on, ends_right}
use Rattle.memory_model.specs.Stored.{stored, A, B, Unformatted, Foreign, Holds}
use Rattle.memory_model.specs.Slots as looks
use Rattle.memory_model.specs.Slots.{look}

-- ---- a record: its bytes

-- a number below 256 in 8 and in 16 bytes
abbrev pub in_8 : ℕ → List ℕ
in_8 n = n ∷ replicate 7 0

abbrev in_16 : ℕ → List ℕ
in_16 n = n ∷ replicate 15 0

-- the 48 bytes of an entry
abbrev entry_text : (low high pulses : ℕ) (energy : List ℕ) (bound : ℕ) → List ℕ
entry_text low high pulses energy bound = low ∷ high ∷ replicate 6 0 ++ in_8 pulses ++ energy ++ in_16 bound

-- -1 mJ in two's complement
abbrev minus_one : List ℕ
minus_one = replicate 16 255

-- 2024-02-01 with 3 pulses, -1 mJ and the bound 5 mJ
abbrev february_text : List ℕ
february_text = entry_text 93 34 3 minus_one 5

-- 2024-03-01 with 5 pulses, 7 mJ and the bound 6 mJ
abbrev march_text : List ℕ
march_text = entry_text 122 34 5 (in_16 7) 6

-- 2024-03-04, with samples in force, two months and a set day
abbrev flags : List ℕ
flags = 125 ∷ 34 ∷ 1 ∷ 2 ∷ 1 ∷ 0 ∷ 0 ∷ 0 ∷ []

-- 692,527,500 and 596,985,625 microohms
abbrev samples : List ℕ
samples = 140 ∷ 33 ∷ 71 ∷ 41 ∷ 25 ∷ 71 ∷ 149 ∷ 35 ∷ []

-- 9 pulses of which 1 is faulty, -123,456,789 mJ and the bound 2,000 mJ
abbrev sums : List ℕ
sums = in_8 1 ++ in_8 9 ++ 235 ∷ 50 ∷ 164 ∷ 248 ∷ replicate 12 255 ++ 208 ∷ 7 ∷ replicate 14 0

-- the slot's 1,280 bytes, after 7 events
abbrev slot_of : (flags samples sums set_day first second : List ℕ) → List ℕ
slot_of flags samples sums set_day first second =
    in_8 7 ++ flags ++ samples ++ sums ++ set_day ++ first ++ second ++ replicate 1064 0

abbrev full_text : List ℕ
full_text = slot_of flags samples sums february_text february_text march_text

abbrev february : MonthEntry Register
february = record { day = 8797; register = record { pulses = 3; energy_mj = negsuc 0; bound_mj = 5 } }

abbrev march : MonthEntry Register
march = record { day = 8826; register = record { pulses = 5; energy_mj = pos 7; bound_mj = 6 } }

abbrev full_record : MeterRecord
full_record = record {
  seq = 7;
  day = 8829;
  samples = Some (692527500, 596985625);
  faulty = 1;
  register = record { pulses = 9; energy_mj = negsuc 123456788; bound_mj = 2000 };
  months = february ∷ march ∷ [];
  set_day = Some february;
}

full_slot : record_in full_text ≡ Ok full_record
unfolding record_in record_fields record_of number month_fields month_keeps set_day_keeps months_of samples_of set_day_of is_entry entry_of follows goes_on ends_right
full_slot = rw (is_first_february, is_first_march, begun_february, begun_start_of_march, begun_march) refl

-- ---- records with one fault, by the offset of the field

-- the second month is that of the first again
same_month : record_in (slot_of flags samples sums february_text february_text february_text) ≡ Err 168
unfolding record_in record_fields record_of number month_fields month_keeps set_day_keeps months_of samples_of set_day_of is_entry entry_of follows goes_on ends_right
same_month = rw (is_first_february, begun_february) refl

-- the pulses fall from 3 to 2
fewer_pulses : record_in (slot_of flags samples sums february_text february_text (entry_text 122 34 2 (in_16 7) 6)) ≡ Err 168
unfolding record_in record_fields record_of number month_fields month_keeps set_day_keeps months_of samples_of set_day_of is_entry entry_of follows goes_on ends_right
fewer_pulses = rw (is_first_february, is_first_march, begun_february, begun_start_of_march) refl

-- an entry that is not on a first day, 2024-03-04; one with more pulses than the record; one without pulses, but with energy
not_on_first : record_in (slot_of flags samples sums february_text (entry_text 125 34 3 minus_one 5) march_text) ≡ Err 120
unfolding record_in record_fields record_of number month_fields month_keeps set_day_keeps months_of samples_of set_day_of is_entry entry_of follows goes_on ends_right
not_on_first = rw (is_first_february, not_first) refl

more_pulses : record_in (slot_of flags samples sums february_text (entry_text 93 34 10 minus_one 5) march_text) ≡ Err 120
unfolding record_in record_fields record_of number month_fields month_keeps set_day_keeps months_of samples_of set_day_of is_entry entry_of follows goes_on ends_right
more_pulses = rw is_first_february refl

energy_of_none : record_in (slot_of flags samples sums (entry_text 93 34 0 minus_one 0) february_text march_text) ≡ Err 72
unfolding record_in record_fields record_of number month_fields month_keeps set_day_keeps months_of samples_of set_day_of is_entry entry_of follows goes_on ends_right
energy_of_none = rw is_first_february refl

-- on 2024-01-15, with no months, a set day that is still to come
set_day_ahead : record_in (slot_of (76 ∷ 34 ∷ 1 ∷ 0 ∷ 1 ∷ 0 ∷ 0 ∷ 0 ∷ []) samples sums february_text (replicate 48 0) (replicate 48 0)) ≡ Err 72
unfolding record_in record_fields record_of number month_fields month_keeps set_day_keeps months_of samples_of set_day_of is_entry entry_of follows goes_on ends_right
set_day_ahead = rw is_first_february refl

-- one month of two is counted
uncounted_month : record_in (slot_of (125 ∷ 34 ∷ 1 ∷ 1 ∷ 0 ∷ 0 ∷ 0 ∷ 0 ∷ []) samples sums (replicate 48 0) march_text march_text) ≡ Err 168
unfolding record_in record_fields record_of number month_fields month_keeps set_day_keeps months_of samples_of set_day_of is_entry entry_of follows goes_on ends_right
uncounted_month = rw (is_first_march, begun_start_of_march, begun_march) refl

-- the last month is not that of the day
old_month : record_in (slot_of (125 ∷ 34 ∷ 1 ∷ 1 ∷ 0 ∷ 0 ∷ 0 ∷ 0 ∷ []) samples sums (replicate 48 0) february_text (replicate 48 0)) ≡ Err 120
unfolding record_in record_fields record_of number month_fields month_keeps set_day_keeps months_of samples_of set_day_of is_entry entry_of follows goes_on ends_right
old_month = rw (is_first_february, begun_february, begun_march) refl

-- samples where none are in force; 25 months; 2 for a set day that is kept; the third of the zeros behind it
samples_of_none : record_in (slot_of (125 ∷ 34 ∷ 0 ∷ 2 ∷ 1 ∷ 0 ∷ 0 ∷ 0 ∷ []) samples sums february_text february_text march_text) ≡ Err 16
unfolding record_in record_fields record_of number month_fields month_keeps set_day_keeps months_of samples_of set_day_of is_entry entry_of follows goes_on ends_right
samples_of_none = refl

month_25 : record_in (slot_of (125 ∷ 34 ∷ 1 ∷ 25 ∷ 1 ∷ 0 ∷ 0 ∷ 0 ∷ []) samples sums february_text february_text march_text) ≡ Err 11
unfolding record_in record_fields record_of number month_fields month_keeps set_day_keeps months_of samples_of set_day_of is_entry entry_of follows goes_on ends_right
month_25 = refl

second_set_day : record_in (slot_of (125 ∷ 34 ∷ 1 ∷ 2 ∷ 2 ∷ 0 ∷ 0 ∷ 0 ∷ []) samples sums february_text february_text march_text) ≡ Err 12
unfolding record_in record_fields record_of number month_fields month_keeps set_day_keeps months_of samples_of set_day_of is_entry entry_of follows goes_on ends_right
second_set_day = refl

between_fields : record_in (slot_of (125 ∷ 34 ∷ 1 ∷ 2 ∷ 1 ∷ 0 ∷ 0 ∷ 1 ∷ []) samples sums february_text february_text march_text) ≡ Err 13
unfolding record_in record_fields record_of number month_fields month_keeps set_day_keeps months_of samples_of set_day_of is_entry entry_of follows goes_on ends_right
between_fields = refl

-- more faulty pulses than pulses; without pulses, energy, and a bound
faulty_of_none : record_in (slot_of flags samples (in_8 1 ++ in_8 0 ++ in_16 0 ++ in_16 0) february_text february_text march_text) ≡ Err 32
unfolding record_in record_fields record_of number month_fields month_keeps set_day_keeps months_of samples_of set_day_of is_entry entry_of follows goes_on ends_right
faulty_of_none = refl

energy_without_pulses : record_in (slot_of flags samples (in_8 0 ++ in_8 0 ++ minus_one ++ in_16 0) february_text february_text march_text) ≡ Err 40
unfolding record_in record_fields record_of number month_fields month_keeps set_day_keeps months_of samples_of set_day_of is_entry entry_of follows goes_on ends_right
energy_without_pulses = refl

bound_without_pulses : record_in (slot_of flags samples (in_8 0 ++ in_8 0 ++ in_16 0 ++ in_16 1) february_text february_text march_text) ≡ Err 56
unfolding record_in record_fields record_of number month_fields month_keeps set_day_keeps months_of samples_of set_day_of is_entry entry_of follows goes_on ends_right
bound_without_pulses = refl

-- ---- the header

-- the 24 bytes of the standard configuration
abbrev pub standard_text : List ℕ
standard_text =
    0xa5 ∷ 0x01 ∷ 0x4e ∷ 0x61 ∷ 0xbc ∷ 0x00 ∷ 0x41 ∷ 0x42 ∷ 0x43 ∷ 0x01 ∷ 0x01 ∷ 0x01 ∷ 0x40 ∷ 0x06 ∷ 0xf4 ∷ 0x01 ∷ 0x0a ∷ 0x00 ∷ 0x00 ∷ 0x02 ∷ 0x01 ∷ 0x00 ∷ 0x4c ∷ 0x22 ∷ []

-- the header's 256 bytes with one byte in place of another
abbrev header_with : (at byte : ℕ) → List ℕ
header_with at byte = slice_set (standard_text ++ replicate 232 0) at byte

standard_header : header_in (standard_text ++ replicate 232 0) ≡ Ok standard
unfolding header_in header_fields configuration_of constants_of number zero_bytes
standard_header = refl

-- one wrong byte: the offset of its field
even_format : header_in (header_with 1 2) ≡ Err 1
unfolding header_in header_fields configuration_of number zero_bytes
even_format = refl

wrong_serial : header_in (header_with 5 6) ≡ Err 2
unfolding header_in header_fields configuration_of number zero_bytes
wrong_serial = refl

small_letter : header_in (header_with 6 97) ≡ Err 6
unfolding header_in header_fields configuration_of number zero_bytes
small_letter = refl

no_letter : header_in (header_with 7 64) ≡ Err 7
unfolding header_in header_fields configuration_of number zero_bytes
no_letter = refl

no_third_letter : header_in (header_with 8 91) ≡ Err 8
unfolding header_in header_fields configuration_of number zero_bytes
no_third_letter = refl

wrong_address : header_in (header_with 10 251) ≡ Err 10
unfolding header_in header_fields configuration_of number zero_bytes
wrong_address = refl

wrong_place : header_in (header_with 11 2) ≡ Err 11
unfolding header_in header_fields configuration_of number zero_bytes
wrong_place = refl

low_pressure : header_in (header_with 13 4) ≡ Err 12
unfolding header_in header_fields configuration_of number zero_bytes
low_pressure = refl

wrong_sensor : header_in (header_with 14 245) ≡ Err 14
unfolding header_in header_fields configuration_of number zero_bytes
wrong_sensor = refl

wrong_litres : header_in (header_with 16 11) ≡ Err 16
unfolding header_in header_fields configuration_of number zero_bytes
wrong_litres = refl

wrong_energy_decimals : header_in (header_with 18 4) ≡ Err 18
unfolding header_in header_fields configuration_of number zero_bytes
wrong_energy_decimals = refl

wrong_volume_decimals : header_in (header_with 19 4) ≡ Err 19
unfolding header_in header_fields configuration_of number zero_bytes
wrong_volume_decimals = refl

wrong_set_month : header_in (header_with 20 0) ≡ Err 20
unfolding header_in header_fields configuration_of number zero_bytes
wrong_set_month = refl

wrong_byte_21 : header_in (header_with 21 1) ≡ Err 21
unfolding header_in header_fields configuration_of number zero_bytes
wrong_byte_21 = refl

wrong_opening_day : header_in (header_with 23 143) ≡ Err 22
unfolding header_in header_fields configuration_of number zero_bytes
wrong_opening_day = refl

neither_calibrated_nor_not : header_in (header_with 24 2) ≡ Err 24
unfolding header_in header_fields configuration_of number zero_bytes
neither_calibrated_nor_not = refl

first_zero : header_in (header_with 25 1) ≡ Err 25
unfolding header_in header_fields configuration_of number zero_bytes
first_zero = refl

-- constants of 0 fit no sensor, and only they stand where the sensors are not calibrated
no_constants : header_in (header_with 24 1) ≡ Err 28
unfolding header_in header_fields configuration_of number zero_bytes
no_constants = refl

flow_r0_of_1 : header_in (header_with 28 1) ≡ Err 28
unfolding header_in header_fields configuration_of number zero_bytes
flow_r0_of_1 = refl

return_b_of_256 : header_in (header_with 49 1) ≡ Err 48
unfolding header_in header_fields configuration_of number zero_bytes
return_b_of_256 = refl

last_zero : header_in (header_with 255 255) ≡ Err 255
unfolding header_in header_fields configuration_of number zero_bytes
last_zero = refl

-- calibrated sensors: 501 ohms in the flow, the nominal constants in the return
abbrev constants_text : List ℕ
constants_text = 1 ∷ 0 ∷ 0 ∷ 0 ∷ 64 ∷ 167 ∷ 220 ∷ 29 ∷ 248 ∷ 91 ∷ 84 ∷ 2 ∷ 143 ∷ 22 ∷ 0 ∷ 0 ∷ 0 ∷ 101 ∷ 205 ∷ 29 ∷ 248 ∷ 91 ∷ 84 ∷ 2 ∷ 143 ∷ 22 ∷ 0 ∷ 0 ∷ []

abbrev calibrated_text : List ℕ
calibrated_text = standard_text ++ constants_text ++ replicate 204 0

abbrev calibrated : Configuration
calibrated = record standard { calibration = Some (record { r0_uohm = 501000000; a_e10 = 39083000; b_e10 = 5775 }, nominal 500000000) }

calibrated_header : header_in calibrated_text ≡ Ok calibrated
unfolding header_in header_fields configuration_of constants_of number zero_bytes
calibrated_header = refl

-- B of the flow 5,263 in place of 5,775, and bytes behind constants that are not 0
low_flow_b : header_in (slice_set calibrated_text 37 20) ≡ Err 36
unfolding header_in header_fields configuration_of number zero_bytes
low_flow_b = refl

behind_flow_b : header_in (slice_set calibrated_text 39 1) ≡ Err 39
unfolding header_in header_fields configuration_of number zero_bytes
behind_flow_b = refl

behind_return_b : header_in (slice_set calibrated_text 50 1) ≡ Err 50
unfolding header_in header_fields configuration_of number zero_bytes
behind_return_b = refl

-- any odd format, and any version
odd_format : header_in (header_with 1 0x4b) ≡ Ok standard
unfolding header_in header_fields configuration_of constants_of number zero_bytes
odd_format = refl

other_version : header_in (header_with 9 255) ≡ Ok (record standard { version = 255 })
unfolding header_in header_fields configuration_of constants_of number zero_bytes
other_version = refl

-- ---- the memory of 16,384 bytes

-- the first 256 bytes, the gate, and the slots A and B
abbrev pub memory_of : (header : List ℕ) (gate : ℕ) (a b : List ℕ) → List ℕ
memory_of header gate a b =
    header ++ gate ∷ replicate 255 0 ++ a ++ replicate 256 0 ++ b ++ replicate 13056 0

-- the slot of a new meter, but for the two bytes of its day
abbrev pub slot_text : (low high : ℕ) → List ℕ
slot_text low high = replicate 8 0 ++ low ∷ high ∷ replicate 1270 0

abbrev pub header : List ℕ
header = standard_text ++ replicate 232 0

opening_slot : record_in (slot_text 0x4c 0x22) ≡ Ok (opening_record 8780)
unfolding record_in record_fields record_of number month_fields month_keeps set_day_keeps months_of samples_of set_day_of is_entry entry_of follows goes_on ends_right
opening_slot = refl

-- slot A where the gate is even, and slot B where it is odd
gate_0 : stored (memory_of header 0 (slot_text 0x4c 0x22) (slot_text 0x5d 0x22)) ≡ Holds standard (opening_record 8780) A
unfolding record_in record_fields record_of number month_fields month_keeps set_day_keeps months_of samples_of set_day_of is_entry entry_of follows goes_on ends_right header_in header_fields configuration_of constants_of zero_bytes
gate_0 = refl

gate_1 : stored (memory_of header 1 (slot_text 0x4c 0x22) (slot_text 0x5d 0x22)) ≡ Holds standard (opening_record 8797) B
unfolding record_in record_fields record_of number month_fields month_keeps set_day_keeps months_of samples_of set_day_of is_entry entry_of follows goes_on ends_right header_in header_fields configuration_of constants_of zero_bytes
gate_1 = refl

gate_5A : stored (memory_of header 0x5a (slot_text 0x4c 0x22) (slot_text 0x5d 0x22)) ≡ Holds standard (opening_record 8780) A
unfolding record_in record_fields record_of number month_fields month_keeps set_day_keeps months_of samples_of set_day_of is_entry entry_of follows goes_on ends_right header_in header_fields configuration_of constants_of zero_bytes
gate_5A = refl

gate_FF : stored (memory_of header 0xff (slot_text 0x4c 0x22) (slot_text 0x5d 0x22)) ≡ Holds standard (opening_record 8797) B
unfolding record_in record_fields record_of number month_fields month_keeps set_day_keeps months_of samples_of set_day_of is_entry entry_of follows goes_on ends_right header_in header_fields configuration_of constants_of zero_bytes
gate_FF = refl

-- the other slot is not looked at
not_looked_at : stored (memory_of header 0 (slot_text 0x4c 0x22) (slot_text 0xff 0xff)) ≡ Holds standard (opening_record 8780) A
unfolding record_in record_fields record_of number month_fields month_keeps set_day_keeps months_of samples_of set_day_of is_entry entry_of follows goes_on ends_right header_in header_fields configuration_of constants_of zero_bytes
not_looked_at = refl

-- FF FF in bytes 520 and 521, and in 2056 and 2057
foreign_in_A : stored (memory_of header 0 (slot_text 0xff 0xff) (slot_text 0x4c 0x22)) ≡ Foreign 520
unfolding record_in record_fields record_of number month_fields month_keeps set_day_keeps months_of samples_of set_day_of is_entry entry_of follows goes_on ends_right header_in header_fields configuration_of constants_of zero_bytes
foreign_in_A = refl

foreign_in_B : stored (memory_of header 1 (slot_text 0x4c 0x22) (slot_text 0xff 0xff)) ≡ Foreign 2056
unfolding record_in record_fields record_of number month_fields month_keeps set_day_keeps months_of samples_of set_day_of is_entry entry_of follows goes_on ends_right header_in header_fields configuration_of constants_of zero_bytes
foreign_in_B = refl

-- byte 11 is 02, whatever the slot holds
foreign_header : stored (memory_of (header_with 11 2) 0 (slot_text 0xff 0xff) (slot_text 0xff 0xff)) ≡ Foreign 11
unfolding record_in record_fields record_of number month_fields month_keeps set_day_keeps months_of samples_of set_day_of is_entry entry_of follows goes_on ends_right header_in header_fields configuration_of constants_of zero_bytes
foreign_header = refl

-- byte 0 is 00, whatever stands behind it
not_formatted : stored (memory_of (header_with 0 0) 0 (slot_text 0x4c 0x22) (slot_text 0x4c 0x22)) ≡ Unformatted 0
unfolding record_in record_fields record_of number month_fields month_keeps set_day_keeps months_of samples_of set_day_of is_entry entry_of follows goes_on ends_right header_in header_fields configuration_of constants_of zero_bytes
not_formatted = refl

other_mark : stored (memory_of (header_with 0 0x5a) 0 (slot_text 0x4c 0x22) (slot_text 0x4c 0x22)) ≡ Unformatted 0x5a
unfolding record_in record_fields record_of number month_fields month_keeps set_day_keeps months_of samples_of set_day_of is_entry entry_of follows goes_on ends_right header_in header_fields configuration_of constants_of zero_bytes
other_mark = refl

-- the record above in slot B
held_in_B : stored (memory_of header 1 (replicate 1280 0) full_text) ≡ Holds standard full_record B
unfolding record_in record_fields record_of number month_fields month_keeps set_day_keeps months_of samples_of set_day_of is_entry entry_of follows goes_on ends_right header_in header_fields configuration_of constants_of zero_bytes
held_in_B = rw (is_first_february, is_first_march, begun_february, begun_start_of_march, begun_march) refl

-- ---- a look at both slots

-- the new meter's slot in A, and the record above in B, after 7 events
both_shown : look (memory_of header 1 (slot_text 0x4c 0x22) full_text) ≡ looks.Slots B (Ok 0) (Ok 7)
unfolding record_in record_fields record_of number month_fields month_keeps set_day_keeps months_of samples_of set_day_of is_entry entry_of follows goes_on ends_right header_in header_fields configuration_of zero_bytes
both_shown = rw (is_first_february, is_first_march, begun_february, begun_start_of_march, begun_march) refl

-- the slot that isn't chosen is looked at too, and both may break a rule
other_foreign : look (memory_of header 0x5a (slot_text 0x4c 0x22) (slot_text 0xff 0xff)) ≡ looks.Slots A (Ok 0) (Err 2056)
unfolding record_in record_fields record_of number month_fields month_keeps set_day_keeps months_of samples_of set_day_of is_entry entry_of follows goes_on ends_right header_in header_fields configuration_of zero_bytes
other_foreign = refl

both_foreign : look (memory_of header 0xff (slot_text 0xff 0xff) (slot_text 0xff 0xff)) ≡ looks.Slots B (Err 520) (Err 2056)
unfolding record_in record_fields record_of number month_fields month_keeps set_day_keeps months_of samples_of set_day_of is_entry entry_of follows goes_on ends_right header_in header_fields configuration_of zero_bytes
both_foreign = refl

no_header : look (memory_of (header_with 11 2) 0 (slot_text 0x4c 0x22) (slot_text 0x4c 0x22)) ≡ looks.Foreign 11
unfolding record_in record_fields record_of number month_fields month_keeps set_day_keeps months_of samples_of set_day_of is_entry entry_of follows goes_on ends_right header_in header_fields configuration_of zero_bytes
no_header = refl

no_mark : look (memory_of (header_with 0 0x5a) 0 (slot_text 0x4c 0x22) (slot_text 0x4c 0x22)) ≡ looks.Unformatted 0x5a
unfolding record_in record_fields record_of number month_fields month_keeps set_day_keeps months_of samples_of set_day_of is_entry entry_of follows goes_on ends_right header_in header_fields configuration_of zero_bytes
no_mark = refl
