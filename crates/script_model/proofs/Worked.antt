-- Lines of scripts and what they say, worked by hand.
use Rattle.std.proofs.Common.{◌≡◌, [], ◌∷◌, Some, None, Ok, Err, refl, codes}
use Rattle.jiff_core.specs.Calendar.{days_from_civil, day_count, days_of_years, days_of_months}
use Rattle.calendar_model.specs.Calendar.{day_number}
use Rattle.hex.specs.Hex.{decode_pairs}
use Rattle.metering_model.specs.Events.{Sample, Pulse, Date}
use Rattle.script_model.specs.Lines.{lines_of, words_of}
use Rattle.script_model.specs.Numbers.{number_in}
use Rattle.script_model.specs.Dates.{date_in}
use Rattle.script_model.specs.Hex.{byte_in, hex_in}
use Rattle.script_model.specs.Grammar.{Metering, Power, Cut, Opt, Mbus, line_of}

-- ---- lines and words

-- with and without the last LF
two_lines : lines_of (codes "pulse 3\npulse 4\n") ≡ codes "pulse 3" ∷ codes "pulse 4" ∷ []
two_lines = refl

without_last_lf : lines_of (codes "pulse 3\npulse 4") ≡ codes "pulse 3" ∷ codes "pulse 4" ∷ []
without_last_lf = refl

-- an empty text has no line, and an LF alone ends an empty one
empty_text : lines_of (codes "") ≡ []
empty_text = refl

empty_line : lines_of (codes "\n") ≡ [] ∷ []
empty_line = refl

empty_between : lines_of (codes "a\n\nb") ≡ codes "a" ∷ [] ∷ codes "b" ∷ []
empty_between = refl

-- an empty word stands between two spaces, and behind a space at the end
three_words : words_of (codes "sample 1 2") ≡ codes "sample" ∷ codes "1" ∷ codes "2" ∷ []
three_words = refl

empty_word : words_of (codes "a  b ") ≡ codes "a" ∷ [] ∷ codes "b" ∷ [] ∷ []
empty_word = refl

-- ---- what lines say

samples : line_of (codes "sample 616209500 596985625") ≡ Ok (Metering (Sample 616209500 596985625))
samples = refl

ends_of_samples : line_of (codes "sample 0 4294967295") ≡ Ok (Metering (Sample 0 4294967295))
ends_of_samples = refl

pulses : line_of (codes "pulse 3") ≡ Ok (Metering (Pulse 3))
pulses = refl

most_pulses : line_of (codes "pulse 1000000000000000") ≡ Ok (Metering (Pulse 1000000000000000))
most_pulses = refl

date : line_of (codes "date 2024-01-15") ≡ Ok (Metering (Date 8780))
unfolding day_number days_from_civil day_count days_of_years days_of_months
date = refl

leap_day : line_of (codes "date 2024-02-29") ≡ Ok (Metering (Date 8825))
unfolding day_number days_from_civil day_count days_of_years days_of_months
leap_day = refl

last_date : line_of (codes "date 2099-12-31") ≡ Ok (Metering (Date 36524))
unfolding day_number days_from_civil day_count days_of_years days_of_months
last_date = refl

-- the power fails, and a cut of it is ordered
power : line_of (codes "power") ≡ Ok Power
power = refl

cut : line_of (codes "cut 1 7 5A") ≡ Ok (Cut 1 7 0x5a)
unfolding decode_pairs
cut = refl

ends_of_cuts : line_of (codes "cut 65535 16384 fF") ≡ Ok (Cut 65535 16384 0xff)
unfolding decode_pairs
ends_of_cuts = refl

nothing_kept : line_of (codes "cut 1 0 00") ≡ Ok (Cut 1 0 0)
unfolding decode_pairs
nothing_kept = refl

-- digits of either case
message : line_of (codes "opt 2F3F210D0A") ≡ Ok (Opt (0x2f ∷ 0x3f ∷ 0x21 ∷ 0x0d ∷ 0x0a ∷ []))
unfolding decode_pairs
message = refl

small_letters : line_of (codes "opt 2f3f210d0a") ≡ Ok (Opt (0x2f ∷ 0x3f ∷ 0x21 ∷ 0x0d ∷ 0x0a ∷ []))
unfolding decode_pairs
small_letters = refl

frame : line_of (codes "mbus 1040014116") ≡ Ok (Mbus (0x10 ∷ 0x40 ∷ 0x01 ∷ 0x41 ∷ 0x16 ∷ []))
unfolding decode_pairs
frame = refl

one_byte : line_of (codes "mbus E5") ≡ Ok (Mbus (0xe5 ∷ []))
unfolding decode_pairs
one_byte = refl

-- the days of 2024-01-14 and 2024-01-15
pub january_14 : day_number 2024 1 14 ≡ 8779
unfolding day_number days_from_civil day_count days_of_years days_of_months
january_14 = refl

pub january_15 : day_number 2024 1 15 ≡ 8780
unfolding day_number days_from_civil day_count days_of_years days_of_months
january_15 = refl

-- ---- lines that are wrong, by the place of the first wrong, missing or extra word

unknown_name : line_of (codes "pulses 3") ≡ Err 0
unknown_name = refl

capital_name : line_of (codes "Pulse 3") ≡ Err 0
capital_name = refl

no_line : line_of (codes "") ≡ Err 0
no_line = refl

space_before : line_of (codes " pulse 3") ≡ Err 0
space_before = refl

no_pulse : line_of (codes "pulse 0") ≡ Err 1
no_pulse = refl

pulse_too_many : line_of (codes "pulse 1000000000000001") ≡ Err 1
pulse_too_many = refl

leading_zero : line_of (codes "pulse 01") ≡ Err 1
leading_zero = refl

sign : line_of (codes "pulse +3") ≡ Err 1
sign = refl

carriage_return : line_of (codes "pulse 3\r") ≡ Err 1
carriage_return = refl

no_number : line_of (codes "pulse") ≡ Err 1
no_number = refl

two_spaces : line_of (codes "pulse  3") ≡ Err 1
two_spaces = refl

second_number : line_of (codes "pulse 3 4") ≡ Err 2
second_number = refl

space_behind : line_of (codes "pulse 3 ") ≡ Err 2
space_behind = refl

sample_too_great : line_of (codes "sample 4294967296 0") ≡ Err 1
sample_too_great = refl

second_too_great : line_of (codes "sample 0 4294967296") ≡ Err 2
second_too_great = refl

one_sample : line_of (codes "sample 1") ≡ Err 2
one_sample = refl

three_samples : line_of (codes "sample 1 2 3") ≡ Err 3
three_samples = refl

letters : line_of (codes "sample 1 x") ≡ Err 2
letters = refl

no_leap_day : line_of (codes "date 2023-02-29") ≡ Err 1
unfolding day_number days_from_civil day_count days_of_years days_of_months
no_leap_day = refl

april_31 : line_of (codes "date 2024-04-31") ≡ Err 1
unfolding day_number days_from_civil day_count days_of_years days_of_months
april_31 = refl

month_0 : line_of (codes "date 2024-00-15") ≡ Err 1
unfolding day_number days_from_civil day_count days_of_years days_of_months
month_0 = refl

month_13 : line_of (codes "date 2024-13-15") ≡ Err 1
unfolding day_number days_from_civil day_count days_of_years days_of_months
month_13 = refl

day_0 : line_of (codes "date 2024-01-00") ≡ Err 1
unfolding day_number days_from_civil day_count days_of_years days_of_months
day_0 = refl

year_1999 : line_of (codes "date 1999-12-31") ≡ Err 1
unfolding day_number days_from_civil day_count days_of_years days_of_months
year_1999 = refl

year_2100 : line_of (codes "date 2100-01-01") ≡ Err 1
unfolding day_number days_from_civil day_count days_of_years days_of_months
year_2100 = refl

one_digit : line_of (codes "date 2024-1-15") ≡ Err 1
unfolding day_number days_from_civil day_count days_of_years days_of_months
one_digit = refl

other_dash : line_of (codes "date 2024/01/15") ≡ Err 1
unfolding day_number days_from_civil day_count days_of_years days_of_months
other_dash = refl

no_date : line_of (codes "date") ≡ Err 1
unfolding day_number days_from_civil day_count days_of_years days_of_months
no_date = refl

date_and_more : line_of (codes "date 2024-01-15 0") ≡ Err 2
unfolding day_number days_from_civil day_count days_of_years days_of_months
date_and_more = refl

power_and_more : line_of (codes "power 1") ≡ Err 1
power_and_more = refl

space_behind_power : line_of (codes "power ") ≡ Err 1
space_behind_power = refl

no_call : line_of (codes "cut 0 0 00") ≡ Err 1
unfolding decode_pairs
no_call = refl

call_too_late : line_of (codes "cut 65536 0 00") ≡ Err 1
unfolding decode_pairs
call_too_late = refl

keep_too_great : line_of (codes "cut 1 16385 00") ≡ Err 2
unfolding decode_pairs
keep_too_great = refl

fill_of_one_digit : line_of (codes "cut 1 0 0") ≡ Err 3
unfolding decode_pairs
fill_of_one_digit = refl

fill_of_three_digits : line_of (codes "cut 1 0 000") ≡ Err 3
unfolding decode_pairs
fill_of_three_digits = refl

fill_of_two_bytes : line_of (codes "cut 1 0 0000") ≡ Err 3
unfolding decode_pairs
fill_of_two_bytes = refl

fill_no_digit : line_of (codes "cut 1 0 0g") ≡ Err 3
unfolding decode_pairs
fill_no_digit = refl

no_fill : line_of (codes "cut 1 0") ≡ Err 3
unfolding decode_pairs
no_fill = refl

no_keep : line_of (codes "cut 1") ≡ Err 2
unfolding decode_pairs
no_keep = refl

cut_alone : line_of (codes "cut") ≡ Err 1
unfolding decode_pairs
cut_alone = refl

cut_and_more : line_of (codes "cut 1 0 00 1") ≡ Err 4
unfolding decode_pairs
cut_and_more = refl

odd_digits : line_of (codes "opt 2F3") ≡ Err 1
unfolding decode_pairs
odd_digits = refl

no_digit : line_of (codes "opt 2G") ≡ Err 1
unfolding decode_pairs
no_digit = refl

no_message : line_of (codes "opt") ≡ Err 1
unfolding decode_pairs
no_message = refl

empty_message : line_of (codes "opt ") ≡ Err 1
unfolding decode_pairs
empty_message = refl

second_message : line_of (codes "opt 06 30") ≡ Err 2
unfolding decode_pairs
second_message = refl

no_frame : line_of (codes "mbus") ≡ Err 1
unfolding decode_pairs
no_frame = refl

odd_frame : line_of (codes "mbus E") ≡ Err 1
unfolding decode_pairs
odd_frame = refl

second_frame : line_of (codes "mbus E5 E5") ≡ Err 2
unfolding decode_pairs
second_frame = refl

-- ---- single words

zero_alone : number_in 0 9 (codes "0") ≡ Some 0
zero_alone = refl

two_zeros : number_in 0 9 (codes "00") ≡ None
two_zeros = refl

above : number_in 1 9 (codes "10") ≡ None
above = refl

below : number_in 1 9 (codes "0") ≡ None
below = refl

no_digits : number_in 0 9 (codes "") ≡ None
no_digits = refl

first_day_of_century : date_in (codes "2000-01-01") ≡ Some 0
unfolding day_number days_from_civil day_count days_of_years days_of_months
first_day_of_century = refl

no_bytes : hex_in (codes "") ≡ None
unfolding decode_pairs
no_bytes = refl

mixed_case : hex_in (codes "aBCd") ≡ Some (0xab ∷ 0xcd ∷ [])
unfolding decode_pairs
mixed_case = refl

one_byte_said : byte_in (codes "a5") ≡ Some 0xa5
unfolding decode_pairs
one_byte_said = refl

no_byte_said : byte_in (codes "") ≡ None
unfolding decode_pairs
no_byte_said = refl

two_bytes_said : byte_in (codes "A5a5") ≡ None
unfolding decode_pairs
two_bytes_said = refl
