-- JSON values that are judged as configurations, worked by hand.
use Rattle.std.proofs.Common.{◌≡◌, ℕ, List, [], ◌∷◌, replicate, Some, None, Ok, Err, negsuc, refl, codes}
use Rattle.jiff_core.specs.Calendar.{days_from_civil, day_count, days_of_years, days_of_months}
use Rattle.calendar_model.specs.Calendar.{day_number}
use Rattle.json.specs.Lex.{lex, punctuate}
use Rattle.json.specs.Json.{items, members, value}
use Rattle.json.specs.Word.{word, after_number}
use Rattle.json.specs.Text.{content}
use Rattle.std.specs.Float.Numeral.{scan_numeral}
use Rattle.std.specs.Float.{float_is_finite}
use lib.Ieee.{round}
use lib.Utf8.{encode}
use Rattle.serde_json.specs.Read.{number_of}
use Rattle.std.specs.Str.{is_utf8, chars}
use Rattle.serde_json.specs.Data.{Data, null, number, unsigned, negative, string, array, object, no_items, Members, no_members, member, put}
use Rattle.parts_model.specs.Place.{Flow}
use Rattle.config_model.specs.Standard.{standard}
use Rattle.accept_model.specs.Keys.{keys, key_names, name_of}
use Rattle.accept_model.specs.Accepted.{accepted, of_value, said_by, value_at, TooLong, Text, NotObject, Missing, Wrong, Unknown}

-- the members of its text, in the order of their bytes
abbrev right_members : Members
right_members =
    member (codes "address") (number (unsigned 1)) (member (codes "energy_decimals") (number (unsigned 0)) (member (codes "litres_per_pulse") (number (unsigned 10)) (member (codes "maker") (string (codes "ABC")) (member (codes "opening_day") (string (codes "2024-01-15")) (member (codes "place") (string (codes "return")) (member (codes "pressure_kpa") (number (unsigned 1600)) (member (codes "sensor") (number (unsigned 500)) (member (codes "serial") (string (codes "12345678")) (member (codes "set_month") (number (unsigned 1)) (member (codes "version") (number (unsigned 1)) (member (codes "volume_decimals") (number (unsigned 2)) no_members)))))))))))

-- and with another value of a key
abbrev with_value : (name : List ℕ) → Data → Data
with_value name value = object (put name value right_members)

accepted_standard : of_value (Some (object right_members)) ≡ Ok standard
unfolding said_by value_at keys key_names day_number days_from_civil day_count days_of_years days_of_months
accepted_standard = refl

-- what is no JSON, no object or an empty one
no_json : of_value None ≡ Err Text
no_json = refl

no_object : of_value (Some (array no_items)) ≡ Err NotObject
no_object = refl

null_value : of_value (Some null) ≡ Err NotObject
null_value = refl

empty_object : of_value (Some (object no_members)) ≡ Err (Missing 0)
unfolding said_by value_at keys key_names day_number days_from_civil day_count days_of_years days_of_months
empty_object = refl

-- ---- the first missing key

-- two keys of twelve are missing: maker and place
maker_missing : of_value (Some (object (member (codes "address") (number (unsigned 1)) (member (codes "energy_decimals") (number (unsigned 0)) (member (codes "litres_per_pulse") (number (unsigned 10)) (member (codes "opening_day") (string (codes "2024-01-15")) (member (codes "pressure_kpa") (number (unsigned 1600)) (member (codes "sensor") (number (unsigned 500)) (member (codes "serial") (string (codes "12345678")) (member (codes "set_month") (number (unsigned 1)) (member (codes "version") (number (unsigned 1)) (member (codes "volume_decimals") (number (unsigned 2)) no_members)))))))))))) ≡ Err (Missing 1)
unfolding said_by value_at keys key_names day_number days_from_civil day_count days_of_years days_of_months
maker_missing = refl

last_missing : of_value (Some (object (member (codes "address") (number (unsigned 1)) (member (codes "energy_decimals") (number (unsigned 0)) (member (codes "litres_per_pulse") (number (unsigned 10)) (member (codes "maker") (string (codes "ABC")) (member (codes "place") (string (codes "return")) (member (codes "pressure_kpa") (number (unsigned 1600)) (member (codes "sensor") (number (unsigned 500)) (member (codes "serial") (string (codes "12345678")) (member (codes "set_month") (number (unsigned 1)) (member (codes "version") (number (unsigned 1)) (member (codes "volume_decimals") (number (unsigned 2)) no_members))))))))))))) ≡ Err (Missing 11)
unfolding said_by value_at keys key_names day_number days_from_civil day_count days_of_years days_of_months
last_missing = refl

-- ---- wrong values, by the number of their key

seven_digits : of_value (Some (with_value (codes "serial") (string (codes "1234567")))) ≡ Err (Wrong 0)
unfolding said_by value_at keys key_names day_number days_from_civil day_count days_of_years days_of_months
seven_digits = refl

nine_digits : of_value (Some (with_value (codes "serial") (string (codes "123456789")))) ≡ Err (Wrong 0)
unfolding said_by value_at keys key_names day_number days_from_civil day_count days_of_years days_of_months
nine_digits = refl

serial_letter : of_value (Some (with_value (codes "serial") (string (codes "1234567a")))) ≡ Err (Wrong 0)
unfolding said_by value_at keys key_names day_number days_from_civil day_count days_of_years days_of_months
serial_letter = refl

serial_number : of_value (Some (with_value (codes "serial") (number (unsigned 12345678)))) ≡ Err (Wrong 0)
unfolding said_by value_at keys key_names day_number days_from_civil day_count days_of_years days_of_months
serial_number = refl

small_letter : of_value (Some (with_value (codes "maker") (string (codes "AbC")))) ≡ Err (Wrong 1)
unfolding said_by value_at keys key_names day_number days_from_civil day_count days_of_years days_of_months
small_letter = refl

two_letters : of_value (Some (with_value (codes "maker") (string (codes "AB")))) ≡ Err (Wrong 1)
unfolding said_by value_at keys key_names day_number days_from_civil day_count days_of_years days_of_months
two_letters = refl

version_256 : of_value (Some (with_value (codes "version") (number (unsigned 256)))) ≡ Err (Wrong 2)
unfolding said_by value_at keys key_names day_number days_from_civil day_count days_of_years days_of_months
version_256 = refl

address_251 : of_value (Some (with_value (codes "address") (number (unsigned 251)))) ≡ Err (Wrong 3)
unfolding said_by value_at keys key_names day_number days_from_civil day_count days_of_years days_of_months
address_251 = refl

address_below_0 : of_value (Some (with_value (codes "address") (number (negative (negsuc 0))))) ≡ Err (Wrong 3)
unfolding said_by value_at keys key_names day_number days_from_civil day_count days_of_years days_of_months
address_below_0 = refl

address_text : of_value (Some (with_value (codes "address") (string (codes "1")))) ≡ Err (Wrong 3)
unfolding said_by value_at keys key_names day_number days_from_civil day_count days_of_years days_of_months
address_text = refl

place_capital : of_value (Some (with_value (codes "place") (string (codes "Return")))) ≡ Err (Wrong 4)
unfolding said_by value_at keys key_names day_number days_from_civil day_count days_of_years days_of_months
place_capital = refl

low_pressure : of_value (Some (with_value (codes "pressure_kpa") (number (unsigned 1099)))) ≡ Err (Wrong 5)
unfolding said_by value_at keys key_names day_number days_from_civil day_count days_of_years days_of_months
low_pressure = refl

high_pressure : of_value (Some (with_value (codes "pressure_kpa") (number (unsigned 4001)))) ≡ Err (Wrong 5)
unfolding said_by value_at keys key_names day_number days_from_civil day_count days_of_years days_of_months
high_pressure = refl

sensor_200 : of_value (Some (with_value (codes "sensor") (number (unsigned 200)))) ≡ Err (Wrong 6)
unfolding said_by value_at keys key_names day_number days_from_civil day_count days_of_years days_of_months
sensor_200 = refl

litres_5 : of_value (Some (with_value (codes "litres_per_pulse") (number (unsigned 5)))) ≡ Err (Wrong 7)
unfolding said_by value_at keys key_names day_number days_from_civil day_count days_of_years days_of_months
litres_5 = refl

energy_decimals_4 : of_value (Some (with_value (codes "energy_decimals") (number (unsigned 4)))) ≡ Err (Wrong 8)
unfolding said_by value_at keys key_names day_number days_from_civil day_count days_of_years days_of_months
energy_decimals_4 = refl

volume_decimals_4 : of_value (Some (with_value (codes "volume_decimals") (number (unsigned 4)))) ≡ Err (Wrong 9)
unfolding said_by value_at keys key_names day_number days_from_civil day_count days_of_years days_of_months
volume_decimals_4 = refl

set_month_0 : of_value (Some (with_value (codes "set_month") (number (unsigned 0)))) ≡ Err (Wrong 10)
unfolding said_by value_at keys key_names day_number days_from_civil day_count days_of_years days_of_months
set_month_0 = refl

set_month_13 : of_value (Some (with_value (codes "set_month") (number (unsigned 13)))) ≡ Err (Wrong 10)
unfolding said_by value_at keys key_names day_number days_from_civil day_count days_of_years days_of_months
set_month_13 = refl

day_2100 : of_value (Some (with_value (codes "opening_day") (string (codes "2100-01-01")))) ≡ Err (Wrong 11)
unfolding said_by value_at keys key_names day_number days_from_civil day_count days_of_years days_of_months
day_2100 = refl

no_leap_day : of_value (Some (with_value (codes "opening_day") (string (codes "2023-02-29")))) ≡ Err (Wrong 11)
unfolding said_by value_at keys key_names day_number days_from_civil day_count days_of_years days_of_months
no_leap_day = refl

day_null : of_value (Some (with_value (codes "opening_day") (null))) ≡ Err (Wrong 11)
unfolding said_by value_at keys key_names day_number days_from_civil day_count days_of_years days_of_months
day_null = refl

-- ---- the ends of the ranges

serial_0 : of_value (Some (with_value (codes "serial") (string (codes "00000000")))) ≡ Ok (record standard { serial = 0 })
unfolding said_by value_at keys key_names day_number days_from_civil day_count days_of_years days_of_months
serial_0 = refl

version_255 : of_value (Some (with_value (codes "version") (number (unsigned 255)))) ≡ Ok (record standard { version = 255 })
unfolding said_by value_at keys key_names day_number days_from_civil day_count days_of_years days_of_months
version_255 = refl

address_250 : of_value (Some (with_value (codes "address") (number (unsigned 250)))) ≡ Ok (record standard { address = 250 })
unfolding said_by value_at keys key_names day_number days_from_civil day_count days_of_years days_of_months
address_250 = refl

in_the_flow : of_value (Some (with_value (codes "place") (string (codes "flow")))) ≡ Ok (record standard { place = Flow })
unfolding said_by value_at keys key_names day_number days_from_civil day_count days_of_years days_of_months
in_the_flow = refl

pressure_1100 : of_value (Some (with_value (codes "pressure_kpa") (number (unsigned 1100)))) ≡ Ok (record standard { pressure_kpa = 1100 })
unfolding said_by value_at keys key_names day_number days_from_civil day_count days_of_years days_of_months
pressure_1100 = refl

pressure_4000 : of_value (Some (with_value (codes "pressure_kpa") (number (unsigned 4000)))) ≡ Ok (record standard { pressure_kpa = 4000 })
unfolding said_by value_at keys key_names day_number days_from_civil day_count days_of_years days_of_months
pressure_4000 = refl

litres_1000 : of_value (Some (with_value (codes "litres_per_pulse") (number (unsigned 1000)))) ≡ Ok (record standard { litres_per_pulse = 1000 })
unfolding said_by value_at keys key_names day_number days_from_civil day_count days_of_years days_of_months
litres_1000 = refl

set_month_12 : of_value (Some (with_value (codes "set_month") (number (unsigned 12)))) ≡ Ok (record standard { set_month = 12 })
unfolding said_by value_at keys key_names day_number days_from_civil day_count days_of_years days_of_months
set_month_12 = refl

last_day : of_value (Some (with_value (codes "opening_day") (string (codes "2099-12-31")))) ≡ Ok (record standard { opening_day = 36524 })
unfolding said_by value_at keys key_names day_number days_from_civil day_count days_of_years days_of_months
last_day = refl

-- ---- another key: its place among all keys in the order of their bytes, where the others are right

key_behind : of_value (Some (with_value (codes "zone") (number (unsigned 1)))) ≡ Err (Unknown 12)
unfolding said_by value_at keys key_names day_number days_from_civil day_count days_of_years days_of_months
key_behind = refl

key_before : of_value (Some (with_value (codes "Zone") (number (unsigned 1)))) ≡ Err (Unknown 0)
unfolding said_by value_at keys key_names day_number days_from_civil day_count days_of_years days_of_months
key_before = refl

key_between : of_value (Some (with_value (codes "maker2") (null))) ≡ Err (Unknown 4)
unfolding said_by value_at keys key_names day_number days_from_civil day_count days_of_years days_of_months
key_between = refl

wrong_first : of_value (Some (object (put (codes "Zone") null (put (codes "address") (number (unsigned 251)) right_members)))) ≡ Err (Wrong 3)
unfolding said_by value_at keys key_names day_number days_from_civil day_count days_of_years days_of_months
wrong_first = refl

-- ---- a text of 4,097 bytes, and the name of a key

too_long : accepted (replicate 4097 32) ≡ Err TooLong
too_long = refl

name_of_3 : name_of 3 ≡ codes "address"
unfolding keys key_names
name_of_3 = refl

-- ---- texts

-- the standard configuration, its keys in this order and with spaces between
standard_text : accepted (codes "{\"serial\":\"12345678\",\"maker\":\"ABC\",\"version\":1,\"address\":1,\"place\":\"return\",\"pressure_kpa\":1600,\"sensor\":500,\"litres_per_pulse\":10,\"energy_decimals\":0,\"volume_decimals\":2,\"set_month\":1,\"opening_day\":\"2024-01-15\"}") ≡ Ok standard
unfolding lex punctuate items members value word after_number content number_of scan_numeral is_utf8 chars encode said_by value_at keys key_names day_number days_from_civil day_count days_of_years days_of_months
standard_text = refl

spaced_text : accepted (codes "{ \"set_month\" : 1 , \"serial\":\"12345678\",\"maker\":\"ABC\",\"version\":1,\"address\":1,\"place\":\"return\",\"pressure_kpa\":1600,\"sensor\":500,\"litres_per_pulse\":10,\"energy_decimals\":0,\"volume_decimals\":2,\"opening_day\":\"2024-01-15\"} ") ≡ Ok standard
unfolding lex punctuate items members value word after_number content number_of scan_numeral is_utf8 chars encode said_by value_at keys key_names day_number days_from_civil day_count days_of_years days_of_months
spaced_text = refl

-- texts of two keys
two_keys : accepted (codes "{\"serial\":\"12345678\",\"maker\":\"ABC\"}") ≡ Err (Missing 2)
unfolding lex punctuate items members value word after_number content number_of scan_numeral is_utf8 chars encode said_by value_at keys key_names day_number days_from_civil day_count days_of_years days_of_months
two_keys = refl

wrong_serial : accepted (codes "{\"serial\":12345678,\"maker\":\"abc\"}") ≡ Err (Wrong 0)
unfolding lex punctuate items members value word after_number content number_of scan_numeral is_utf8 chars encode said_by value_at keys key_names day_number days_from_civil day_count days_of_years days_of_months
wrong_serial = refl

-- of a repeated key the last value counts
last_of_repeated : accepted (codes "{\"serial\":12345678,\"maker\":\"abc\",\"serial\":\"12345678\"}") ≡ Err (Wrong 1)
unfolding lex punctuate items members value word after_number content number_of scan_numeral is_utf8 chars encode said_by value_at keys key_names day_number days_from_civil day_count days_of_years days_of_months
last_of_repeated = refl

address_of_251 : accepted (codes "{\"serial\":\"12345678\",\"maker\":\"ABC\",\"version\":1,\"address\":251,\"place\":\"return\",\"pressure_kpa\":1600,\"sensor\":500,\"litres_per_pulse\":10,\"energy_decimals\":0,\"volume_decimals\":2,\"set_month\":1,\"opening_day\":\"2024-01-15\"}") ≡ Err (Wrong 3)
unfolding lex punctuate items members value word after_number content number_of scan_numeral is_utf8 chars encode said_by value_at keys key_names day_number days_from_civil day_count days_of_years days_of_months
address_of_251 = refl

-- 1.0 and -0 are no whole numbers
decimal_point : accepted (codes "{\"serial\":\"12345678\",\"maker\":\"ABC\",\"version\":1,\"address\":1.0,\"place\":\"return\",\"pressure_kpa\":1600,\"sensor\":500,\"litres_per_pulse\":10,\"energy_decimals\":0,\"volume_decimals\":2,\"set_month\":1,\"opening_day\":\"2024-01-15\"}") ≡ Err (Wrong 3)
unfolding float_is_finite round lex punctuate items members value word after_number content number_of scan_numeral is_utf8 chars encode said_by value_at keys key_names day_number days_from_civil day_count days_of_years days_of_months
decimal_point = refl

minus_0 : accepted (codes "{\"serial\":\"12345678\",\"maker\":\"ABC\",\"version\":1,\"address\":-0,\"place\":\"return\",\"pressure_kpa\":1600,\"sensor\":500,\"litres_per_pulse\":10,\"energy_decimals\":0,\"volume_decimals\":2,\"set_month\":1,\"opening_day\":\"2024-01-15\"}") ≡ Err (Wrong 3)
unfolding float_is_finite round lex punctuate items members value word after_number content number_of scan_numeral is_utf8 chars encode said_by value_at keys key_names day_number days_from_civil day_count days_of_years days_of_months
minus_0 = refl

with_zone : accepted (codes "{\"serial\":\"12345678\",\"maker\":\"ABC\",\"version\":1,\"address\":1,\"place\":\"return\",\"pressure_kpa\":1600,\"sensor\":500,\"litres_per_pulse\":10,\"energy_decimals\":0,\"volume_decimals\":2,\"set_month\":1,\"opening_day\":\"2024-01-15\",\"zone\":1}") ≡ Err (Unknown 12)
unfolding lex punctuate items members value word after_number content number_of scan_numeral is_utf8 chars encode said_by value_at keys key_names day_number days_from_civil day_count days_of_years days_of_months
with_zone = refl

empty_array : accepted (codes "[]") ≡ Err NotObject
unfolding lex punctuate items members value word after_number content number_of scan_numeral is_utf8 chars encode said_by value_at keys key_names day_number days_from_civil day_count days_of_years days_of_months
empty_array = refl

empty_braces : accepted (codes "{}") ≡ Err (Missing 0)
unfolding lex punctuate items members value word after_number content number_of scan_numeral is_utf8 chars encode said_by value_at keys key_names day_number days_from_civil day_count days_of_years days_of_months
empty_braces = refl

-- no JSON: an empty text, one that ends within an object, one with more behind it, and one that is not UTF-8
no_text : accepted (codes "") ≡ Err Text
unfolding lex punctuate items members value word after_number content number_of scan_numeral is_utf8 chars encode said_by value_at keys key_names day_number days_from_civil day_count days_of_years days_of_months
no_text = refl

cut_short : accepted (codes "{\"serial\":\"12345678\",\"maker\":\"ABC\",\"version\":1,\"address\":1,\"place\":\"return\",\"pressure_kpa\":1600,\"sensor\":500,\"litres_per_pulse\":10,\"energy_decimals\":0,\"volume_decimals\":2,\"set_month\":1,\"opening_day\":\"2024-01-15\"") ≡ Err Text
unfolding lex punctuate items members value word after_number content number_of scan_numeral is_utf8 chars encode said_by value_at keys key_names day_number days_from_civil day_count days_of_years days_of_months
cut_short = refl

more_behind : accepted (codes "{}{}") ≡ Err Text
unfolding lex punctuate items members value word after_number content number_of scan_numeral is_utf8 chars encode said_by value_at keys key_names day_number days_from_civil day_count days_of_years days_of_months
more_behind = refl

no_utf8 : accepted (34 ∷ 255 ∷ 34 ∷ []) ≡ Err Text
unfolding lex punctuate items members value word after_number content number_of scan_numeral is_utf8 chars encode said_by value_at keys key_names day_number days_from_civil day_count days_of_years days_of_months
no_utf8 = refl
