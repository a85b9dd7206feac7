-- Displays worked by hand.
use Rattle.std.proofs.Common.{◌≡◌, pos, negsuc, refl, codes}
use Rattle.display_model.specs.Display.{energy_unit, volume_unit, shown_digits, eight_digits, pointed}

-- ---- units: 1 kWh is 3,600,000,000 mJ

whole_kWh : energy_unit 0 ≡ 3600000000
whole_kWh = refl

thousandth_of_kWh : energy_unit 3 ≡ 3600000
thousandth_of_kWh = refl

cubic_metre : volume_unit 0 ≡ 1000
cubic_metre = refl

litre : volume_unit 3 ≡ 1
litre = refl

-- ---- energy in whole kWh: 1 mJ below a unit still shows the one before it, and 10^8 units show 0 again

nothing : shown_digits (pos 0) 3600000000 ≡ 0
nothing = refl

nearly_one : shown_digits (pos 3599999999) 3600000000 ≡ 0
nearly_one = refl

one : shown_digits (pos 3600000000) 3600000000 ≡ 1
one = refl

greatest : shown_digits (pos 359999999999999999) 3600000000 ≡ 99999999
greatest = refl

wrapped : shown_digits (pos 360000000000000000) 3600000000 ≡ 0
wrapped = refl

wrapped_and_one : shown_digits (pos 360000003600000000) 3600000000 ≡ 1
wrapped_and_one = refl

-- below 0 it is rounded down: -1 mJ and one unit below 0 show the greatest number, and 1 mJ less the one before it
just_below_0 : shown_digits (negsuc 0) 3600000000 ≡ 99999999
just_below_0 = refl

one_below_0 : shown_digits (negsuc 3599999999) 3600000000 ≡ 99999999
one_below_0 = refl

two_below_0 : shown_digits (negsuc 3600000000) 3600000000 ≡ 99999998
two_below_0 = refl

-- 10^8 units below 0 show 0
wrapped_below_0 : shown_digits (negsuc 359999999999999999) 3600000000 ≡ 0
wrapped_below_0 = refl

-- 30 litres in hundredths of a cubic metre, and 1,000,000,010 litres
thirty_litres : shown_digits (pos 30) (volume_unit 2) ≡ 3
thirty_litres = refl

wrapped_volume : shown_digits (pos 1000000010) (volume_unit 2) ≡ 1
wrapped_volume = refl

-- ---- texts

zeros : eight_digits 0 ≡ codes "00000000"
zeros = refl

first : eight_digits 1 ≡ codes "00000001"
first = refl

serial : eight_digits 12345678 ≡ codes "12345678"
serial = refl

nines : eight_digits 99999999 ≡ codes "99999999"
nines = refl

no_decimals : pointed 0 (eight_digits 12345678) ≡ codes "12345678"
no_decimals = refl

one_decimal : pointed 1 (eight_digits 12345678) ≡ codes "1234567.8"
one_decimal = refl

two_decimals : pointed 2 (eight_digits 3) ≡ codes "000000.03"
two_decimals = refl

three_decimals : pointed 3 (eight_digits 12345678) ≡ codes "12345.678"
three_decimals = refl
