-- Why lines are refused, and what output lines say, worked by hand.
use Rattle.std.proofs.Common.{◌≡◌, [], ◌∷◌, ◌++◌, replicate, ℤ, pos, negsuc, Some, None, refl, codes}
use Rattle.std.specs.Fmt.{digits}
use Rattle.hex.specs.Hex.{decode_pairs, encode_with}
use Rattle.script_model.proofs.Worked.{january_14, january_15}
use Rattle.metering_model.specs.Settings.{Settings}
use Rattle.metering_model.specs.Records.{MeterRecord, opening_record}
use Rattle.answer_model.specs.Faults.{Dry, Run, Grammar, EventsFull, DateBack, PulsesFull, TooLong, TooMany, NotDry, fault_of}
use Rattle.answer_model.specs.Texts.{ok_text, power_text, armed_text, opt_text, mbus_text}

-- the record of a new meter on 2024-01-15
abbrev opening : MeterRecord
opening = opening_record 8780

-- ---- faults: what line is refused, and which stands first

taken : fault_of Run opening 0 (codes "pulse 3") ≡ None
taken = refl

grammar : fault_of Run opening 0 (codes "pulse 0") ≡ Some (Grammar 1)
grammar = refl

empty : fault_of Dry opening 0 (codes "") ≡ Some (Grammar 0)
empty = refl

-- on the day in force a date is taken, and not one before it
same_day : fault_of Run opening 0 (codes "date 2024-01-15") ≡ None
same_day = rw january_15 refl

day_before : fault_of Run opening 0 (codes "date 2024-01-14") ≡ Some (DateBack 8780)
day_before = rw january_14 refl

-- 10^15 pulses fit the register, and no more
pulses_fit : fault_of Run (record opening { register = record { pulses = 999999999999999; energy_mj = pos 0; bound_mj = 0 } }) 0 (codes "pulse 1") ≡ None
pulses_fit = refl

pulses_full : fault_of Run (record opening { register = record { pulses = 1000000000000000; energy_mj = pos 0; bound_mj = 0 } }) 0 (codes "pulse 1") ≡ Some (PulsesFull 1000000000000001)
pulses_full = refl

-- 10^18 events fit the record, and no more; a full record is told before a day or pulses
last_event : fault_of Run (record opening { seq = 999999999999999999 }) 0 (codes "pulse 1") ≡ None
last_event = refl

events_full : fault_of Run (record opening { seq = 1000000000000000000 }) 0 (codes "pulse 1") ≡ Some (EventsFull 1000000000000000000)
events_full = refl

full_before_day : fault_of Run (record opening { seq = 1000000000000000000 }) 0 (codes "date 2024-01-14") ≡ Some (EventsFull 1000000000000000000)
full_before_day = refl

-- which is no fault of a line that is no event
readout_of_full : fault_of Run (record opening { seq = 1000000000000000000 }) 0 (codes "mbus E5") ≡ None
unfolding decode_pairs
readout_of_full = refl

power_of_full : fault_of Run (record opening { seq = 1000000000000000000 }) 0 (codes "power") ≡ None
power_of_full = refl

cut_of_full : fault_of Run (record opening { seq = 1000000000000000000 }) 0 (codes "cut 1 7 5A") ≡ None
unfolding decode_pairs
cut_of_full = refl

-- a dry run has no failures of the power and no readouts; a line that is malformed is so first
power_in_dry : fault_of Dry opening 0 (codes "power") ≡ Some NotDry
power_in_dry = refl

cut_in_dry : fault_of Dry opening 0 (codes "cut 1 7 5A") ≡ Some NotDry
unfolding decode_pairs
cut_in_dry = refl

malformed_power_in_dry : fault_of Dry opening 0 (codes "power 1") ≡ Some (Grammar 1)
malformed_power_in_dry = refl

malformed_cut_in_dry : fault_of Dry opening 0 (codes "cut 1 16385 00") ≡ Some (Grammar 2)
unfolding decode_pairs
malformed_cut_in_dry = refl

readout_in_dry : fault_of Dry opening 0 (codes "opt 2F3F210D0A") ≡ Some NotDry
unfolding decode_pairs
readout_in_dry = refl

bus_in_dry : fault_of Dry opening 0 (codes "mbus E5") ≡ Some NotDry
unfolding decode_pairs
bus_in_dry = refl

malformed_in_dry : fault_of Dry opening 0 (codes "opt 2F3") ≡ Some (Grammar 1)
unfolding decode_pairs
malformed_in_dry = refl

-- a line has at most 120 bytes
longest : fault_of Run opening 0 (codes "opt " ++ replicate 116 48) ≡ None
unfolding decode_pairs
longest = refl

too_long : fault_of Run opening 0 (replicate 121 48) ≡ Some TooLong
too_long = refl

-- a script has at most 1,000,000 lines; of one more nothing is read
last_line : fault_of Run opening 999999 (codes "pulse 3") ≡ None
last_line = refl

too_many : fault_of Run opening 1000000 (codes "pulse 0") ≡ Some TooMany
too_many = refl

-- ---- output lines of a meter whose pulses stand for 10 litres

-- 12 events, 103 pulses, and the energy
abbrev after_pulses : (energy_mj : ℤ) → MeterRecord
after_pulses energy_mj = record opening { seq = 12; register = record { pulses = 103; energy_mj = energy_mj; bound_mj = 2060000 } }

nothing_yet : (c : Settings) → c.litres_per_pulse ≡ 10 → ok_text c opening ≡ codes "ok 0 0 0 0\n"
unfolding digits
nothing_yet c ten = rw ten refl

energy : (c : Settings) → c.litres_per_pulse ≡ 10 → ok_text c (after_pulses (pos 41303818149)) ≡ codes "ok 12 1030 41303818149 2060000\n"
unfolding digits
energy c ten = rw ten refl

energy_below_0 : (c : Settings) → c.litres_per_pulse ≡ 10 → ok_text c (after_pulses (negsuc 41303818148)) ≡ codes "ok 12 1030 -41303818149 2060000\n"
unfolding digits
energy_below_0 c ten = rw ten refl

just_below_0 : (c : Settings) → c.litres_per_pulse ≡ 10 → ok_text c (after_pulses (negsuc 0)) ≡ codes "ok 12 1030 -1 2060000\n"
unfolding digits
just_below_0 c ten = rw ten refl

recovered : (c : Settings) → c.litres_per_pulse ≡ 10 → power_text c (after_pulses (pos 41303818149)) ≡ codes "power 12 1030 41303818149 2060000\n"
unfolding digits
recovered c ten = rw ten refl

nothing_recovered : (c : Settings) → c.litres_per_pulse ≡ 10 → power_text c opening ≡ codes "power 0 0 0 0\n"
unfolding digits
nothing_recovered c ten = rw ten refl

recovered_below_0 : (c : Settings) → c.litres_per_pulse ≡ 10 → power_text c (after_pulses (negsuc 0)) ≡ codes "power 12 1030 -1 2060000\n"
unfolding digits
recovered_below_0 c ten = rw ten refl

ordered : armed_text ≡ 97 ∷ 114 ∷ 109 ∷ 101 ∷ 100 ∷ 10 ∷ []
ordered = refl

acknowledged : mbus_text (after_pulses (pos 0)) (Some (0xe5 ∷ [])) ≡ codes "mbus 12 e5\n"
unfolding digits encode_with
acknowledged = refl

no_reply : mbus_text opening None ≡ codes "mbus 0 -\n"
unfolding digits encode_with
no_reply = refl

identified : opt_text opening (Some (0x2f ∷ 0x0d ∷ 0x0a ∷ [])) ≡ codes "opt 0 2f0d0a\n"
unfolding digits encode_with
identified = refl

not_heard : opt_text opening None ≡ codes "opt 0 -\n"
unfolding digits encode_with
not_heard = refl
