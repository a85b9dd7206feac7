-- Generated events, worked by Python's whole numbers.
use Rattle.std.proofs.Common.{◌≡◌, refl}
use Rattle.jiff_core.specs.Calendar.{days_from_civil, day_count, days_of_years, days_of_months}
use Rattle.calendar_model.specs.Calendar.{day_number}
use Rattle.metering_model.specs.Events.{Sample, Pulse, Date}
use Rattle.generator_model.specs.Generated.{next_number, number_at, draw_at, event_at}

-- the numbers after 1, after 0 and after the greatest
after_1 : next_number 1 ≡ 7806831264735756412
unfolding next_number
after_1 = refl

after_0 : next_number 0 ≡ 1442695040888963407
unfolding next_number
after_0 = refl

after_greatest : next_number 18446744073709551615 ≡ 13525302890751722018
unfolding next_number
after_greatest = refl

-- draws of the seed 1
first_draw : draw_at 1 1 ≡ 1817669548
unfolding number_at next_number
first_draw = refl

second_draw : draw_at 1 2 ≡ 2187888307
unfolding number_at next_number
second_draw = refl

-- events 1, 2, 10 and 11 of the seed 1
samples : event_at 1 1 ≡ Sample 617669548 567669548
unfolding event_at number_at next_number
samples = refl

pulses : event_at 1 2 ≡ Pulse 8
unfolding event_at number_at next_number
pulses = refl

one_pulse : event_at 1 10 ≡ Pulse 1
unfolding event_at number_at next_number
one_pulse = refl

next_samples : event_at 1 11 ≡ Sample 603040246 513040246
unfolding event_at number_at next_number
next_samples = refl

-- and event 1 of the seed 0
other_seed : event_at 0 1 ≡ Sample 735903614 525903614
unfolding event_at number_at next_number
other_seed = refl

-- events 1,000 and 2,000 are the dates 2024-01-16 and 2024-01-17
first_date : event_at 1 1000 ≡ Date 8781
unfolding event_at number_at next_number day_number days_from_civil day_count days_of_years days_of_months
first_date = refl

second_date : event_at 1 2000 ≡ Date 8782
unfolding event_at number_at next_number day_number days_from_civil day_count days_of_years days_of_months
second_date = refl
