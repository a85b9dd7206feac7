-- The first day, and the generator's steps.
use Rattle.std.proofs.Common.{◌≡◌, ℕ, ◌+◌, ◌*◌, ◌/◌, ◌%◌, ◌^◌, refl, arith, pos, add-one}
use Rattle.jiff_core.specs.Calendar.{day_count}
use Rattle.jiff_core.proofs.MarchLemmas.{day_count-early}
use Rattle.calendar_model.specs.Calendar.{day_number}
use Rattle.calendar_model.proofs.DayLemmas.{day_number-day_count}
use Rattle.generator_model.specs.Generated.{next_number, number_at, event_with, event_at}

day_count_first : day_count (pos 2024) 1 15 ≡ 4391690
day_count_first = day_count-early (pos 2024) 12023 1 15 refl (omega arith) (omega arith) (omega arith)

pub first_day : day_number 2024 1 15 ≡ 8780
first_day = omega (arith, day_count_first, day_number-day_count 2024 1 15 (omega (arith, day_count_first)))

-- a product and a sum that wrap
pub wrapped : (x : ℕ) → ((x * 6364136223846793005) % 2 ^ 64 + 1442695040888963407) % 2 ^ 64 ≡ next_number x
unfolding next_number
wrapped x = omega arith

pub first_number : (seed : ℕ) → seed ≡ number_at seed 0
unfolding number_at
first_number seed = refl

pub later_number : (seed i : ℕ) → next_number (number_at seed i) ≡ number_at seed (i + 1)
unfolding number_at
later_number seed i = rw (add-one i) refl

pub drawn : (seed i : ℕ) → event_with i (number_at seed i / 2 ^ 32) ≡ event_at seed i
unfolding event_at
drawn seed i = refl
