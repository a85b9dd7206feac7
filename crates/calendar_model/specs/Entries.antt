-- The entries that a meter's memory keeps of first days of months.
use Rattle.std.specs.Prelude.{ℕ, ◌-◌, ◌==◌, List, [], ◌∷◌, length, drop, map, filter, Option, Some, Bool, true, ◌&&◌, nat_le}
use Rattle.std.specs.List.{list_all}
use Rattle.calendar_model.specs.Calendar.{month_of_year, first_day, months_passed}

-- what a register showed on a first day of a month
pub record MonthEntry (Register : Type 0) : Type 0 where
  pub day : ℕ
  pub register : Register

module _ {Item : Type 0} where
  -- the last of a list, or `before` where there is none
  abbrev pub last_or : Item → List Item → Item
  last_or before [] = before
  last_or before (x ∷ xs) = last_or x xs

  -- the latest so many of a list
  abbrev pub latest : ℕ → List Item → List Item
  latest keep items = drop (length items - keep) items

module _ {Register : Type 0} where
  -- the entry of a month
  abbrev pub entry_of : Register → ℕ → MonthEntry Register
  entry_of register month = record { day = first_day month; register = register }

  -- the days of entries
  abbrev pub days_of : List (MonthEntry Register) → List ℕ
  days_of entries = map (λ e. e.day) entries

  -- one entry for each month passed, in order
  abbrev pub passed_entries : Register → (old new : ℕ) → List (MonthEntry Register)
  passed_entries register old new = map (entry_of register) (months_passed old new)

  -- the latest passed entry whose month of the year is the set month, or the one kept before
  abbrev pub set_entry : Register → (set_month old new : ℕ) → Option (MonthEntry Register) → Option (MonthEntry Register)
  set_entry register set_month old new before =
      last_or before (map (λ month. Some (entry_of register month)) (filter (λ month. month_of_year month == set_month) (months_passed old new)))

-- whether no number is below one before it
abbrev pub never_falls : List ℕ → Bool
never_falls [] = true
never_falls (x ∷ xs) = list_all (nat_le x) xs && never_falls xs
