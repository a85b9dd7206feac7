-- What every record keeps to, as it moves on.
use Rattle.std.proofs.Common.{◌≡◌, ℕ, zero, suc, ◌+◌, ◌-◌, ◌<◌, ◌≤◌, nat_le, List, [], ◌∷◌, ◌++◌, length, map, filter, take, drop, refl, sym, ap, ◌∙◌, arith, Bool, true, append_assoc, Option, Some, subst, inl, inr, unwrap_or, lit<}
use Rattle.std.specs.Option.{ForSome}
use Rattle.std.proofs.lemmas.Bool.{cases_Bool}
use Rattle.std.specs.List.{range_with_len, list_all}
use Rattle.std.proofs.lemmas.List.{take-append-drop, map-append, length-map, drop-map, append-nil}
use Rattle.std.proofs.Math.Seq.{drop-length}
use Rattle.metering_model.specs.Records as records
use Rattle.calendar_model.specs.Calendar.{IsMonthOf, first_day, months_to, is_first_day}
use Rattle.calendar_model.specs.Entries.{MonthEntry, entry_of, days_of, latest, last_or, never_falls}
use Rattle.calendar_model.proofs.MonthLemmas.{IsInMonth-of, months_to_is, months_ordered, first_day-le, first_day-counted, is_first_day-of, range_split}
use Rattle.jiff_core.proofs.StandardFacts.{known_days}
use Rattle.billing_memory.specs.Entries.{pulses_of}
use Rattle.billing_memory.proofs.LatestLemmas.{latest-last, map-latest}

module _ {A : Type 0} where
  pub latest-none : (xs : List A) → latest 0 xs ≡ []
  latest-none xs = let all : length xs - 0 ≡ length xs = omega arith in ap (λ n. drop n xs) all ∙ drop-length xs

  -- the latest of the latest and more are the latest of all
  latest-suffix : (keep kept : ℕ) (xs ys : List A) → latest keep (latest kept xs ++ ys) ≡ latest (length (latest keep (latest kept xs ++ ys))) (xs ++ ys)
  latest-suffix keep kept xs ys =
      let early = take (length xs - kept) xs in
      let some = latest kept xs ++ ys in
      let less = take (length some - keep) some in
      let all : (early ++ less) ++ latest keep some ≡ xs ++ ys =
      append_assoc early less (latest keep some)
      ∙ ap (λ zs. early ++ zs) (take-append-drop (length some - keep) some)
      ∙ sym (append_assoc early (latest kept xs) ys)
      ∙ ap (λ zs. zs ++ ys) (take-append-drop (length xs - kept) xs) in
      sym (latest-last (early ++ less) (latest keep some)) ∙ ap (latest (length (latest keep some))) all

days_of-made : {R : Type 0} (r : R) (months : List ℕ) → days_of (map (entry_of r) months) ≡ map first_day months
days_of-made r [] = refl
days_of-made r (month ∷ months) = ap (λ days. first_day month ∷ days) (days_of-made r months)

-- the days of the entries stay those of the latest first days
pub days_in_row : {R : Type 0} (r : R) (old new old_month new_month kept : ℕ) (olds news : List (MonthEntry R)) → IsMonthOf old old_month → IsMonthOf new new_month → old ≤ new
    → days_of olds ≡ map first_day (latest kept (months_to old))
    → news ≡ latest 24 (olds ++ map (entry_of r) (range_with_len (old_month + 1) (new_month + 1 - (old_month + 1))))
    → days_of news ≡ map first_day (latest (length news) (months_to new))
days_in_row {R} r old new old_month new_month kept olds news before after le row is =
    let from = IsInMonth-of old old_month before in
    let to = IsInMonth-of new new_month after in
    let ordered = months_ordered old new old_month new_month from to le in
    let passed = range_with_len (old_month + 1) (new_month + 1 - (old_month + 1)) in
    let earlier = range_with_len 0 (old_month + 1) in
    let whole : old_month + 1 + (new_month + 1 - (old_month + 1)) ≡ new_month + 1 = omega arith in
    let start : 0 + (old_month + 1) ≡ old_month + 1 = omega arith in
    let all : earlier ++ passed ≡ months_to new =
    sym (ap (range_with_len 0) (sym whole) ∙ range_split 0 (old_month + 1) (new_month + 1 - (old_month + 1))
    ∙ ap (λ a. earlier ++ range_with_len a (new_month + 1 - (old_month + 1))) start)
    ∙ sym (months_to_is new new_month to) in
    let some = latest 24 (latest kept earlier ++ passed) in
    let old_days : days_of olds ≡ map first_day (latest kept earlier) = row ∙ ap (λ months. map first_day (latest kept months)) (months_to_is old old_month from) in
    let days : days_of news ≡ map first_day some =
    ap days_of is ∙ map-latest (λ e. e.day) 24 (olds ++ map (entry_of r) passed)
    ∙ ap (latest 24) (map-append (λ e. e.day) olds (map (entry_of r) passed)
    ∙ ap (λ ds. ds ++ days_of (map (entry_of r) passed)) old_days
    ∙ ap (λ ds. map first_day (latest kept earlier) ++ ds) (days_of-made r passed)
    ∙ sym (map-append first_day (latest kept earlier) passed))
    ∙ sym (map-latest first_day 24 (latest kept earlier ++ passed)) in
    let size : length news ≡ length some = sym (length-map news (λ e. e.day)) ∙ ap length days ∙ length-map some first_day in
    days ∙ ap (map first_day) (latest-suffix 24 kept earlier passed)
    ∙ ap (λ n. map first_day (latest n (earlier ++ passed))) (sym size)
    ∙ ap (λ months. map first_day (latest (length news) months)) all

-- what never falls does not once its first are left out, or its last is repeated
never_falls-drop : (n : ℕ) (xs ys : List ℕ) → never_falls (xs ++ ys) ≡ true → never_falls (drop n xs ++ ys) ≡ true
never_falls-drop zero xs ys h = h
never_falls-drop (suc n) [] ys h = h
never_falls-drop (suc n) (x ∷ xs) ys h = never_falls-drop n xs ys (grind arith)

list_all-again : (x p : ℕ) (xs : List ℕ) → list_all (nat_le x) (xs ++ p ∷ []) ≡ true → list_all (nat_le x) (xs ++ p ∷ p ∷ []) ≡ true
list_all-again x p [] h = grind arith
list_all-again x p (y ∷ xs) h = let rest = list_all-again x p xs (grind arith) in grind arith

never_falls-again : (p : ℕ) (xs : List ℕ) → never_falls (xs ++ p ∷ []) ≡ true → never_falls (xs ++ p ∷ p ∷ []) ≡ true
never_falls-again p [] h = grind arith
never_falls-again p (x ∷ xs) h =
    let rest = never_falls-again p xs (grind arith) in
    let first = list_all-again x p xs (grind arith) in
    grind arith

pulses_of-made : (r : records.Register) (xs : List ℕ) (months : List ℕ) → never_falls (xs ++ r.pulses ∷ []) ≡ true → never_falls ((xs ++ pulses_of (map (entry_of r) months)) ++ r.pulses ∷ []) ≡ true
pulses_of-made r xs [] h = rw (append-nil xs) h
pulses_of-made r xs (month ∷ months) h =
    let again = pulses_of-made r (xs ++ r.pulses ∷ []) months (rw (append_assoc xs (r.pulses ∷ []) (r.pulses ∷ [])) (never_falls-again r.pulses xs h)) in
    rw (sym (append_assoc xs (r.pulses ∷ []) (pulses_of (map (entry_of r) months)))) again

-- the pulses of the entries and the register stay in order
pub pulses_in_order : (r : records.Register) (keep : ℕ) (olds news : List (MonthEntry records.Register)) (months : List ℕ)
    → never_falls (pulses_of olds ++ r.pulses ∷ []) ≡ true → news ≡ latest keep (olds ++ map (entry_of r) months)
    → never_falls (pulses_of news ++ r.pulses ∷ []) ≡ true
pulses_in_order r keep olds news months order is =
    let all = olds ++ map (entry_of r) months in
    let shown : pulses_of news ≡ drop (length all - keep) (pulses_of olds ++ pulses_of (map (entry_of r) months)) =
    ap pulses_of is ∙ sym (drop-map (λ e. e.register.pulses) (length all - keep) all)
    ∙ ap (drop (length all - keep)) (map-append (λ e. e.register.pulses) olds (map (entry_of r) months)) in
    rw shown (never_falls-drop (length all - keep) _ _ (pulses_of-made r (pulses_of olds) months order))

list_all-more : (x p q : ℕ) (xs : List ℕ) → p ≤ q → list_all (nat_le x) (xs ++ p ∷ []) ≡ true → list_all (nat_le x) (xs ++ q ∷ []) ≡ true
list_all-more x p q [] le h = grind arith
list_all-more x p q (y ∷ xs) le h = let rest = list_all-more x p q xs le (grind arith) in grind arith

-- and the last may grow, as a register's pulses do
pub never_falls-more : (p q : ℕ) (xs : List ℕ) → p ≤ q → never_falls (xs ++ p ∷ []) ≡ true → never_falls (xs ++ q ∷ []) ≡ true
never_falls-more p q [] le h = grind arith
never_falls-more p q (x ∷ xs) le h =
    let rest = never_falls-more p q xs le (grind arith) in
    let first = list_all-more x p q xs le (grind arith) in
    grind arith

-- what holds of the set day before and of each passed month holds of the set day after
pub set_day_keeps : {E : Type 0} (P : E → Type 0) (g : ℕ → E) (p : ℕ → Bool) (a n : ℕ) (before : Option E) → ForSome before P → ((m : ℕ) → a ≤ m → m < a + n → P (g m))
    → ForSome (last_or before (map (λ m. Some (g m)) (filter p (range_with_len a n)))) P
set_day_keeps P g p a zero before old new = old
set_day_keeps {E} P g p a (suc n) before old new =
    let here : ForSome (Some (g a)) P = λ x is. subst P (ap (λ o. unwrap_or o (g a)) is) (new a (omega arith) (omega arith)) in
    let rest : (kept : Option E) → ForSome kept P → ForSome (last_or kept (map (λ m. Some (g m)) (filter p (range_with_len (a + 1) n)))) P =
    λ kept holds. set_day_keeps P g p (a + 1) n kept holds (λ m from to. new m (omega arith) (omega arith)) in
    elim (cases_Bool (p a)) [ inl passes ↦ rw passes (rest (Some (g a)) here) | inr fails ↦ rw fails (rest before old) ]

-- a passed month has begun by the new day
pub passed_begun : (new new_month month : ℕ) → IsMonthOf new new_month → month < new_month + 1 → first_day month ≤ new
passed_begun new new_month month is le =
    let within = IsInMonth-of new new_month is in
    omega (arith, within.from, first_day-le month new_month (omega (arith, within.known)) (omega arith))

pub is_first_day-zero : is_first_day 0 ≡ true
is_first_day-zero = is_first_day-of 0 0 (lit< tt) (first_day-counted 0 0 (lit< tt) known_days.2)
