-- One more event, and events in two parts: what stands for the first part and takes the second stands for both.
use Rattle.std.proofs.Common.{◌≡◌, ℕ, ◌+◌, ℤ, ◌+ℤ◌, List, [], ◌∷◌, ◌++◌, map, filter, filter_map, flat_map, sum_by, Option, None, Some, refl, sym, ap, ◌∙◌, subst, arith, append_assoc, length-append, ◌==◌, true}
use Rattle.std.specs.List.{AllByRecursion}
use Rattle.std.proofs.lemmas.Int.{ints}
use Rattle.std.proofs.lemmas.List.{append-nil}
use Rattle.std.proofs.lemmas.List.Concat.{flat_map-append}
use Rattle.std.proofs.lemmas.List.Elements.{filter_map-append}
use Rattle.std.proofs.lemmas.List.Sums.{sum_by-append, sum_by-cons}
use Rattle.calendar_model.specs.Calendar.{month_of_year}
use Rattle.calendar_model.specs.Entries.{MonthEntry, entry_of, last_or, latest, never_falls}
use Rattle.calendar_model.proofs.EntryLemmas.{last_or-joined, latest-joined, never_falls-joined}
use Rattle.metering_model.specs.Events.{Kept, Placed, placed, placed_after, pulses_of, samples_of, day_of}
use Rattle.metering_model.specs.Settings.{Settings}
use Rattle.metering_model.specs.Counting.{Counted, counted_by, faulty_by}
use Rattle.metering_model.specs.Records.{Register, MeterRecord, energy_in, register_after, samples_after, days_in, day_after, counted_at, faulty_at, months_by, months_at, entries_at, set_entries_at, record_after, StandsFor}

-- ---- places
pub placed-append : (before hs ls : List Kept) → placed_after before (hs ++ ls) ≡ placed_after before hs ++ placed_after (before ++ hs) ls
placed-append before [] ls = ap (λ b. placed_after b ls) (sym (append-nil before))
placed-append before (k ∷ hs) ls =
    let rest : placed_after (before ++ k ∷ []) (hs ++ ls) ≡ placed_after (before ++ k ∷ []) hs ++ placed_after (before ++ k ∷ hs) ls =
    placed-append (before ++ k ∷ []) hs ls ∙ ap (λ b. placed_after (before ++ k ∷ []) hs ++ placed_after b ls) (append_assoc before (k ∷ []) hs) in
    ap (λ es. record { before = before; kept = k } ∷ es) rest

-- the same event, with others before it
abbrev pub later : List Kept → Placed → Placed
later hs e = record { before = hs ++ e.before; kept = e.kept }

later_places : (hs before ls : List Kept) → placed_after (hs ++ before) ls ≡ map (later hs) (placed_after before ls)
later_places hs before [] = refl
later_places hs before (k ∷ ls) =
    let rest : placed_after ((hs ++ before) ++ k ∷ []) ls ≡ map (later hs) (placed_after (before ++ k ∷ []) ls) =
    ap (λ b. placed_after b ls) (append_assoc hs before (k ∷ [])) ∙ later_places hs (before ++ k ∷ []) ls in
    ap (λ es. record { before = hs ++ before; kept = k } ∷ es) rest

pub placed-joined : (hs ls : List Kept) → placed (hs ++ ls) ≡ placed hs ++ map (later hs) (placed ls)
placed-joined hs ls =
    placed-append [] hs ls
    ∙ ap (λ es. placed hs ++ es) (ap (λ b. placed_after b ls) (sym (append-nil hs)) ∙ later_places hs [] ls)

-- ---- what is found at each event
flat_map-later : {X : Type 0} (f g : Placed → List X) (hs : List Kept) (es : List Placed) → ((e : Placed) → f (later hs e) ≡ g e) → flat_map f (map (later hs) es) ≡ flat_map g es
flat_map-later f g hs [] same = refl
flat_map-later f g hs (e ∷ es) same = ap (λ xs. xs ++ flat_map f (map (later hs) es)) (same e) ∙ ap (λ xs. g e ++ xs) (flat_map-later f g hs es same)

pub flat_map-joined : {X : Type 0} (f g : Placed → List X) (hs ls : List Kept) → ((e : Placed) → f (later hs e) ≡ g e) → flat_map f (placed (hs ++ ls)) ≡ flat_map f (placed hs) ++ flat_map g (placed ls)
flat_map-joined f g hs ls same =
    ap (flat_map f) (placed-joined hs ls) ∙ flat_map-append f (placed hs) (map (later hs) (placed ls))
    ∙ ap (λ xs. flat_map f (placed hs) ++ xs) (flat_map-later f g hs (placed ls) same)

sum_by-later : (f g : Placed → ℕ) (hs : List Kept) (es : List Placed) → ((e : Placed) → f (later hs e) ≡ g e) → sum_by f (map (later hs) es) ≡ sum_by g es
sum_by-later f g hs [] same = refl
sum_by-later f g hs (e ∷ es) same =
    sum_by-cons f (later hs e) (map (later hs) es) ∙ ap (λ n. n + sum_by f (map (later hs) es)) (same e)
    ∙ ap (λ n. g e + n) (sum_by-later f g hs es same) ∙ sym (sum_by-cons g e es)

pub sum_by-joined : (f g : Placed → ℕ) (hs ls : List Kept) → ((e : Placed) → f (later hs e) ≡ g e) → sum_by f (placed (hs ++ ls)) ≡ sum_by f (placed hs) + sum_by g (placed ls)
sum_by-joined f g hs ls same =
    ap (sum_by f) (placed-joined hs ls) ∙ sum_by-append f (placed hs) (map (later hs) (placed ls))
    ∙ ap (λ n. sum_by f (placed hs) + n) (sum_by-later f g hs (placed ls) same)

-- ---- what is in force
pub samples_after-joined : (o : Option (ℕ × ℕ)) (hs ls : List Kept) → samples_after o (hs ++ ls) ≡ samples_after (samples_after o hs) ls
samples_after-joined o hs ls =
    ap (last_or o) (filter_map-append (λ (k : Kept). samples_of k.event) hs ls)
    ∙ last_or-joined o (filter_map (λ (k : Kept). samples_of k.event) hs) (filter_map (λ (k : Kept). samples_of k.event) ls)

days_in-joined : (hs ls : List Kept) → days_in (hs ++ ls) ≡ days_in hs ++ days_in ls
days_in-joined hs ls = filter_map-append (λ (k : Kept). day_of k.event) hs ls

pub day_after-joined : (o : ℕ) (hs ls : List Kept) → day_after o (hs ++ ls) ≡ day_after (day_after o hs) ls
day_after-joined o hs ls = ap (last_or o) (days_in-joined hs ls) ∙ last_or-joined o (days_in hs) (days_in ls)

energy_in-joined : (hs ls : List Kept) → energy_in (hs ++ ls) ≡ energy_in hs +ℤ energy_in ls
energy_in-joined [] ls = omega (arith, ints)
energy_in-joined (k ∷ hs) ls = omega (arith, ints, energy_in-joined hs ls)

same_register : (a b : ℕ) (c d : ℤ) (e f : ℕ) → a ≡ b → c ≡ d → e ≡ f
    → ◌≡◌ {A = Register} (record { pulses = a; energy_mj = c; bound_mj = e }) (record { pulses = b; energy_mj = d; bound_mj = f })
same_register a b c d e f p q r = rw (p, q, r) refl

pub register_after-joined : (o : Register) (hs ls : List Kept) → register_after o (hs ++ ls) ≡ register_after (register_after o hs) ls
register_after-joined o hs ls =
    same_register _ _ _ _ _ _
    (omega (arith, sum_by-append (λ (k : Kept). pulses_of k.event) hs ls))
    (omega (arith, ints, energy_in-joined hs ls))
    (omega (arith, sum_by-append (λ (k : Kept). k.bound_mj) hs ls))

-- ---- the record after the first events has all that the later ones look back to
pub counted_at-later : (c : Settings) (o : MeterRecord) (hs : List Kept) (e : Placed) → counted_at c o (later hs e) ≡ counted_at c (record_after c o hs) e
counted_at-later c o hs e = ap (λ s. counted_by c s e.kept.event) (samples_after-joined o.samples hs e.before)

faulty_at-later : (c : Settings) (o : MeterRecord) (hs : List Kept) (e : Placed) → faulty_at c o (later hs e) ≡ faulty_at c (record_after c o hs) e
faulty_at-later c o hs e = ap (λ s. faulty_by c s (pulses_of e.kept.event)) (samples_after-joined o.samples hs e.before)

months_at-later : (c : Settings) (o : MeterRecord) (hs : List Kept) (e : Placed) → months_at o (later hs e) ≡ months_at (record_after c o hs) e
months_at-later c o hs e = ap (λ day. months_by day e.kept.event) (day_after-joined o.day hs e.before)

entries_at-later : (c : Settings) (o : MeterRecord) (hs : List Kept) (e : Placed) → entries_at o (later hs e) ≡ entries_at (record_after c o hs) e
entries_at-later c o hs e =
    ap (λ r. map (entry_of r) (months_at o (later hs e))) (register_after-joined o.register hs e.before)
    ∙ ap (λ months. map (entry_of (register_after (register_after o.register hs) e.before)) months) (months_at-later c o hs e)

set_entries_at-later : (c : Settings) (o : MeterRecord) (hs : List Kept) (e : Placed) → set_entries_at c o (later hs e) ≡ set_entries_at c (record_after c o hs) e
set_entries_at-later c o hs e =
    ap (λ r. map (λ month. Some (entry_of r month)) (filter (λ month. month_of_year month == c.set_month) (months_at o (later hs e)))) (register_after-joined o.register hs e.before)
    ∙ ap (λ months. map (λ month. Some (entry_of (register_after (register_after o.register hs) e.before) month)) (filter (λ month. month_of_year month == c.set_month) months)) (months_at-later c o hs e)

same_record : (a b d e : ℕ) (s t : Option (ℕ × ℕ)) (f g : ℕ) (p q : Register) (ms ns : List (MonthEntry Register)) (u v : Option (MonthEntry Register))
    → a ≡ b → d ≡ e → s ≡ t → f ≡ g → p ≡ q → ms ≡ ns → u ≡ v
    → ◌≡◌ {A = MeterRecord}
    (record { seq = a; day = d; samples = s; faulty = f; register = p; months = ms; set_day = u })
    (record { seq = b; day = e; samples = t; faulty = g; register = q; months = ns; set_day = v })
same_record a b d e s t f g p q ms ns u v h1 h2 h3 h4 h5 h6 h7 = rw (h1, h2, h3, h4, h5, h6, h7) refl

pub record_after-joined : (c : Settings) (o : MeterRecord) (hs ls : List Kept) → record_after c (record_after c o hs) ls ≡ record_after c o (hs ++ ls)
record_after-joined c o hs ls =
    let mid = record_after c o hs in
    let early = flat_map (entries_at o) (placed hs) in
    let late = flat_map (entries_at mid) (placed ls) in
    let early_set = flat_map (set_entries_at c o) (placed hs) in
    let late_set = flat_map (set_entries_at c mid) (placed ls) in
    let faulty : sum_by (faulty_at c o) (placed (hs ++ ls)) ≡ sum_by (faulty_at c o) (placed hs) + sum_by (faulty_at c mid) (placed ls) =
    sum_by-joined (faulty_at c o) (faulty_at c mid) hs ls (faulty_at-later c o hs) in
    let entries : flat_map (entries_at o) (placed (hs ++ ls)) ≡ early ++ late = flat_map-joined (entries_at o) (entries_at mid) hs ls (entries_at-later c o hs) in
    let set_entries : flat_map (set_entries_at c o) (placed (hs ++ ls)) ≡ early_set ++ late_set =
    flat_map-joined (set_entries_at c o) (set_entries_at c mid) hs ls (set_entries_at-later c o hs) in
    same_record _ _ _ _ _ _ _ _ _ _ _ _ _ _
    (omega (arith, length-append hs ls))
    (sym (day_after-joined o.day hs ls))
    (sym (samples_after-joined o.samples hs ls))
    (omega (arith, faulty))
    (sym (register_after-joined o.register hs ls))
    (latest-joined c.kept_months (o.months ++ early) late ∙ ap (latest c.kept_months) (append_assoc o.months early late ∙ ap (λ es. o.months ++ es) (sym entries)))
    (sym (ap (last_or o.set_day) set_entries ∙ last_or-joined o.set_day early_set late_set))

pub stands-joined : (c : Settings) (o m r : MeterRecord) (hs ls : List Kept) → StandsFor c o hs m → StandsFor c m ls r → StandsFor c o (hs ++ ls) r
stands-joined c o m r hs ls first then_on =
    let day : m.day ≡ day_after o.day hs = ap (λ (x : MeterRecord). x.day) first.is in
    let rest : never_falls (day_after o.day hs ∷ days_in ls) ≡ true = ap (λ d. never_falls (d ∷ days_in ls)) (sym day) ∙ then_on.in_order in
    record {
      in_order = ap (λ days. never_falls (o.day ∷ days)) (days_in-joined hs ls) ∙ never_falls-joined o.day (days_in hs) (days_in ls) first.in_order rest;
      is = then_on.is ∙ ap (λ x. record_after c x ls) first.is ∙ record_after-joined c o hs ls;
    }
