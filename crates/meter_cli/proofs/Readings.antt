-- Which bytes of a readout decide, and what is answered to them.
use Rattle.std.proofs.Common.{◌≡◌, inl, inr, ◌∙◌, ℕ, ◌+◌, ◌≤◌, ◌<◌, ◌==◌, false, List, [], ◌++◌, length, length-append, length-take, append-nil, take, Some, Result, Ok, Err, refl, sym, ap, subst, arith}
use Rattle.std.specs.Prelude.{min}
use Rattle.std.proofs.lemmas.Bool.{cases_lt}
use Rattle.std.proofs.lemmas.List.{get_or_append_left}
use Rattle.reading_model.specs.Rules.{first_broken, unless_broken, byte}
use Rattle.reading_model.specs.Telegrams.{counted_size, start_rules, end_rules, counted_telegram, telegram_in}
use Rattle.trace_model.specs.Trace.{Trace}
use Rattle.meter_cli.specs.Ends.{EndsLine}
use Rattle.meter_cli.specs.Puts.{PutsLines}
use Rattle.meter_cli.specs.Read.{ReadAnswers, ReadLeaves, read_status}
use Rattle.meter_cli.specs.declared.status.Status.{Status}
use Rattle.meter_cli.specs.declared.status.Status.TheVariants.{Read, Write, BadReadout}

-- ---- the first bytes decide

-- bytes that are too many
over_long : (bytes : List ℕ) → counted_size bytes ≤ 255 → 262 ≤ length bytes → first_broken (end_rules bytes) ≡ Some (counted_size bytes + 6)
over_long bytes few many =
    let differs : (length bytes == counted_size bytes + 6) ≡ false = grind arith in
    let at : min (length bytes) (counted_size bytes + 6) ≡ counted_size bytes + 6 = omega arith in
    rw differs (ap Some at)

long_said : (bytes : List ℕ) → counted_size bytes ≤ 255 → 262 ≤ length bytes → telegram_in bytes ≡ unless_broken (first_broken (start_rules bytes)) (Err (counted_size bytes + 6))
long_said bytes few many = ap (λ broken. unless_broken (first_broken (start_rules bytes)) (unless_broken broken (counted_telegram bytes))) (over_long bytes few many)

-- whatever follows the first 262 bytes
pub further : (bytes more : List ℕ) → counted_size bytes ≤ 255 → 262 ≤ length bytes → telegram_in (bytes ++ more) ≡ telegram_in bytes
further bytes more few many =
    let same : (k : ℕ) → k < 262 → byte (bytes ++ more) k ≡ byte bytes k = λ k lt. get_or_append_left bytes more 0 k (omega arith) in
    let first : first_broken (start_rules (bytes ++ more)) ≡ first_broken (start_rules bytes) = rw (same 0 (omega arith), same 1 (omega arith), same 2 (omega arith), same 3 (omega arith)) refl in
    let size : counted_size (bytes ++ more) ≡ counted_size bytes = same 1 (omega arith) in
    long_said (bytes ++ more) (omega (arith, size)) (omega (arith, length-append bytes more))
    ∙ (λ i. unless_broken (first i) (Err (size i + 6)))
    ∙ sym (long_said bytes few many)

-- what was read decides: all, or as much as is enough
pub decides : {Fields : Type 0} (said : List ℕ → Result Fields ℕ) (size : ℕ) (into left rest : List ℕ) (n : ℕ) → length into ≡ size → n ≤ length into
    → ((more : List ℕ) → size ≤ length (take n into) → said (take n into ++ more) ≡ said (take n into))
    → left ≡ take n into ++ rest → (n < length into → rest ≡ []) → said left ≡ said (take n into)
decides said size into left rest n whole fits enough is ends = elim (cases_lt n (length into)) [
  | inl lt ↦ ap said (is ∙ ap (λ r. take n into ++ r) (ends lt) ∙ append-nil (take n into))
  | inr ge ↦ ap said is ∙ enough rest (omega (arith, whole, length-take n into))
]

-- ---- the answer

pub answered : {Fields : Type 0} (said : Result Fields ℕ) (fields : Fields) (status : Status) → said ≡ Ok fields → EndsLine status → ReadAnswers said status
answered {Fields} said fields status is ends = let P : Result Fields ℕ → Type 0 = λ s. ReadAnswers s status in subst P (sym is) (by_end ends)
  where
    by_end : EndsLine status → ReadAnswers (Ok fields) status
    by_end (inl done) = inl done
    by_end (inr write) = inr (inl write)

pub unread : {Fields : Type 0} (said : Result Fields ℕ) → ReadAnswers said Read
unread (Ok fields) = inr (inr refl)
unread (Err at) = inr refl

pub refused : {Fields : Type 0} (said : Result Fields ℕ) (at : ℕ) → said ≡ Err at → ReadAnswers said (BadReadout at)
refused {Fields} said at is = let P : Result Fields ℕ → Type 0 = λ s. ReadAnswers s (BadReadout at) in subst P (sym is) (inl refl)

pub left_said : {Fields : Type 0} (AreLines : Fields → List (List ℕ) → Type 0) (said : Result Fields ℕ) (fields : Fields) (lines : List (List ℕ)) (old new : Trace) (status : Status) → said ≡ Ok fields → AreLines fields lines → PutsLines lines old new status → ReadLeaves AreLines said old new status
left_said {Fields} AreLines said fields lines old new status is are puts =
    let P : Result Fields ℕ → Type 0 = λ s. ReadLeaves AreLines s old new status in subst P (sym is) (inr (lines, are, puts))

pub left_refused : {Fields : Type 0} (AreLines : Fields → List (List ℕ) → Type 0) (said : Result Fields ℕ) (at : ℕ) (old : Trace) → said ≡ Err at → ReadLeaves AreLines said old old (BadReadout at)
left_refused {Fields} AreLines said at old is =
    let P : Result Fields ℕ → Type 0 = λ s. ReadLeaves AreLines s old old (BadReadout at) in subst P (sym is) (inr (refl, refl))

-- where nothing failed
pub complete : {Fields : Type 0} (said : Result Fields ℕ) (status : Status) → ReadAnswers said status → (status ≡ Read → ⊥) → (status ≡ Write → ⊥) → status ≡ read_status said
complete (Ok fields) status (inl done) unread unwritten = done
complete (Ok fields) status (inr (inl write)) unread unwritten = absurd (unwritten write)
complete (Ok fields) status (inr (inr read)) unread unwritten = absurd (unread read)
complete (Err at) status (inl bad) unread unwritten = bad
complete (Err at) status (inr read) unread unwritten = absurd (unread read)
