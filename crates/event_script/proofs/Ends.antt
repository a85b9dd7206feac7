-- Where the first line of some bytes ends.
use Rattle.std.proofs.Common.{◌≡◌, ℕ, ◌+◌, ◌<◌, ◌≤◌, min, ◌==◌, ◌&&◌, ◌||◌, ◌⊎◌, inl, inr, suc, not, Bool, true, false, cond, nat_le, nat_lt, List, [], ◌∷◌, ◌++◌, Some, None, take, drop, length, refl, arith, sym, ap, ◌∙◌, subst, append_assoc, length-append}
use Rattle.std.specs.List.{position, position_or_len, onto_first}
use Rattle.std.proofs.lemmas.Bool.{le-leb, leb-true, lt-ltb, eqb-true, cases_lt}
use Rattle.std.proofs.lemmas.List.{take-append-drop, length-take-le, length-take}
use Rattle.std.proofs.Math.Seq.{take-add, drop-append-add}
use Rattle.metering_model.specs.Records.{MeterRecord}
use Rattle.script_model.specs.Lines.{lines_of, after_line}
use Rattle.answer_model.specs.Faults.{Command, Fault, TooMany, TooLong, fault_of, has_no_end, is_open}
use Rattle.event_script.specs.Next.{AreTooMany, EndsBehind}
use Rattle.event_script.proofs.Cuts.{place, no_place}

-- ---- no end

pub and_step : (a b : Bool) → a && b ≡ true → (a ≡ true) × (b ≡ true)
and_step true b e = (refl, e)
and_step false b e = absurd cc

pub and_both : (a b : Bool) → a ≡ true → b ≡ true → a && b ≡ true
and_both true b e f = f
and_both false b e f = absurd cc

or_true : (a : Bool) → a || true ≡ true
or_true true = refl
or_true false = refl

pub no_end-append : (xs ys : List ℕ) → has_no_end xs ≡ true → has_no_end ys ≡ true → has_no_end (xs ++ ys) ≡ true
no_end-append [] ys e f = f
no_end-append (x ∷ xs) ys e f = let h = and_step (not (x == 10)) (has_no_end xs) e in and_both (not (x == 10)) (has_no_end (xs ++ ys)) h.0 (no_end-append xs ys h.1 f)

none_step : (b : Bool) (c : ℕ) (cs : List ℕ) → (length cs ≤ position_or_len (λ d. d == 10) cs → has_no_end cs ≡ true) → length (c ∷ cs) ≤ cond (not b) (1 + position_or_len (λ d. d == 10) cs) 0 → not b && has_no_end cs ≡ true
none_step true c cs ih h = absurd (omega arith)
none_step false c cs ih h = ih (omega arith)

none_in : (xs : List ℕ) → length xs ≤ position_or_len (λ d. d == 10) xs → has_no_end xs ≡ true
none_in [] h = refl
none_in (c ∷ cs) h = none_step (c == 10) c cs (none_in cs) h

pub no_end-position : (xs : List ℕ) → position (λ c. c == 10) xs ≡ None → has_no_end xs ≡ true
no_end-position xs e = none_in xs (no_place (λ c. c == 10) xs e)

-- ---- an end

end_step : (b : Bool) (c : ℕ) (cs : List ℕ) → c == 10 ≡ b → (n : ℕ) → (n < length cs → EndsBehind cs n) → cond (not b) (1 + n) 0 < length (c ∷ cs) → EndsBehind (c ∷ cs) (cond (not b) (1 + n) 0)
end_step true c cs e n ih h = record { rest = cs; is = ap (λ d. d ∷ cs) (eqb-true c 10 e); front = refl }
end_step false c cs e n ih h =
    let r = ih (omega arith) in
    let next : suc n ≡ 1 + n = omega arith in
    subst (EndsBehind (c ∷ cs)) next (record { rest = r.rest; is = ap (λ ds. c ∷ ds) r.is; front = and_both (not (c == 10)) (has_no_end (take n cs)) (ap not e) r.front })

end_in : (xs : List ℕ) → position_or_len (λ d. d == 10) xs < length xs → EndsBehind xs (position_or_len (λ d. d == 10) xs)
end_in [] h = absurd (omega arith)
end_in (c ∷ cs) h = end_step (c == 10) c cs refl (position_or_len (λ d. d == 10) cs) (end_in cs) h

pub ends-position : (xs : List ℕ) (at : ℕ) → position (λ c. c == 10) xs ≡ Some at → EndsBehind xs at
ends-position xs at e = let h = place (λ c. c == 10) xs at e in subst (EndsBehind xs) h.0 (end_in xs h.1)

-- behind a front without an end
pub ends-later : (xs : List ℕ) (k at : ℕ) → has_no_end (take k xs) ≡ true → EndsBehind (drop k xs) at → EndsBehind xs (k + at)
ends-later xs k at clear r = record {
  rest = r.rest;
  is = sym (take-append-drop k xs) ∙ ap (λ ys. take k xs ++ ys) r.is ∙ sym (append_assoc (take k xs) (take at (drop k xs)) (10 ∷ r.rest)) ∙ ap (λ ys. ys ++ 10 ∷ r.rest) (sym (take-add k at xs));
  front = subst (λ ys. has_no_end ys ≡ true) (sym (take-add k at xs)) (no_end-append (take k xs) (take at (drop k xs)) clear r.front);
}

pub no_end-later : (xs : List ℕ) (k : ℕ) → has_no_end (take k xs) ≡ true → has_no_end (drop k xs) ≡ true → has_no_end xs ≡ true
no_end-later xs k clear rest = subst (λ ys. has_no_end ys ≡ true) (take-append-drop k xs) (no_end-append (take k xs) (drop k xs) clear rest)

-- ---- the first line

ended_step : (b : Bool) (c : ℕ) (cs rest : List ℕ) → not b && has_no_end cs ≡ true → (has_no_end cs ≡ true → (lines_of (cs ++ 10 ∷ rest) ≡ cs ∷ lines_of rest) × (after_line (cs ++ 10 ∷ rest) ≡ rest))
    → (cond b ([] ∷ lines_of (cs ++ 10 ∷ rest)) (onto_first c (lines_of (cs ++ 10 ∷ rest))) ≡ (c ∷ cs) ∷ lines_of rest) × (cond b (cs ++ 10 ∷ rest) (after_line (cs ++ 10 ∷ rest)) ≡ rest)
ended_step true c cs rest e ih = absurd cc
ended_step false c cs rest e ih = let h = ih e in (ap (onto_first c) h.0, h.1)

pub ended : (front rest : List ℕ) → has_no_end front ≡ true → (lines_of (front ++ 10 ∷ rest) ≡ front ∷ lines_of rest) × (after_line (front ++ 10 ∷ rest) ≡ rest)
ended [] rest e = (refl, refl)
ended (c ∷ cs) rest e = ended_step (c == 10) c cs rest e (ended cs rest)

-- a line that begins with these bytes is the first
pub record Begins (front : List ℕ) (lines : List (List ℕ)) : Type 0 where
  pub more : List ℕ
  pub others : List (List ℕ)
  pub is : lines ≡ (front ++ more) ∷ others

first_byte : (c : ℕ) (lines : List (List ℕ)) → Begins (c ∷ []) (onto_first c lines)
first_byte c [] = record { more = []; others = []; is = refl }
first_byte c (l ∷ ls) = record { more = l; others = ls; is = refl }

one_byte : (b : Bool) (c : ℕ) (lines : List (List ℕ)) → not b && true ≡ true → Begins (c ∷ []) (cond b ([] ∷ lines) (onto_first c lines))
one_byte true c lines e = absurd cc
one_byte false c lines e = first_byte c lines

more_bytes : (b : Bool) (c : ℕ) (cs : List ℕ) (lines : List (List ℕ)) → not b && has_no_end cs ≡ true → (has_no_end cs ≡ true → Begins cs lines) → Begins (c ∷ cs) (cond b ([] ∷ lines) (onto_first c lines))
more_bytes true c cs lines e ih = absurd cc
more_bytes false c cs lines e ih = let r = ih e in record { more = r.more; others = r.others; is = ap (onto_first c) r.is }

pub open_front : (front more : List ℕ) → has_no_end front ≡ true → 0 < length front → Begins front (lines_of (front ++ more))
open_front [] more e some = absurd (omega arith)
open_front (c ∷ []) more e some = one_byte (c == 10) c (lines_of more) e
open_front (c ∷ d ∷ ds) more e some = more_bytes (c == 10) c (d ∷ ds) (lines_of (d ∷ ds ++ more)) e (λ h. open_front (d ∷ ds) more h (omega arith))

-- a last line
only_byte : (b : Bool) (c : ℕ) → not b && true ≡ true → cond b ([] ∷ []) (onto_first c []) ≡ (c ∷ []) ∷ []
only_byte true c e = absurd cc
only_byte false c e = refl

only_bytes : (b : Bool) (c : ℕ) (cs : List ℕ) (lines : List (List ℕ)) → not b && has_no_end cs ≡ true → (has_no_end cs ≡ true → lines ≡ cs ∷ []) → cond b ([] ∷ lines) (onto_first c lines) ≡ (c ∷ cs) ∷ []
only_bytes true c cs lines e ih = absurd cc
only_bytes false c cs lines e ih = ap (onto_first c) (ih e)

pub only_line : (line : List ℕ) → has_no_end line ≡ true → 0 < length line → lines_of line ≡ line ∷ []
only_line [] e some = absurd (omega arith)
only_line (c ∷ []) e some = only_byte (c == 10) c e
only_line (c ∷ d ∷ ds) e some = only_bytes (c == 10) c (d ∷ ds) (lines_of (d ∷ ds)) e (λ h. only_line (d ∷ ds) h (omega arith))

last_byte : (b : Bool) (c : ℕ) (cs : List ℕ) → not b && has_no_end cs ≡ true → (has_no_end cs ≡ true → after_line cs ≡ []) → cond b cs (after_line cs) ≡ []
last_byte true c cs e ih = absurd cc
last_byte false c cs e ih = ih e

pub nothing_behind : (line : List ℕ) → has_no_end line ≡ true → after_line line ≡ []
nothing_behind [] e = refl
nothing_behind (c ∷ cs) e = last_byte (c == 10) c cs e (nothing_behind cs)

-- ---- what is open, and what is refused however it goes on

pub opens : (n : ℕ) (bytes : List ℕ) → has_no_end bytes ≡ true → (AreTooMany n (length bytes) → ⊥) → is_open n bytes ≡ true
opens n bytes clear few = and_both (has_no_end bytes && nat_le (length bytes) 120) (nat_lt n 1000000 || length bytes == 0) (and_both (has_no_end bytes) (nat_le (length bytes) 120) clear (le-leb _ _ (by_length (cases_lt 120 (length bytes))))) (by_count (cases_lt n 1000000)) where
  by_length : (120 < length bytes) ⊎ (length bytes ≤ 120) → length bytes ≤ 120
  by_length (inl long) = absurd (few (inl long))
  by_length (inr short) = short

  by_count : (n < 1000000) ⊎ (1000000 ≤ n) → nat_lt n 1000000 || length bytes == 0 ≡ true
  by_count (inl h) = rw (lt-ltb _ _ h) refl
  by_count (inr h) = none (cases_lt 0 (length bytes)) where
    none : (0 < length bytes) ⊎ (length bytes ≤ 0) → nat_lt n 1000000 || length bytes == 0 ≡ true
    none (inl some) = absurd (few (inr (h, some)))
    none (inr empty) = let z : length bytes ≡ 0 = omega arith in rw z (or_true (nat_lt n 1000000))

pub open_parts : (n : ℕ) (bytes : List ℕ) → is_open n bytes ≡ true → (has_no_end bytes ≡ true) × (length bytes ≤ 120)
open_parts n bytes e =
    let h = and_step (has_no_end bytes && nat_le (length bytes) 120) (nat_lt n 1000000 || length bytes == 0) e in
    let k = and_step (has_no_end bytes) (nat_le (length bytes) 120) h.0 in
    (k.0, leb-true _ _ k.1)

-- a line that is too long, or one too many, stays so where it goes on
pub still : (n : ℕ) (line more : List ℕ) (kind : Fault) (command : Command) (r : MeterRecord) → AreTooMany n (length line) → fault_of command r n line ≡ Some kind → fault_of command r n (line ++ more) ≡ Some kind
still n line more kind command r (inr many) e =
    let b : nat_le 1000000 n ≡ true = le-leb _ _ many.0 in
    let was : Some TooMany ≡ Some kind = rw b at e in rw b was
still n line more kind command r (inl long) e =
    let b : nat_lt 120 (length line) ≡ true = lt-ltb _ _ long in
    let d : nat_lt 120 (length (line ++ more)) ≡ true = lt-ltb _ _ (omega (arith, length-append line more)) in
    let was : cond (nat_le 1000000 n) (Some TooMany) (Some TooLong) ≡ Some kind = rw b at e in rw d was

-- it says nothing
pub says_nothing : (n : ℕ) (line : List ℕ) → AreTooMany n (length line) → n < 1000000 → length line ≤ 120 → ⊥
says_nothing n line (inl long) few short = omega (arith, long, short)
says_nothing n line (inr many) few short = omega (arith, many.0, few)

-- ---- lengths

pub end_within : (bytes : List ℕ) (len : ℕ) → EndsBehind bytes len → len < length bytes
end_within bytes len r = by_cases (cases_lt len (length bytes)) where
  by_cases : (len < length bytes) ⊎ (length bytes ≤ len) → len < length bytes
  by_cases (inl h) = h
  by_cases (inr h) =
      let all : length bytes ≡ length (take len bytes) + (suc (length r.rest)) = ap length r.is ∙ length-append (take len bytes) (10 ∷ r.rest) in
      let part : length (take len bytes) ≡ min len (length bytes) = length-take len bytes in
      absurd (omega (arith, all, part, h))

pub rest_is : (bytes : List ℕ) (len : ℕ) (r : EndsBehind bytes len) → drop (len + 1) bytes ≡ r.rest
rest_is bytes len r =
    let size : length (take len bytes) ≡ len = length-take-le len bytes (omega (arith, end_within bytes len r)) in
    ap (drop (len + 1)) r.is ∙ subst (λ k. drop (k + 1) (take len bytes ++ 10 ∷ r.rest) ≡ r.rest) size (drop-append-add (take len bytes) (10 ∷ r.rest) 1)
