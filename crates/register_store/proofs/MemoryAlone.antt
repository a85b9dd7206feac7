-- Stretches of a trace in which the memory alone worked.
use Rattle.std.proofs.Common.{◌≡◌, ℕ, ◌+◌, ◌≤◌, Bool, true, false, cond, List, [], ◌∷◌, ◌++◌, refl, sym, ap, ◌∙◌, arith, append_assoc, Result, Ok, Err}
use Rattle.std.specs.Prelude.{All, count_by}
use Rattle.std.proofs.lemmas.List.{append-nil}
use Rattle.std.proofs.lemmas.List.Elements.{All-nil, All-push}
use Rattle.std.proofs.lemmas.List.Sums.{sum_by-append, sum_by_push}
use Rattle.trace_model.specs.Trace.{Entry, Store, Sync, Missed, Put, Arm, Cut, Trace, ◌▷◌}
use Rattle.trace_model.specs.Output.{bytes_put, is_output_line, open_segment, output_lines}
use Rattle.trace_model.specs.Moments.{Grew, same, more}
use Rattle.trace_model.proofs.Moments.{Grew-weaker}
use Rattle.meter_board.specs.declared.refusal.Refusal.{Refusal}
use Rattle.meter_board.specs.declared.refusal.Refusal.TheVariants as refusals
use Rattle.register_store.specs.declared.format_fault.FormatFault.{FormatFault}
use Rattle.register_store.specs.declared.format_fault.FormatFault.TheVariants as faults
use Rattle.register_store.specs.Works.{FormatWorks, WorksBy, count_of, is_other}

-- the trace goes on by these entries
abbrev pub with_entries : Trace → List Entry → Trace
with_entries t [] = t
with_entries t (e ∷ es) = with_entries (t ▷ e) es

-- the trace went on by these entries, all of them of the memory: no line went out, and the counts tell how many they are
pub record MemoryAlone (old new : Trace) (entries : List Entry) : Type 0 where
  pub grown : new ≡ with_entries old entries
  pub memory : All (λ e. is_other e ≡ false) entries
  pub lines : output_lines new ≡ output_lines old
  pub segment : open_segment new ≡ open_segment old ++ entries
  pub counts : (kind : Entry → Bool) → count_of kind new ≡ count_of kind old + count_by kind entries

-- a moment of such a stretch: a front of its entries
pub record FrontAlone (old : Trace) (entries : List Entry) (t : Trace) : Type 0 where
  pub front : List Entry
  pub rest : List Entry
  pub is : entries ≡ front ++ rest
  pub alone : MemoryAlone old t front

-- the whole stretch, with what held at each of its moments
pub record MemoryStretch (P : Trace → Type 0) (old new : Trace) : Type 0 where
  pub entries : List Entry
  pub alone : MemoryAlone old new entries
  pub moments : Grew (λ t. P t × FrontAlone old entries t) old new

-- ---- one more entry

with_entries-push : (t : Trace) (es : List Entry) (e : Entry) → with_entries t (es ++ e ∷ []) ≡ with_entries t es ▷ e
with_entries-push t [] e = refl
with_entries-push t (d ∷ ds) e = with_entries-push (t ▷ d) ds e

pub no_line : (e : Entry) → is_other e ≡ false → is_output_line e ≡ false
no_line (Store at bytes) is = refl
no_line Sync is = refl
no_line Missed is = refl
no_line (Put bytes) is = absurd cc
no_line (Arm n keep fill) is = absurd cc
no_line (Cut forced image) is = refl

none_alone : (old : Trace) → MemoryAlone old old []
none_alone old = record { grown = refl; memory = All-nil (λ (e : Entry). is_other e ≡ false); lines = refl; segment = sym (append-nil (open_segment old)); counts = λ kind. omega arith }

one_more_alone : (old t : Trace) (es : List Entry) (e : Entry) → MemoryAlone old t es → is_other e ≡ false → MemoryAlone old (t ▷ e) (es ++ e ∷ [])
one_more_alone old t es e a is = record {
  grown = ap (λ (s : Trace). s ▷ e) a.grown ∙ sym (with_entries-push old es e);
  memory = All-push (λ (d : Entry). is_other d ≡ false) es e a.memory is;
  lines = ap (λ b. cond b (output_lines t ++ record { segment = open_segment t; text = bytes_put e } ∷ []) (output_lines t)) (no_line e is) ∙ a.lines;
  segment = ap (λ b. cond b [] (open_segment t ++ e ∷ [])) (no_line e is) ∙ ap (λ (l : List Entry). l ++ e ∷ []) a.segment ∙ append_assoc (open_segment old) es (e ∷ []);
  counts = λ kind. omega (arith, a.counts kind, sum_by_push (λ (x : Entry). cond (kind x) 1 0) es e);
}

-- ---- the law

-- no count falls
pub Grew-count : {P : Trace → Type 0} {old new : Trace} (kind : Entry → Bool) → Grew P old new → count_of kind old ≤ count_of kind new
Grew-count kind same = omega arith
Grew-count kind (more {t} {e} g here) = omega (arith, Grew-count kind g)

none_counted : (b : Bool) (n : ℕ) → n + cond b 1 0 ≡ n → b ≡ false
none_counted true n is = absurd (omega (arith, is))
none_counted false n is = refl

longer_front : (old : Trace) (es : List Entry) (e : Entry) (t : Trace) → FrontAlone old es t → FrontAlone old (es ++ e ∷ []) t
longer_front old es e t f = record {
  front = f.front;
  rest = f.rest ++ e ∷ [];
  is = ap (λ (l : List Entry). l ++ e ∷ []) f.is ∙ append_assoc f.front f.rest (e ∷ []);
  alone = f.alone;
}

-- where nothing but the memory's entries was added, the memory worked alone
pub memory_alone : {P : Trace → Type 0} {old new : Trace} → Grew P old new → count_of is_other new ≡ count_of is_other old → MemoryStretch P old new
memory_alone {P} {old} same others = record { entries = []; alone = none_alone old; moments = same }
memory_alone {P} {old} (more {t} {e} g here) others =
    let fewer : count_of is_other old ≤ count_of is_other t = Grew-count is_other g in
    let last : is_other e ≡ false = none_counted (is_other e) (count_of is_other t) (omega (arith, others, fewer)) in
    let before : MemoryStretch P old t = memory_alone g (omega (arith, others, fewer)) in
    let now : MemoryAlone old (t ▷ e) (before.entries ++ e ∷ []) = one_more_alone old t before.entries e before.alone last in
    record {
      entries = before.entries ++ e ∷ [];
      alone = now;
      moments = more
          (Grew-weaker (λ s at. (at.0, longer_front old before.entries e s at.1)) before.moments)
          (here, record { front = before.entries ++ e ∷ []; rest = []; is = sym (append-nil (before.entries ++ e ∷ [])); alone = now });
    }

-- at each moment of it the output lines are those of its start
pub lines_stay : {P : Trace → Type 0} {old new : Trace} → Grew P old new → count_of is_other new ≡ count_of is_other old → Grew (λ t. P t × (output_lines t ≡ output_lines old)) old new
lines_stay {P} {old} {new} g others = Grew-weaker (λ s at. (at.0, at.1.alone.lines)) (memory_alone g others).moments

-- and no more entries of a kind than in all of it
pub front_counts : (old : Trace) (entries : List Entry) (t : Trace) (kind : Entry → Bool) → FrontAlone old entries t → count_of kind t ≤ count_of kind old + count_by kind entries
front_counts old entries t kind f =
    omega (arith, f.alone.counts kind, ap (λ (l : List Entry). count_by kind l) f.is, sum_by-append (λ (x : Entry). cond (kind x) 1 0) f.front f.rest)

-- so it is with each call that stores, whatever it answered
pub works_alone : {T : Type 0} (n : ℕ) (result : Result T Refusal) (old new : Trace) → WorksBy n result old new → count_of is_other new ≡ count_of is_other old
works_alone n (Ok x) old new works = works.others
works_alone n (Err refusals.Failed) old new works = works.others
works_alone n (Err refusals.Cut) old new works = works.others

pub format_alone : {T : Type 0} (result : Result T FormatFault) (old new : Trace) → FormatWorks result old new → count_of is_other new ≡ count_of is_other old
format_alone (Ok x) old new works = works.others
format_alone (Err faults.Formatted) old new works = ap (count_of is_other) works
format_alone (Err faults.Memory) old new works = works.others
format_alone (Err faults.Cut) old new works = works.others
