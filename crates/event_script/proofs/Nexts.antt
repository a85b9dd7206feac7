-- What is answered for the first line of the bytes that are held, and of those that are left behind them.
use Rattle.std.proofs.Common.{◌≡◌, ℕ, ◌+◌, ◌<◌, ◌≤◌, inl, inr, true, false, List, [], ◌∷◌, ◌++◌, Option, None, Some, take, drop, length, refl, arith, sym, ap, ◌∙◌, subst, append_assoc, length-append}
use Rattle.std.specs.Prelude.{MatchOption}
use Rattle.std.specs.Option.{is_some}
use Rattle.std.proofs.lemmas.List.{nil_from_length}
use Rattle.std.proofs.Math.Seq.{take-length}
use Rattle.std.proofs.Math.ListN.{drop_of_length-le}
use Rattle.script_model.specs.Lines.{lines_of, after_line}
use Rattle.script_model.proofs.After.{lines_of-after_line}
use Rattle.answer_model.specs.Faults.{has_no_end, is_open}
use Rattle.event_script.specs.Next.{AreTooMany, AsksWhereOpen, Decides, EndsBehind, GivesLine, NextGives}
use Rattle.event_script.specs.Views.{fault_view}
use Rattle.event_script.specs.declared.next.Next.{Next}
use Rattle.event_script.specs.declared.next.Next.TheVariants.{Got, Bad, End, ReadFault}
use Rattle.event_script.proofs.Ends.{end_within, ended, nothing_behind, only_line, open_front, rest_is, says_nothing, still}

-- a line with its end
gives_ended : (n : ℕ) (held left held' left' : List ℕ) (len : ℕ) (r : EndsBehind held len) (answer : Next) (message : List ℕ) → left' ≡ left → GivesLine n (take len held) answer message (drop (len + 1) held) held' → NextGives n (held ++ left) answer message (held' ++ left')
gives_ended n held left held' left' len r answer message same h =
    let bytes : held ++ left ≡ take len held ++ 10 ∷ (r.rest ++ left) = ap (λ xs. xs ++ left) r.is ∙ append_assoc (take len held) (10 ∷ r.rest) left in
    let e = ended (take len held) (r.rest ++ left) r.front in
    let first : lines_of (held ++ left) ≡ take len held ∷ lines_of (r.rest ++ left) = ap lines_of bytes ∙ e.0 in
    by_answer answer h first (ap after_line bytes ∙ e.1) where
      by_answer : (answer : Next) → GivesLine n (take len held) answer message (drop (len + 1) held) held' → lines_of (held ++ left) ≡ take len held ∷ lines_of (r.rest ++ left) → after_line (held ++ left) ≡ r.rest ++ left → NextGives n (held ++ left) answer message (held' ++ left')
      by_answer (Got said) h first behind =
          let rest : held' ++ left' ≡ r.rest ++ left = (λ i. (h.1 ∙ rest_is held len r) i ++ same i) in
          record { line = take len held; first = record { lines = first ∙ ap (λ xs. take len held ∷ lines_of xs) (sym rest); after = rest ∙ sym behind }; says = h.0 }
      by_answer (Bad kind) h first behind = record { line = take len held; first = record { lines = first ∙ ap (λ xs. take len held ∷ lines_of xs) (sym behind); after = refl }; why = h }
      by_answer End h first behind = absurd h
      by_answer ReadFault h first behind = absurd h

-- a line that is too long, or one too many, as far as it is held
gives_too_many : (n : ℕ) (held left held' left' : List ℕ) → has_no_end held ≡ true → 0 < length held → AreTooMany n (length held) → (answer : Next) (message : List ℕ) → GivesLine n (take (length held) held) answer message (drop (length held + 1) held) held' → NextGives n (held ++ left) answer message (held' ++ left')
gives_too_many n held left held' left' clear some many answer message h = by_answer answer (subst (λ xs. GivesLine n xs answer message (drop (length held + 1) held) held') (take-length held) h) where
  by_answer : (answer : Next) → GivesLine n held answer message (drop (length held + 1) held) held' → NextGives n (held ++ left) answer message (held' ++ left')
  by_answer (Got said) h = absurd (says_nothing n held many h.0.few h.0.short)
  by_answer (Bad kind) h = let b = open_front held left clear some in record { line = held ++ b.more; first = record { lines = b.is ∙ ap (λ ls. (held ++ b.more) ∷ ls) (sym (ap (drop 1) b.is) ∙ sym (lines_of-after_line (held ++ left))); after = refl }; why = λ command r. still n held b.more (fault_view kind) command r many (h command r) }
  by_answer End h = absurd h
  by_answer ReadFault h = absurd h

some_of : (n len : ℕ) → AreTooMany n len → 0 < len
some_of n len (inl long) = omega (arith, long)
some_of n len (inr many) = many.1

pub gives_decided : (n : ℕ) (held left held' left' : List ℕ) (len : ℕ) → Decides n held len → (answer : Next) (message : List ℕ) → left' ≡ left → GivesLine n (take len held) answer message (drop (len + 1) held) held' → NextGives n (held ++ left) answer message (held' ++ left')
gives_decided n held left held' left' len (inl r) answer message same h = gives_ended n held left held' left' len r answer message same h
gives_decided n held left held' left' len (inr d) answer message same h =
    let size : len ≡ length held = d.1 in
    let many : AreTooMany n (length held) = subst (AreTooMany n) size d.2 in
    gives_too_many n held left held' left' d.0 (some_of n (length held) many) many answer message (subst (λ k. GivesLine n (take k held) answer message (drop (k + 1) held) held') size h)

-- so many bytes are held
pub decided_within : (n : ℕ) (held : List ℕ) (len : ℕ) → Decides n held len → len ≤ length held
decided_within n held len (inl r) = omega (arith, end_within held len r)
decided_within n held len (inr d) = omega (arith, d.1)

-- the last line, which has no end
pub gives_last : (n : ℕ) (held held' : List ℕ) → has_no_end held ≡ true → 0 < length held → (answer : Next) (message : List ℕ) → GivesLine n (take (length held) held) answer message (drop (length held + 1) held) held' → NextGives n held answer message held'
gives_last n held held' clear some answer message h = by_answer answer (subst (λ xs. GivesLine n xs answer message (drop (length held + 1) held) held') (take-length held) h) where
  one : lines_of held ≡ held ∷ []
  one = only_line held clear some

  by_answer : (answer : Next) → GivesLine n held answer message (drop (length held + 1) held) held' → NextGives n held answer message held'
  by_answer (Got said) h =
      let none : held' ≡ [] = h.1 ∙ drop_of_length-le held (omega arith) in
      record { line = held; first = record { lines = one ∙ ap (λ xs. held ∷ lines_of xs) (sym none); after = none ∙ sym (nothing_behind held clear) }; says = h.0 }
  by_answer (Bad kind) h = record { line = held; first = record { lines = one ∙ ap (λ xs. held ∷ lines_of xs) (sym (nothing_behind held clear)); after = refl }; why = h }
  by_answer End h = absurd h
  by_answer ReadFault h = absurd h

-- the bytes that came last were asked for where those before left the line open
pub asked : (n : ℕ) (held held' taken bytes left mid left' : List ℕ) → held' ≡ held ++ taken → left ≡ taken ++ mid → mid ≡ bytes ++ left' → is_open n held' ≡ true → AsksWhereOpen n held left left'
asked n held held' taken bytes left mid left' is first then_ was = record { before = taken; last = bytes; delivered = first ∙ ap (λ xs. taken ++ xs) then_; needed = subst (λ xs. is_open n xs ≡ true) is was }

-- nothing is held, and nothing was left
pub ends_all : (held held' taken now left mid bytes left' : List ℕ) → now ≡ held ++ taken → left ≡ taken ++ mid → mid ≡ bytes ++ left' → mid ≡ [] → now ++ bytes ≡ [] → held' ≡ [] → (held ++ left ≡ []) × (held' ++ left' ≡ [])
ends_all held held' taken now left mid bytes left' is first then_ none empty gone =
    let all : length (bytes ++ left') ≡ 0 = ap length (sym then_ ∙ none) in
    let rest : left' ≡ [] = nil_from_length left' (omega (arith, all, length-append bytes left')) in
    let held_none : length (now ++ bytes) ≡ 0 = ap length empty in
    let size : length now ≡ 0 = omega (arith, held_none, length-append now bytes) in
    (nil_from_length (held ++ left) (omega (arith, length-append held left, ap length first, length-append taken mid, ap length none, size, ap length is, length-append held taken)), (λ i. gone i ++ rest i))

-- where nothing is decided, the line is open
pub undecided : (n : ℕ) (bytes : List ℕ) (decided : Option ℕ) → is_some decided ≡ false → MatchOption decided (is_open n bytes ≡ true) (Decides n bytes) → is_open n bytes ≡ true
undecided n bytes None none is = is
undecided n bytes (Some len) none is = absurd cc
