-- One more output line at the end, and how many there are.
use Rattle.std.proofs.Common.{◌≡◌, ◌⊎◌, inl, inr, ℕ, ◌+◌, ◌≤◌, List, [], ◌∷◌, ◌++◌, length, drop, refl, sym, ap, ◌∙◌, subst, arith, append_assoc}
use Rattle.std.proofs.lemmas.List.{append-nil}
use Rattle.metering_model.specs.Events.{Kept}
use Rattle.metering_model.specs.Records.{MeterRecord}
use Rattle.trace_model.specs.Output.{OutputLine}
use Rattle.script_model.specs.Grammar as grammar
use Rattle.script_model.specs.Grammar.{Line, Metering, Power, Opt, Mbus}
use Rattle.pairing_model.specs.Setup.{Setup}
use Rattle.pairing_model.specs.Journal.{Journal}
use Rattle.pairing_model.specs.Pairing.{Acknowledges, Answers, IgnoresBytes, Interrupts, Pairs, Replies, RepliesToFrame}

pub pairs-more : (s : Setup) (o : MeterRecord) (n : ℕ) (old : Journal) (lines : List (List ℕ)) (outputs : List OutputLine) (mid new : Journal) (l : List ℕ) (rest : List (List ℕ)) (a : OutputLine)
    → Pairs s o n old lines outputs mid → drop (length outputs) lines ≡ l ∷ rest → Answers s o (n + length outputs) mid l a new → Pairs s o n old lines (outputs ++ a ∷ []) new
pairs-more s o n old [] [] mid new l rest a same here more = absurd cc
pairs-more s o n old (k ∷ ks) [] mid new l rest a same here more =
    let first : k ≡ l = cc in
    (new, subst (λ m. Answers s o m old k a new) (omega arith) (subst (λ t. Answers s o (n + 0) old t a new) (sym first) (subst (λ m. Answers s o (n + 0) m l a new) same more)), refl)
pairs-more s o n old [] (b ∷ bs) mid new l rest a pairs here more = absurd pairs
pairs-more s o n old (k ∷ ks) (b ∷ bs) mid new l rest a pairs here more =
    (pairs.0, pairs.1, pairs-more s o (n + 1) pairs.0 ks bs mid new l rest a pairs.2 here (subst (λ m. Answers s o m mid l a new) (omega arith) more))

-- no more output lines than lines
pub pairs-length : (s : Setup) (o : MeterRecord) (n : ℕ) (old : Journal) (lines : List (List ℕ)) (outputs : List OutputLine) (new : Journal) → Pairs s o n old lines outputs new → length outputs ≤ length lines
pairs-length s o n old lines [] new pairs = omega arith
pairs-length s o n old [] (b ∷ bs) new pairs = absurd pairs
pairs-length s o n old (k ∷ ks) (b ∷ bs) new pairs = omega (arith, pairs-length s o (n + 1) pairs.0 ks bs new pairs.2)

-- an answer keeps at most one event more
pub reply-keeps : (s : Setup) (o : MeterRecord) (old : Journal) (said : Line) (a : OutputLine) (new : Journal) → Replies s o old said a new → (ks : List Kept) × (new.kept ≡ old.kept ++ ks)
reply-keeps s o old (Metering event) a new reply = by_cases reply where
  by_cases : Acknowledges s o old event a new ⊎ Interrupts s o old event a new → (ks : List Kept) × (new.kept ≡ old.kept ++ ks)
  by_cases (inl r) = (record { event = event; energy_mj = r.energy_mj; bound_mj = r.bound_mj } ∷ [], ap (λ (j : Journal). j.kept) r.keeps)
  by_cases (inr r) = (r.held, ap (λ (j : Journal). j.kept) r.restarts.starts)
reply-keeps s o old Power a new reply = ([], ap (λ (j : Journal). j.kept) reply.restarts.starts ∙ sym (append-nil old.kept))
reply-keeps s o old (grammar.Cut n keep fill) a new reply = ([], ap (λ (j : Journal). j.kept) reply.stays ∙ sym (append-nil old.kept))
reply-keeps s o old (Opt message) a new reply = ([], ap (λ (j : Journal). j.kept) reply.hears ∙ sym (append-nil old.kept))
reply-keeps s o old (Mbus bytes) a new reply = by_cases reply where
  by_cases : RepliesToFrame s o old bytes a new ⊎ IgnoresBytes s o old bytes a new → (ks : List Kept) × (new.kept ≡ old.kept ++ ks)
  by_cases (inl r) = ([], ap (λ (j : Journal). j.kept) r.hears ∙ sym (append-nil old.kept))
  by_cases (inr r) = ([], ap (λ (j : Journal). j.kept) r.hears ∙ sym (append-nil old.kept))

-- the events kept before stay in front
pub pairs-grow : (s : Setup) (o : MeterRecord) (n : ℕ) (old : Journal) (lines : List (List ℕ)) (outputs : List OutputLine) (new : Journal) → Pairs s o n old lines outputs new → (ks : List Kept) × (new.kept ≡ old.kept ++ ks)
pairs-grow s o n old lines [] new pairs = ([], ap (λ (j : Journal). j.kept) pairs ∙ sym (append-nil old.kept))
pairs-grow s o n old [] (b ∷ bs) new pairs = absurd pairs
pairs-grow s o n old (l ∷ ls) (b ∷ bs) new pairs =
    let one = reply-keeps s o old pairs.1.said b pairs.0 pairs.1.reply in
    let more = pairs-grow s o (n + 1) pairs.0 ls bs new pairs.2 in
    (one.0 ++ more.0, more.1 ∙ ap (λ ks. ks ++ more.0) one.1 ∙ append_assoc old.kept one.0 more.0)

-- what pairs with the first lines, up to some output line, and the events that were kept after it
pub record PairsFront (s : Setup) (o : MeterRecord) (n : ℕ) (old : Journal) (lines : List (List ℕ)) (front : List OutputLine) (new : Journal) : Type 0 where
  pub journal : Journal
  pub pairs : Pairs s o n old lines front journal
  pub after : List Kept
  pub is : new.kept ≡ journal.kept ++ after

-- the first of output lines pair with lines where all of them do
pub pairs-front : (s : Setup) (o : MeterRecord) (n : ℕ) (old : Journal) (lines : List (List ℕ)) (front back : List OutputLine) (new : Journal) → Pairs s o n old lines (front ++ back) new → PairsFront s o n old lines front new
pairs-front s o n old lines [] back new pairs = let grown = pairs-grow s o n old lines back new pairs in record { journal = old; pairs = refl; after = grown.0; is = grown.1 }
pairs-front s o n old [] (b ∷ bs) back new pairs = absurd pairs
pairs-front s o n old (l ∷ ls) (b ∷ bs) back new pairs =
    let rest = pairs-front s o (n + 1) pairs.0 ls bs back new pairs.2 in
    record { journal = rest.journal; pairs = (pairs.0, pairs.1, rest.pairs); after = rest.after; is = rest.is }
