-- No output line shows more events than were kept.
use Rattle.std.proofs.Common.{◌≡◌, ◌⊎◌, inl, inr, ℕ, ◌+◌, ◌^◌, ◌≤◌, ◌<◌, List, [], ◌∷◌, ◌++◌, length, Option, None, Some, sym, ap, ◌∙◌, arith, length-append}
use Rattle.metering_model.specs.Events.{Kept}
use Rattle.metering_model.specs.Records.{MeterRecord}
use Rattle.trace_model.specs.Output.{OutputLine}
use Rattle.script_model.specs.Grammar as grammar
use Rattle.script_model.specs.Grammar.{Line, Metering, Power, Opt, Mbus}
use Rattle.answer_model.specs.Texts.{armed_text, mbus_text}
use Rattle.pairing_model.specs.Setup.{Setup, settings_in}
use Rattle.pairing_model.specs.Journal.{Journal, in_force}
use Rattle.pairing_model.specs.Pairing.{Acknowledges, IgnoresBytes, Interrupts, Pairs, Replies, RepliesToFrame, Restarts}
use Rattle.pairing_model.proofs.Pairs.{pairs-grow}
use Rattle.recovery_model.specs.Shown.{ShowAtMost, number_shown}
use Rattle.recovery_model.proofs.Shown.{number_shown-mbus_text, number_shown-ok_text, number_shown-opt_text, number_shown-power_text}

same_number : (a b : ℕ) → Some a ≡ Some b → a ≡ b
same_number a b e = cc

-- a text that shows the record in force of a journal shows its number of events
shows_number : (s : Setup) (o : MeterRecord) (j : Journal) (text : List ℕ) (k : ℕ) → number_shown text ≡ Some (in_force s o j).seq → number_shown text ≡ Some k → k ≡ o.seq + length j.kept
shows_number s o j text k is shows = same_number k (o.seq + length j.kept) (sym shows ∙ is)

-- an `mbus` line shows the events kept before it, and keeps none
mbus_shows : (s : Setup) (o : MeterRecord) (old : Journal) (reply : Option (List ℕ)) (text : List ℕ) (new : Journal) (k : ℕ) → text ≡ mbus_text (in_force s o old) reply → new.kept ≡ old.kept → o.seq + length new.kept < 10 ^ 64 → number_shown text ≡ Some k → k ≤ o.seq + length new.kept
mbus_shows s o old reply text new k is keeps small shows =
    let same : length new.kept ≡ length old.kept = ap length keeps in
    omega (arith, same, shows_number s o old text k (ap number_shown is ∙ number_shown-mbus_text (in_force s o old) reply (omega (arith, same))) shows)

-- a `power` line shows the events that were recovered
restart_shows : (s : Setup) (o : MeterRecord) (kept : List Kept) (interrupted : ℕ) (text : List ℕ) (new : Journal) (k : ℕ) → Restarts s o kept interrupted text new → o.seq + length new.kept < 10 ^ 64 → number_shown text ≡ Some k → k ≤ o.seq + length new.kept
restart_shows s o kept interrupted text new k r small shows =
    omega (arith, shows_number s o new text k (ap number_shown r.shows ∙ number_shown-power_text (settings_in s) (in_force s o new) small) shows)

-- an `armed` line shows no number
armed_shows_none : (text : List ℕ) (k : ℕ) → text ≡ armed_text → number_shown text ≡ Some k → ⊥
armed_shows_none text k is shows = differ k (sym shows ∙ ap number_shown is) where
  differ : (m : ℕ) → Some m ≡ None → ⊥
  differ m e = cc

-- an answer shows no more events than are kept with it: an `ok` or a `power` line all of them, a readout those before it
answer_shows : (s : Setup) (o : MeterRecord) (old : Journal) (said : Line) (a : OutputLine) (new : Journal) (k : ℕ) → Replies s o old said a new → o.seq + length new.kept < 10 ^ 64 → number_shown a.text ≡ Some k → k ≤ o.seq + length new.kept
answer_shows s o old (Metering event) a new k reply small shows = by_cases reply where
  by_cases : Acknowledges s o old event a new ⊎ Interrupts s o old event a new → k ≤ o.seq + length new.kept
  by_cases (inl r) = omega (arith, shows_number s o new a.text k (ap number_shown r.shows ∙ number_shown-ok_text (settings_in s) (in_force s o new) small) shows)
  by_cases (inr r) = restart_shows s o (old.kept ++ r.held) (old.interrupted + 1) a.text new k r.restarts small shows
answer_shows s o old Power a new k reply small shows = restart_shows s o old.kept old.interrupted a.text new k reply.restarts small shows
answer_shows s o old (grammar.Cut n keep fill) a new k reply small shows = absurd (armed_shows_none a.text k reply.says shows)
answer_shows s o old (Opt message) a new k reply small shows =
    let same : length new.kept ≡ length old.kept = ap (λ (j : Journal). length j.kept) reply.hears in
    omega (arith, same, shows_number s o old a.text k (ap number_shown reply.shows ∙ number_shown-opt_text (in_force s o old) reply.reply (omega (arith, same))) shows)
answer_shows s o old (Mbus bytes) a new k reply small shows = by_cases reply where
  by_cases : RepliesToFrame s o old bytes a new ⊎ IgnoresBytes s o old bytes a new → k ≤ o.seq + length new.kept
  by_cases (inl r) = mbus_shows s o old _ a.text new k r.shows (ap (λ (j : Journal). j.kept) r.hears) small shows
  by_cases (inr r) = mbus_shows s o old None a.text new k r.shows (ap (λ (j : Journal). j.kept) r.hears) small shows

pub show_at_most : (s : Setup) (o : MeterRecord) (n : ℕ) (old : Journal) (lines : List (List ℕ)) (outputs : List OutputLine) (new : Journal) (events : ℕ) → Pairs s o n old lines outputs new → o.seq + length new.kept ≤ events → events < 10 ^ 64 → ShowAtMost events outputs
show_at_most s o n old lines [] new events pairs most small = tt
show_at_most s o n old [] (a ∷ more) new events pairs most small = absurd pairs
show_at_most s o n old (l ∷ ls) (a ∷ more) new events pairs most small =
    let later = pairs-grow s o (n + 1) pairs.0 ls more new pairs.2 in
    let counted : length new.kept ≡ length pairs.0.kept + length later.0 = ap length later.1 ∙ length-append pairs.0.kept later.0 in
    ((λ k shows. omega (arith, counted, answer_shows s o old pairs.1.said a pairs.0 k pairs.1.reply (omega (arith, counted)) shows)), show_at_most s o (n + 1) pairs.0 ls more new events pairs.2 most small)
