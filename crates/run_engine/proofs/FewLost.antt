-- No more metering events are answered by a power failure than the board counts cuts.
use Rattle.std.proofs.Common.{◌≡◌, ◌⊎◌, inl, inr, ℕ, ◌+◌, ◌-◌, ◌^◌, ◌≤◌, Bool, true, false, cond, List, [], ◌∷◌, ◌++◌, ap, ◌∙◌, arith}
use Rattle.std.specs.Prelude.{count_by, min, if◌then◌else◌}
use Rattle.std.proofs.lemmas.List.Sums.{sum_by-append}
use Rattle.metering_model.specs.Records.{MeterRecord}
use Rattle.script_model.specs.Lines.{lines_of}
use Rattle.script_model.specs.Grammar as grammar
use Rattle.script_model.specs.Grammar.{Line, Metering, Power, Opt, Mbus}
use Rattle.trace_model.specs.Trace.{Entry, Cut, Trace, Start, ◌▷◌, IsFresh}
use Rattle.trace_model.specs.Output.{OutputLine, bytes_put, is_output_line, open_segment, output_lines}
use Rattle.pairing_model.specs.Setup.{Setup}
use Rattle.pairing_model.specs.Journal.{Journal, at_start}
use Rattle.pairing_model.specs.Pairing.{Acknowledges, IgnoresBytes, Interrupts, Pairs, Replies, RepliesToFrame}
use Rattle.register_store.specs.Works.{count_of, is_forced_cut}
use Rattle.run_engine.specs.Steps.{CountsCuts}

-- how many power failures within calls of the memory stand before these output lines
abbrev cuts_before : List OutputLine → ℕ
cuts_before [] = 0
cuts_before (a ∷ more) = count_by is_forced_cut a.segment + cuts_before more

one_behind : (outputs : List OutputLine) (a : OutputLine) → cuts_before (outputs ++ a ∷ []) ≡ cuts_before outputs + count_by is_forced_cut a.segment
one_behind [] a = omega arith
one_behind (b ∷ bs) a = omega (arith, one_behind bs a)

-- an answer counts no more power failures of events than stand before it
counts : (s : Setup) (o : MeterRecord) (old : Journal) (said : Line) (a : OutputLine) (new : Journal) → Replies s o old said a new → new.interrupted ≤ old.interrupted + count_by is_forced_cut a.segment
counts s o old (Metering event) a new reply = by_cases reply where
  by_cases : Acknowledges s o old event a new ⊎ Interrupts s o old event a new → new.interrupted ≤ old.interrupted + count_by is_forced_cut a.segment
  by_cases (inl r) = omega (arith, ap (λ (j : Journal). j.interrupted) r.keeps)
  by_cases (inr r) =
      let whole : count_by is_forced_cut a.segment ≡ count_by is_forced_cut r.cut.work + 1 = ap (count_by is_forced_cut) r.cut.is ∙ sum_by-append (λ (x : Entry). cond (is_forced_cut x) 1 0) r.cut.work (Cut true r.cut.image ∷ []) in
      omega (arith, whole, ap (λ (j : Journal). j.interrupted) r.restarts.starts)
counts s o old Power a new reply = omega (arith, ap (λ (j : Journal). j.interrupted) reply.restarts.starts)
counts s o old (grammar.Cut n keep fill) a new reply = omega (arith, ap (λ (j : Journal). j.interrupted) reply.stays)
counts s o old (Opt message) a new reply = omega (arith, ap (λ (j : Journal). j.interrupted) reply.hears)
counts s o old (Mbus bytes) a new reply = by_cases reply where
  by_cases : RepliesToFrame s o old bytes a new ⊎ IgnoresBytes s o old bytes a new → new.interrupted ≤ old.interrupted + count_by is_forced_cut a.segment
  by_cases (inl r) = omega (arith, ap (λ (j : Journal). j.interrupted) r.hears)
  by_cases (inr r) = omega (arith, ap (λ (j : Journal). j.interrupted) r.hears)

pairs_count : (s : Setup) (o : MeterRecord) (n : ℕ) (old : Journal) (lines : List (List ℕ)) (outputs : List OutputLine) (new : Journal) → Pairs s o n old lines outputs new → new.interrupted ≤ old.interrupted + cuts_before outputs
pairs_count s o n old lines [] new pairs = omega (arith, ap (λ (j : Journal). j.interrupted) pairs)
pairs_count s o n old [] (a ∷ more) new pairs = absurd pairs
pairs_count s o n old (l ∷ ls) (a ∷ more) new pairs = omega (arith, counts s o old pairs.1.said a pairs.0 pairs.1.reply, pairs_count s o (n + 1) pairs.0 ls more new pairs.2)

-- all of them stand in the trace
in_trace : (t : Trace) → cuts_before (output_lines t) + count_by is_forced_cut (open_segment t) ≤ count_of is_forced_cut t
in_trace (Start base) = omega arith
in_trace (t ▷ e) = by_kind (in_trace t) (is_output_line e) where
  by_kind : cuts_before (output_lines t) + count_by is_forced_cut (open_segment t) ≤ count_of is_forced_cut t → (b : Bool)
      → cuts_before (cond b (output_lines t ++ record { segment = open_segment t; text = bytes_put e } ∷ []) (output_lines t)) + count_by is_forced_cut (cond b [] (open_segment t ++ e ∷ [])) ≤ count_of is_forced_cut t + (if is_forced_cut e then 1 else 0)
  by_kind before true = omega (arith, before, one_behind (output_lines t) (record { segment = open_segment t; text = bytes_put e }))
  by_kind before false = omega (arith, before, sum_by-append (λ (x : Entry). cond (is_forced_cut x) 1 0) (open_segment t) (e ∷ []))

pub few_lost : (s : Setup) (o : MeterRecord) (script : List ℕ) (old t : Trace) (j : Journal) (before now : ℕ) → IsFresh old → CountsCuts old t before now → Pairs s o 0 at_start (lines_of script) (output_lines t) j → min (before + j.interrupted) (2 ^ 64 - 1) ≤ now
few_lost s o script old t j before now fresh counted pairs =
    let none : count_of is_forced_cut old ≡ 0 = ap (count_of is_forced_cut) fresh in
    let all : min (before + count_of is_forced_cut t) (2 ^ 64 - 1) ≤ now = counted before (omega (arith, none)) in
    omega (arith, all, pairs_count s o 0 at_start (lines_of script) (output_lines t) j pairs, in_trace t)

-- ---- the count of cuts of a call

-- a call in which the memory's calls were cut no more often
pub no_cut : (t t' : Trace) (before now : ℕ) → count_of is_forced_cut t' ≡ count_of is_forced_cut t → before ≤ now → CountsCuts t t' before now
no_cut t t' before now same later = λ first enough. omega (arith, same, later, enough)

-- one in which they were cut once
pub one_cut : (t t' : Trace) (before now : ℕ) → count_of is_forced_cut t' ≡ count_of is_forced_cut t + 1 → min (before + 1) (2 ^ 64 - 1) ≤ now → CountsCuts t t' before now
one_cut t t' before now more rose = λ first enough. omega (arith, more, rose, enough)
