-- How a run without a memory begins and goes on.
use Rattle.std.proofs.Common.{◌≡◌, ℕ, ◌+◌, List, [], Ok, refl, sym, ap, subst, ◌∙◌, arith}
use Rattle.metering_model.specs.Records.{MeterRecord}
use Rattle.script_model.specs.Grammar as grammar
use Rattle.trace_model.specs.Trace.{IsFresh, Put, Start, Trace, ◌▷◌, base_of}
use Rattle.answer_model.specs.Faults.{Dry, said_fault}
use Rattle.answer_model.specs.Texts.{ok_text}
use Rattle.answer_model.proofs.Texts.{IsPrintable}
use Rattle.pairing_model.specs.Journal.{Journal, at_start}
use Rattle.meter_board.specs.Puts.{PutsFront}
use Rattle.event_script.specs.Next.{IsFirst, SaysAt}
use Rattle.event_script.proofs.Says.{decides}
use Rattle.run_engine.specs.declared.Ended.TheVariants.{Write}
use Rattle.run_engine.specs.Dry.{dry_opening, dry_setup, dry_settings}
use Rattle.run_engine.specs.Progress.{Point, Progress, SomeProgress, first_point}
use Rattle.run_engine.specs.Outcome.{Outcome}
use Rattle.run_engine.specs.EventVerdict.{DryVerdict, TakenLine}
use Rattle.run_engine.proofs.Nothing.{stands_nothing}
use Rattle.run_engine.proofs.Progress.{Answered, at_once, event_answered, failed, goes_on, next_journal}

-- before the first line
module _ (script : List ℕ) (t : Trace) (fresh : IsFresh t) where
  starts : (base : List ℕ) → Progress dry_setup dry_opening (first_point script dry_opening (Start base))
  starts base = record { pairs = refl; fits = tt; count = refl; nothing = refl; behind = refl; in_force = stands_nothing dry_settings dry_opening (omega arith) }

  pub dry_starts : SomeProgress dry_setup dry_opening script script 0 dry_opening t
  dry_starts = (at_start, subst (λ (u : Trace). Progress dry_setup dry_opening (first_point script dry_opening u)) (sym fresh) (starts (base_of t)))

module _ {at : Point} (g : Progress dry_setup dry_opening at) {line after : List ℕ} (first : IsFirst at.rest line after) {new : MeterRecord} (takes : TakenLine Dry dry_settings at.answered at.in_force line new)
    (text : List ℕ) (is : text ≡ ok_text dry_settings new) (printable : IsPrintable dry_settings new) where
  abbrev later : Journal
  later = next_journal g first takes

  answered : Answered dry_setup dry_opening at line [] text later new
  answered = event_answered g first takes [] text refl is printable

  pub dry_goes_on : SomeProgress dry_setup dry_opening at.script after (at.answered + 1) new (at.trace ▷ Put text)
  dry_goes_on = (later, goes_on g first answered (at_once at.trace g.nothing))

  pub dry_failed : (v : Trace) → PutsFront at.trace text v → Outcome dry_setup dry_opening at.script v Write
  dry_failed = failed g first answered (at_once at.trace g.nothing)

-- what a line says is taken
pub takes_dry : {T : Type 0} (n : ℕ) (line : List ℕ) (said : grammar.Line) (r new : MeterRecord) (t : T) → SaysAt n line said → DryVerdict dry_settings r said new (Ok t) → TakenLine Dry dry_settings n r line new
takes_dry n line said r new t says h = record {
  event = h.0;
  taken = decides says Dry r ∙ ap (λ (s : grammar.Line). said_fault Dry r (Ok s)) h.1 ∙ h.2;
  says = says.says ∙ ap Ok h.1;
  takes = h.3;
}
