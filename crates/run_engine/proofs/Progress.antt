-- The lines of a script that have their answers so far.
use Rattle.std.proofs.Common.{◌≡◌, ℕ, ◌+◌, ◌<◌, ◌≤◌, ◌⊎◌, inl, inr, suc, zero, List, [], ◌∷◌, ◌++◌, length, drop, take, None, Some, Result, Ok, Err, false, refl, ap, sym, ◌∙◌, subst, arith, length-append, length-drop, zero-add}
use Rattle.std.proofs.lemmas.List.{nil_from_length}
use Rattle.std.proofs.Math.Nat.{mul-le-mul}
use Rattle.std.specs.List.{slice_get}
use Rattle.metering_model.specs.Events.{Kept}
use Rattle.metering_model.specs.Settings.{Settings}
use Rattle.metering_model.specs.Counting.{counted_by}
use Rattle.metering_model.specs.Records.{StandsFor}
use Rattle.metering_model.specs.Records as records
use Rattle.integral_model.specs.Integral.{AddsBy, AllFitClosely, FitsClosely}
use Rattle.integral_model.proofs.Joined.{fit-more}
use Rattle.script_model.specs.Lines.{after_line, lines_of}
use Rattle.script_model.proofs.After.{after_lines-next, lines_of-after_lines}
use Rattle.script_model.specs.Grammar as grammar
use Rattle.script_model.specs.Grammar.{Metering, line_of}
use Rattle.trace_model.specs.Trace.{Entry, Put, Trace, ◌▷◌, base_of}
use Rattle.trace_model.specs.Output.{OutputLine, PutsAlone, ends_line, output_lines, open_segment}
use Rattle.trace_model.proofs.Lines.{output_lines-line, open_segment-line, output_lines-piece, open_segment-piece}
use Rattle.answer_model.specs.Faults.{fault_of}
use Rattle.answer_model.specs.Texts.{ok_text, power_text}
use Rattle.answer_model.proofs.Texts.{IsOneLine, IsPrintable, one_line-ok_text}
use Rattle.pairing_model.specs.Setup.{Setup, settings_in}
use Rattle.pairing_model.specs.Journal.{Journal, at_start, in_force}
use Rattle.pairing_model.specs.Pairing.{Answers, IsWork, Pairs}
use Rattle.pairing_model.proofs.Pairs.{pairs-more, pairs-length}
use Rattle.meter_board.specs.Puts.{PutGives, PutsFront}
use Rattle.billing_memory.specs.declared.meter_record.MeterRecord.{MeterRecord}
use Rattle.billing_memory.specs.Records.{record_view}
use Rattle.meter_config.specs.declared.config.Config.{Config}
use Rattle.meter_config.specs.Views.{settings_of}
use Rattle.event_script.specs.declared.LineFault.{LineFault}
use Rattle.event_script.specs.Views.{fault_view}
use Rattle.run_engine.proofs.Moments.{moments_of}
use Rattle.run_engine.specs.Progress.{Point, Progress, next_point}
use Rattle.run_engine.specs.Outcome.{EndsAt, FailsIn, Outcome}
use Rattle.run_engine.specs.EventVerdict.{TakenLine}
use Rattle.event_script.specs.Next.{IsFirst}
use Rattle.run_engine.specs.declared.Ended.{Ended}
use Rattle.run_engine.specs.declared.Ended.TheVariants.{Done, Line, Memory, Write}

-- these entries came since the answer before
pub record Reached (t u : Trace) (es : List Entry) : Type 0 where
  pub outputs : output_lines u ≡ output_lines t
  pub segment : open_segment u ≡ es

-- the next line has this text as its answer; from then on this is the journal, and new the record in force
pub record Answered (s : Setup) (o : records.MeterRecord) (at : Point) (line : List ℕ) (es : List Entry) (text : List ℕ) (later : Journal) (new : records.MeterRecord) : Type 0 where
  pub answer : Answers s o at.answered at.journal line (record { segment = es; text = text }) later
  pub fits : AllFitClosely (settings_in s) o later.kept
  pub in_force : StandsFor (settings_in s) o later.kept new
  pub one_line : IsOneLine text

pub at_drop : {X : Type 0} (xs : List X) (n : ℕ) (x : X) (ys : List X) → drop n xs ≡ x ∷ ys → slice_get xs n ≡ Some x
at_drop [] zero x ys e = absurd cc
at_drop [] (suc n) x ys e = absurd cc
at_drop (z ∷ zs) zero x ys e = let same : z ≡ x = cc in ap Some same
at_drop (z ∷ zs) (suc n) x ys e = at_drop zs n x ys e

-- from an end of the last segment
pub ran_to : (s : Setup) (o : records.MeterRecord) (script : List ℕ) (j : Journal) (t : Trace) (ended : Ended) → Pairs s o 0 at_start (lines_of script) (output_lines t) j → AllFitClosely (settings_in s) o j.kept → EndsAt s o (lines_of script) (output_lines t) (open_segment t) j ended → Outcome s o script t ended
ran_to s o script j t ended pairs fits ends = record { journal = j; pairs = pairs; fits = fits; ends = ends; moments = moments_of s o script t j pairs fits }

module _ {s : Setup} {o : records.MeterRecord} {at : Point} (g : Progress s o at) where
  -- the lines that have no answer yet
  next_lines : drop at.answered (lines_of at.script) ≡ lines_of at.rest
  next_lines = sym (lines_of-after_lines at.answered at.script) ∙ ap lines_of g.behind

  pub done : at.rest ≡ [] → Outcome s o at.script at.trace Done
  done empty = ran_to s o at.script at.journal at.trace Done g.pairs g.fits
      (let none : drop at.answered (lines_of at.script) ≡ [] = next_lines ∙ ap lines_of empty in omega (arith, length-drop at.answered (lines_of at.script), ap length none, g.count, pairs-length _ _ _ _ _ _ _ g.pairs), g.nothing)

  module _ {line after : List ℕ} (first : IsFirst at.rest line after) where
    -- the next line, as the place of the lines that were answered has it
    next_place : drop (length (output_lines at.trace)) (lines_of at.script) ≡ line ∷ lines_of after
    next_place = ap (λ m. drop m (lines_of at.script)) g.count ∙ next_lines ∙ first.lines

    pub line_at : slice_get (lines_of at.script) (length (output_lines at.trace)) ≡ Some line
    line_at = at_drop (lines_of at.script) (length (output_lines at.trace)) line (lines_of after) next_place

    pub refused : (kind : LineFault) → fault_of s.command at.in_force at.answered line ≡ Some (fault_view kind) → Outcome s o at.script at.trace (Line (at.answered + 1) kind)
    refused kind fault = ran_to s o at.script at.journal at.trace (Line (at.answered + 1) kind) g.pairs g.fits (
      ap (λ m. m + 1) (sym g.count),
      record {
        line = line;
        place = line_at;
        why = subst (λ m. fault_of s.command (in_force s o at.journal) m line ≡ Some (fault_view kind)) (sym g.count) (subst (λ m. fault_of s.command m at.answered line ≡ Some (fault_view kind)) g.in_force.is fault);
      },
      g.nothing,
    )

    -- the memory failed for the next line
    pub memory_stops : (said : grammar.Line) → line_of line ≡ Ok said → fault_of s.command (in_force s o at.journal) at.answered line ≡ None → (u : Trace) → output_lines u ≡ output_lines at.trace → FailsIn said (open_segment u) → Outcome s o at.script u Memory
    memory_stops said says taken u same fails = ran_to s o at.script at.journal u Memory (subst (λ (outputs : List OutputLine). Pairs s o 0 at_start (lines_of at.script) outputs at.journal) (sym same) g.pairs) g.fits (inr (record {
      line = line;
      place = subst (λ (outputs : List OutputLine). slice_get (lines_of at.script) (length outputs) ≡ Some line) (sym same) line_at;
      taken = subst (λ m. fault_of s.command (in_force s o at.journal) m line ≡ None) (sym (ap length same ∙ g.count)) taken;
      said = said;
      says = says;
      fails = fails;
    }))

    -- ---- an answer goes out

    module _ {u : Trace} {es : List Entry} {text : List ℕ} {later : Journal} {new : records.MeterRecord} (a : Answered s o at line es text later new) (reached : Reached at.trace u es) where
      output : OutputLine
      output = record { segment = es; text = text }

      answer_at : Answers s o (length (output_lines at.trace)) at.journal line (record { segment = es; text = text }) later
      answer_at = subst (λ m. Answers s o m at.journal line (record { segment = es; text = text }) later) (sym g.count) a.answer

      all_lines : output_lines (u ▷ Put text) ≡ output_lines at.trace ++ record { segment = es; text = text } ∷ []
      all_lines = output_lines-line u text a.one_line.ends ∙ (λ i. reached.outputs i ++ record { segment = reached.segment i; text = text } ∷ [])

      pub goes_on : Progress s o (next_point at after later new (u ▷ Put text))
      goes_on =
          let answered : OutputLine = record { segment = es; text = text } in
          let step : Answers s o (0 + length (output_lines at.trace)) at.journal line answered later = subst (λ m. Answers s o m at.journal line answered later) (sym (zero-add _)) answer_at in
          record {
            pairs = subst (λ (outputs : List OutputLine). Pairs s o 0 at_start (lines_of at.script) outputs later) (sym all_lines)
                (pairs-more s o 0 at_start (lines_of at.script) (output_lines at.trace) at.journal later line (lines_of after) answered g.pairs next_place step);
            fits = a.fits;
            count = ap length all_lines ∙ length-append (output_lines at.trace) (answered ∷ []) ∙ ap (λ m. m + 1) g.count;
            nothing = open_segment-line u text a.one_line.ends;
            behind = after_lines-next at.answered at.script ∙ ap after_line g.behind ∙ sym first.after;
            in_force = a.in_force;
          }

      pub pairs_now : (v : Trace) → output_lines v ≡ output_lines u → Pairs s o 0 at_start (lines_of at.script) (output_lines v) at.journal
      pairs_now v same = subst (λ (outputs : List OutputLine). Pairs s o 0 at_start (lines_of at.script) outputs at.journal) (sym (same ∙ reached.outputs)) g.pairs

      -- where the answer did not go out whole
      stops_in : (v : Trace) → output_lines v ≡ output_lines u → (open_segment v ≡ es) ⊎ ((count : ℕ) × (open_segment v ≡ es ++ Put (take count text) ∷ [])) → Outcome s o at.script v Write
      stops_in v same went = ran_to s o at.script at.journal v Write (pairs_now v same) g.fits (inr (record {
        line = line;
        place = subst (λ (outputs : List OutputLine). slice_get (lines_of at.script) (length outputs) ≡ Some line) (sym (same ∙ reached.outputs)) line_at;
        segment = es;
        text = text;
        new = later;
        answer = subst (λ (outputs : List OutputLine). Answers s o (length outputs) at.journal line (record { segment = es; text = text }) later) (sym (same ∙ reached.outputs)) answer_at;
        went = went;
      }))

      some_lines : ¬ (output_lines (u ▷ Put text) ≡ [])
      some_lines none = omega (arith, ap length none, goes_on.count)

      in_front : (count : ℕ) → (take count text ≡ text) ⊎ (ends_line (take count text) ≡ false) → Outcome s o at.script (u ▷ Put (take count text)) Write
      in_front count (inl whole) = subst (λ x. Outcome s o at.script (u ▷ Put x) Write) (sym whole) (ran_to s o at.script later (u ▷ Put text) Write goes_on.pairs a.fits (inl (some_lines, goes_on.nothing)))
      in_front count (inr part) = stops_in (u ▷ Put (take count text)) (output_lines-piece u (take count text) part) (inr (count, open_segment-piece u (take count text) part ∙ ap (λ segment. segment ++ Put (take count text) ∷ []) reached.segment))

      pub failed : (v : Trace) → PutsFront u text v → Outcome s o at.script v Write
      failed v (inl none) = subst (λ x. Outcome s o at.script x Write) (sym none) (stops_in u refl (inl reached.segment))
      failed v (inr piece) = subst (λ x. Outcome s o at.script x Write) (sym piece.2) (in_front piece.0 (a.one_line.whole_or_part piece.0))

    -- ---- the next line is an event, and the record in force takes it

    module _ {new : records.MeterRecord} (takes : TakenLine s.command (settings_in s) at.answered at.in_force line new) where
      -- what the next line keeps
      abbrev pub next_kept : Kept
      next_kept = record { event = takes.event; energy_mj = takes.takes.energy_mj; bound_mj = takes.takes.bound_mj }

      abbrev pub next_journal : Journal
      next_journal = record at.journal { kept = at.journal.kept ++ next_kept ∷ [] }

      -- the record with the next line stands for the events with its event, and they fit
      pub next_stands : StandsFor (settings_in s) o (at.journal.kept ++ next_kept ∷ []) new
      next_stands = takes.takes.stands o at.journal.kept g.in_force

      pub next_fits : AllFitClosely (settings_in s) o (at.journal.kept ++ next_kept ∷ [])
      next_fits = fit-more (settings_in s) o at.journal.kept next_kept g.fits
          (subst (λ (m : records.MeterRecord). AddsBy (FitsClosely (settings_in s)) (counted_by (settings_in s) m.samples takes.event) takes.takes.energy_mj takes.takes.bound_mj) g.in_force.is takes.takes.fits)

      pub next_taken : fault_of s.command (in_force s o at.journal) at.answered line ≡ None
      next_taken = subst (λ m. fault_of s.command m at.answered line ≡ None) g.in_force.is takes.taken

      pub taken_at : fault_of s.command (in_force s o at.journal) (length (output_lines at.trace)) line ≡ None
      taken_at = subst (λ m. fault_of s.command (in_force s o at.journal) m line ≡ None) (sym g.count) next_taken

      pub event_answered : (es : List Entry) (text : List ℕ) → IsWork es → text ≡ ok_text (settings_in s) new → IsPrintable (settings_in s) new → Answered s o at line es text next_journal new
      event_answered es text worked is printable = record {
        answer = record {
          taken = next_taken;
          said = Metering takes.event;
          says = takes.says;
          reply = inl (record { energy_mj = takes.takes.energy_mj; bound_mj = takes.takes.bound_mj; keeps = refl; shows = is ∙ ap (ok_text (settings_in s)) next_stands.is; worked = worked });
        };
        fits = next_fits;
        in_force = next_stands;
        one_line = subst IsOneLine (sym is) (one_line-ok_text (settings_in s) new printable);
      }

-- where nothing came since the answer before
pub at_once : (t : Trace) → open_segment t ≡ [] → Reached t t []
at_once t nothing = record { outputs = refl; segment = nothing }

-- a put leaves the base
pub put_base : {T E : Type 0} (t t' : Trace) (text : List ℕ) (r : Result T E) → PutGives t text r t' → base_of t' ≡ base_of t
put_base t t' text (Ok x) puts = ap base_of puts
put_base t t' text (Err e) (inl none) = ap base_of none
put_base t t' text (Err e) (inr piece) = ap base_of piece.2

-- a put that failed is a put
pub failed_puts : (t t' : Trace) (text : List ℕ) → PutsAlone t → PutsFront t text t' → PutsAlone t'
failed_puts t t' text puts (inl none) = subst PutsAlone (sym none) puts
failed_puts t t' text puts (inr piece) = subst PutsAlone (sym piece.2) puts

-- the numbers of a record are small enough to be printed
pub printable : (c : Settings) (m : MeterRecord) → c.litres_per_pulse ≤ 65535 → IsPrintable c (record_view m)
printable c m few = record {
  seq = omega (arith, m.seq_in_range);
  litres = let most = mul-le-mul m.register.pulses_in_range few in omega (arith, most);
  energy = omega (arith, m.register.pulses_in_range, m.register.energy_in_range);
  bound = omega (arith, m.register.pulses_in_range, m.register.bound_in_range);
}

pub no_bytes : (rest : List ℕ) → length rest ≡ 0 → rest ≡ []
no_bytes rest none = nil_from_length rest none

-- the bytes that are put are the text of the record
pub text_of : (c : Settings) (bytes line : List ℕ) (m seen : MeterRecord) (config told : Config) → bytes ≡ line → ((s : Settings) → s.litres_per_pulse ≡ told.per_pulse → line ≡ ok_text s (record_view seen)) → seen ≡ m → told ≡ config → settings_of config ≡ c → bytes ≡ ok_text c (record_view m)
text_of c bytes line m seen config told same says is_m is_config settings =
    same ∙ says c (sym (ap (λ (k : Config). k.per_pulse) is_config ∙ ap (λ (s : Settings). s.litres_per_pulse) settings)) ∙ ap (λ (s : MeterRecord). ok_text c (record_view s)) is_m

pub some_text : (c : Settings) (bytes : List ℕ) (m : MeterRecord) → bytes ≡ ok_text c (record_view m) → 0 < length bytes
some_text c bytes m is = omega (arith, ap length is)

-- so it is with the text of a recovered record
pub recovered_text : (c : Settings) (bytes line : List ℕ) (m seen : MeterRecord) (config told : Config) → bytes ≡ line → ((s : Settings) → s.litres_per_pulse ≡ told.per_pulse → line ≡ power_text s (record_view seen)) → seen ≡ m → told ≡ config → settings_of config ≡ c → bytes ≡ power_text c (record_view m)
recovered_text c bytes line m seen config told same says is_m is_config settings =
    same ∙ says c (sym (ap (λ (k : Config). k.per_pulse) is_config ∙ ap (λ (s : Settings). s.litres_per_pulse) settings)) ∙ ap (λ (s : MeterRecord). power_text c (record_view s)) is_m

pub some_recovered_text : (c : Settings) (bytes : List ℕ) (m : MeterRecord) → bytes ≡ power_text c (record_view m) → 0 < length bytes
some_recovered_text c bytes m is = omega (arith, ap length is)
