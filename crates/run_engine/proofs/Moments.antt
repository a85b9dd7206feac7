-- A run was right at each moment.
use Rattle.std.proofs.Common.{◌≡◌, Bool, true, false, cond, inl, inr, List, [], ◌∷◌, ◌++◌, append_assoc, ap, sym, subst, ◌∙◌}
use Rattle.std.proofs.lemmas.List.{append-nil}
use Rattle.metering_model.specs.Records.{MeterRecord}
use Rattle.integral_model.specs.Integral.{AllFitClosely}
use Rattle.integral_model.proofs.Joined.{fit-front}
use Rattle.script_model.specs.Lines.{lines_of}
use Rattle.trace_model.specs.Trace.{Trace, Start, ◌▷◌}
use Rattle.trace_model.specs.Output.{OutputLine, bytes_put, is_output_line, output_lines, open_segment}
use Rattle.trace_model.specs.Moments.{IsPrefix}
use Rattle.pairing_model.specs.Setup.{Setup, settings_in}
use Rattle.pairing_model.specs.Journal.{Journal, at_start}
use Rattle.pairing_model.specs.Pairing.{Pairs}
use Rattle.pairing_model.proofs.Pairs.{pairs-front}
use Rattle.run_engine.specs.Outcome.{Metered}
use Rattle.std.specs.Prelude.{ℕ}

-- the output lines of the whole begin with those of a moment
outputs-front : (p t : Trace) → IsPrefix p t → (back : List OutputLine) × (output_lines t ≡ output_lines p ++ back)
outputs-front p (Start base) is = ([], ap output_lines (sym is) ∙ sym (append-nil (output_lines p)))
outputs-front p (t ▷ e) (inl is) = ([], ap output_lines (sym is) ∙ sym (append-nil (output_lines p)))
outputs-front p (t ▷ e) (inr earlier) = by_kind (is_output_line e) (outputs-front p t earlier) where
  by_kind : (b : Bool) → ((back : List OutputLine) × (output_lines t ≡ output_lines p ++ back))
      → (back : List OutputLine) × (cond b (output_lines t ++ record { segment = open_segment t; text = bytes_put e } ∷ []) (output_lines t) ≡ output_lines p ++ back)
  by_kind false found = found
  by_kind true found =
      let last : List OutputLine = record { segment = open_segment t; text = bytes_put e } ∷ [] in
      (found.0 ++ last, ap (λ outputs. outputs ++ last) found.1 ∙ append_assoc (output_lines p) found.0 last)

-- what pairs and fits at the end did so at each moment
pub moments_of : (s : Setup) (o : MeterRecord) (script : List ℕ) (t : Trace) (j : Journal) → Pairs s o 0 at_start (lines_of script) (output_lines t) j → AllFitClosely (settings_in s) o j.kept
    → (p : Trace) → IsPrefix p t → Metered s o script p
moments_of s o script t j pairs fits p is =
    let outputs = outputs-front p t is in
    let front = pairs-front s o 0 at_start (lines_of script) (output_lines p) outputs.0 j (subst (λ (all : List OutputLine). Pairs s o 0 at_start (lines_of script) all j) outputs.1 pairs) in
    record { journal = front.journal; pairs = front.pairs; fits = fit-front (settings_in s) o front.journal.kept front.after (subst (AllFitClosely (settings_in s) o) front.is fits) }
