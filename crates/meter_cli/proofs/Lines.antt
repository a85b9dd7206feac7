-- What putting lines leaves.
use Rattle.std.proofs.Common.{◌≡◌, ◌⊎◌, inl, inr, ℕ, ◌+◌, ◌<◌, ◌≤◌, List, [], ◌∷◌, length, take, drop, get_or, refl, sym, ◌∙◌, ap, subst}
use Rattle.std.proofs.lemmas.List.{drop_more}
use Rattle.std.proofs.Math.ListN.{drop_of_length-le}
use Rattle.arrayvec.specs.ArrayString.{ArrayString}
use Rattle.trace_model.specs.Trace.{Trace, Put, ◌▷◌, base_of}
use Rattle.trace_model.specs.Output.{PutsAlone}
use Rattle.trace_model.specs.Moments.{Grew, Leaves, more}
use Rattle.trace_model.proofs.Images.{before_put}
use Rattle.meter_board.specs.Puts.{PutsFront}
use Rattle.meter_cli.specs.Puts.{PutsLine, PutsLines}
use Rattle.answer_lines.specs.Texts.{bytes_of}
use Rattle.meter_cli.specs.declared.status.Status.{Status}
use Rattle.meter_cli.specs.declared.status.Status.TheVariants.{Done, Write}

-- a put stores nothing
leaves_put : (Q : List ℕ → Type 0) (t : Trace) (bytes : List ℕ) → Leaves Q t → Leaves Q (t ▷ Put bytes)
leaves_put Q t bytes leaves image of = leaves image (before_put t bytes image of)

leaves_front : (Q : List ℕ → Type 0) (t new : Trace) (text : List ℕ) → PutsFront t text new → Leaves Q t → Leaves Q new
leaves_front Q t new text (inl none) leaves = subst (Leaves Q) (sym none) leaves
leaves_front Q t new text (inr front) leaves = subst (Leaves Q) (sym front.2) (leaves_put Q t (take front.0 text) leaves)

pub leaves_line : (Q : List ℕ → Type 0) (t new : Trace) (text : List ℕ) (status : Status) → PutsLine text t new status → Leaves Q t → Leaves Q new
leaves_line Q t new text status (inl whole) leaves = subst (Leaves Q) (sym whole.1) (leaves_put Q t text leaves)
leaves_line Q t new text status (inr front) leaves = leaves_front Q t new text front.1 leaves

grew_front : (Q : List ℕ → Type 0) (old t new : Trace) (text : List ℕ) → PutsFront t text new → Leaves Q t → Grew (Leaves Q) old t → Grew (Leaves Q) old new
grew_front Q old t new text (inl none) leaves grew = subst (Grew (Leaves Q) old) (sym none) grew
grew_front Q old t new text (inr front) leaves grew = subst (Grew (Leaves Q) old) (sym front.2) (more grew (leaves_put Q t (take front.0 text) leaves))

pub grew_line : (Q : List ℕ → Type 0) (old t new : Trace) (text : List ℕ) (status : Status) → PutsLine text t new status → Leaves Q t → Grew (Leaves Q) old t → Grew (Leaves Q) old new
grew_line Q old t new text status (inl whole) leaves grew = subst (Grew (Leaves Q) old) (sym whole.1) (more grew (leaves_put Q t text leaves))
grew_line Q old t new text status (inr front) leaves grew = grew_front Q old t new text front.1 leaves grew

pub alone_front : (t new : Trace) (text : List ℕ) → PutsFront t text new → PutsAlone t → PutsAlone new
alone_front t new text (inl none) alone = subst PutsAlone (sym none) alone
alone_front t new text (inr front) alone = subst PutsAlone (sym front.2) alone

-- nothing but puts
pub alone_lines : (lines : List (List ℕ)) (old new : Trace) (status : Status) → PutsLines lines old new status → PutsAlone old → PutsAlone new
alone_lines [] old new status puts alone = subst PutsAlone (sym puts.1) alone
alone_lines (line ∷ lines) old new status (inl others) alone = alone_lines lines (old ▷ Put line) new status others alone
alone_lines (line ∷ lines) old new status (inr front) alone = alone_front old new line front.1 alone

-- done, unless the output failed
pub done_or : {R : Type 0} (status : Status) → (status ≡ Done) ⊎ (status ≡ Write) → (status ≡ Write → R) → (status ≡ Done) ⊎ R
done_or status (inl done) write = inl done
done_or status (inr failed) write = inr (write failed)

-- ---- line by line

step_lines : (lines : List ArrayString) (i : ℕ) (line : ArrayString) (bytes : List ℕ) → i < length lines → line ≡ get_or lines i line → bytes ≡ line.bytes → bytes_of (drop i lines) ≡ bytes ∷ bytes_of (drop (i + 1) lines)
step_lines lines i line bytes lt is text = ap bytes_of (drop_more lines i line lt) ∙ ap (λ (x : ArrayString). x.bytes ∷ bytes_of (drop (i + 1) lines)) (sym is) ∙ ap (λ b. b ∷ bytes_of (drop (i + 1) lines)) (sym text)

module _ (lines : List ArrayString) (i : ℕ) (line : ArrayString) (bytes : List ℕ) (lt : i < length lines) (is : line ≡ get_or lines i line) (text : bytes ≡ line.bytes) (t t' : Trace) where
  pub line_went : (new : Trace) (status : Status) → t' ≡ t ▷ Put bytes → PutsLines (bytes_of (drop (i + 1) lines)) t' new status → PutsLines (bytes_of (drop i lines)) t new status
  line_went new status gives rest =
      subst (λ ls. PutsLines ls t new status) (sym (step_lines lines i line bytes lt is text)) (inl (subst (λ s. PutsLines (bytes_of (drop (i + 1) lines)) s new status) gives rest))

  pub line_failed : PutsFront t bytes t' → PutsLines (bytes_of (drop i lines)) t t' Write
  line_failed front = subst (λ ls. PutsLines ls t t' Write) (sym (step_lines lines i line bytes lt is text)) (inr (refl, front))

pub lines_done : (lines : List ArrayString) (i : ℕ) (t : Trace) → length lines ≤ i → PutsLines (bytes_of (drop i lines)) t t Done
lines_done lines i t past = subst (λ ls. PutsLines ls t t Done) (sym (ap bytes_of (drop_of_length-le lines past))) (refl, refl)

-- lines leave the base
pub front_base : (old new : Trace) (text : List ℕ) → PutsFront old text new → base_of new ≡ base_of old
front_base old new text (inl none) = ap base_of none
front_base old new text (inr piece) = ap base_of piece.2

pub lines_base : (lines : List (List ℕ)) (old new : Trace) (status : Status) → PutsLines lines old new status → base_of new ≡ base_of old
lines_base [] old new status puts = ap base_of puts.1
lines_base (line ∷ lines) old new status puts = by_first (lines_base lines (old ▷ Put line) new status) puts where
  by_first : (PutsLines lines (old ▷ Put line) new status → base_of new ≡ base_of (old ▷ Put line)) → PutsLines lines (old ▷ Put line) new status ⊎ ((status ≡ Write) × PutsFront old line new) → base_of new ≡ base_of old
  by_first others (inl went) = others went
  by_first others (inr front) = front_base old new line front.1
