-- A text and its configuration, and what `init` makes of them.
use Rattle.std.proofs.Common.{◌≡◌, ◌⊎◌, inl, inr, ℕ, ◌+◌, ◌≤◌, List, ◌++◌, length, take, get_or, refl, sym, ◌∙◌, ap, subst, arith, Ok}
use Rattle.std.specs.Prelude.{◌≢◌, IsErrOf}
use Rattle.std.proofs.lemmas.List.{append_assoc, length-take, take-append-le}
use Rattle.std.proofs.Math.Seq.{take-append-add}
use Rattle.config_model.specs.Configuration.{Configuration}
use Rattle.memory_model.specs.Stored.{mark}
use Rattle.trace_model.specs.Trace.{Trace, IsFresh, base_of}
use Rattle.trace_model.specs.Images.{IsImage}
use Rattle.trace_model.specs.Moments.{Grew, IsPrefix, Leaves}
use Rattle.trace_model.proofs.Images.{fresh_image}
use Rattle.trace_model.proofs.Moments.{Grew-prefix}
use Rattle.register_store.specs.Formatted.{UnformattedOr}
use Rattle.register_store.specs.Formatted.{HoldsInA}
use Rattle.register_store.specs.Works.{Works}
use Rattle.register_store.specs.declared.format_fault.FormatFault.{FormatFault}
use Rattle.meter_cli.specs.Init.{Formats, InitLeaves, first_record, init_line}
use Rattle.meter_cli.specs.Puts.{PutsLine}
use Rattle.meter_cli.proofs.Lines.{leaves_line, grew_line}
use Rattle.meter_cli.specs.declared.status.Status.{Status}
use Rattle.meter_cli.specs.declared.status.Status.TheVariants.{Done, Write}

-- as many bytes more were read
pub fill_more : (into piece after left now rest : List ℕ) (filled n : ℕ) → filled ≤ length into → n ≤ length piece → left ≡ take filled into ++ now → now ≡ take n piece ++ rest → left ≡ take (filled + n) (take filled into ++ (piece ++ after)) ++ rest
fill_more into piece after left now rest filled n fits fits' is is' =
    let size : length (take filled into) ≡ filled = omega (arith, length-take filled into) in
    let whole : take (filled + n) (take filled into ++ (piece ++ after)) ≡ take filled into ++ take n piece = ap (λ k. take (k + n) (take filled into ++ (piece ++ after))) (sym size) ∙ take-append-add (take filled into) (piece ++ after) n ∙ ap (λ l. take filled into ++ l) (take-append-le n piece after fits') in
    is ∙ ap (λ l. take filled into ++ l) is' ∙ sym (append_assoc (take filled into) (take n piece) rest) ∙ ap (λ l. l ++ rest) (sym whole)

-- ---- the format

pub never : {A : Type 0} (x : A) (e f : FormatFault) → IsErrOf (Ok x) e ⊎ IsErrOf (Ok x) f → ⊥
never x e f (inl h) = cc
never x e f (inr h) = cc

formats_status : (is_told : Configuration → Type 0) (memory : List ℕ) (old new : Trace) (status : Status) → (status ≡ Done) ⊎ (status ≡ Write) → Formats is_told memory old new status → InitLeaves is_told memory old new status
formats_status is_told memory old new status (inl is) f = subst (InitLeaves is_told memory old new) (sym is) (subst (Formats is_told memory old new) is f)
formats_status is_told memory old new status (inr is) f = subst (InitLeaves is_told memory old new) (sym is) (subst (Formats is_told memory old new) is f)

module _ (config : Configuration) (memory : List ℕ) (old formatted new : Trace) (status : Status) (line : List ℕ) (is : line ≡ init_line config) (puts : PutsLine line formatted new status) (leaves : Leaves (HoldsInA config (first_record config)) formatted) where
  pub formats : (status ≡ Done) ⊎ (status ≡ Write) → get_or memory 0 0 ≢ mark → Works 2 0 old formatted → InitLeaves (λ c. c ≡ config) memory old new status
  formats kind other works = formats_status (λ c. c ≡ config) memory old new status kind (record {
    c = config;
    told = refl;
    unformatted = other;
    formatted = formatted;
    works = works;
    puts = subst (λ l. PutsLine l formatted new status) is puts;
    holds = leaves_line (HoldsInA config (first_record config)) formatted new line status puts leaves;
  })

  pub formats_moments : Grew (Leaves (UnformattedOr config (first_record config))) old formatted → Grew (Leaves (UnformattedOr config (first_record config))) old new
  formats_moments grew = grew_line (UnformattedOr config (first_record config)) old formatted new line status puts (λ image of. inr (leaves image of)) grew

-- ---- the moments

-- a board that was just handed in has its base
fresh_moment : (t p : Trace) → IsFresh t → IsPrefix p t → p ≡ t
fresh_moment t p fresh before = subst (IsPrefix p) fresh before ∙ sym fresh

pub each_moment : (c : Configuration) (old new p : Trace) → IsFresh old → length (base_of old) ≡ 16384 → get_or (base_of old) 0 0 ≢ mark → Grew (Leaves (UnformattedOr c (first_record c))) old new → IsPrefix p new → Leaves (UnformattedOr c (first_record c)) p
each_moment c old new p fresh size other grew before =
    Grew-prefix {P = Leaves (UnformattedOr c (first_record c))} (λ q early image of.
    let here : IsImage old image = subst (λ s. IsImage s image) (fresh_moment old q fresh early) of in
    inl (λ marked. other (subst (λ (m : List ℕ). get_or m 0 0 ≡ mark) (fresh_image old image fresh size here) marked))) grew p before
