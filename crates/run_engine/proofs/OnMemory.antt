-- What the memory holds at each moment of a run.
use Rattle.std.proofs.Common.{◌≡◌, ◌⊎◌, inl, inr, ℕ, cond, ◌+◌, ◌^◌, ◌<◌, true, false, List, [], ◌∷◌, ◌++◌, length, refl, sym, ap, ◌∙◌, subst, arith, length-append}
use Rattle.std.specs.Prelude.{All, count_by}
use Rattle.std.specs.List.{list_all}
use Rattle.std.proofs.lemmas.Bool.{both_ways}
use Rattle.std.proofs.lemmas.List.Elements.{All-cons, All-head, All-tail}
use Rattle.std.proofs.lemmas.List.Sums.{sum_by-append}
use Rattle.metering_model.specs.Records.{MeterRecord, StandsFor}
use Rattle.integral_model.specs.Integral.{AllFitClosely}
use Rattle.script_model.specs.Lines.{lines_of}
use Rattle.trace_model.specs.Trace.{Entry, Store, Sync, Missed, Put, Arm, Cut, Trace, ◌▷◌}
use Rattle.trace_model.specs.Output.{OutputLine, is_output_line, output_lines, open_segment}
use Rattle.trace_model.specs.Moments.{IsPrefix, Leaves}
use Rattle.trace_model.proofs.Images.{one_image}
use Rattle.trace_model.proofs.Moments.{Grew-prefix, Grew-weaker, IsPrefix-self}
use Rattle.config_model.specs.Configuration.{Configuration}
use Rattle.answer_model.specs.Faults.{Run}
use Rattle.memory_model.specs.Stored.{Side, Holds}
use Rattle.pairing_model.specs.Settings.{settings_for}
use Rattle.pairing_model.specs.Setup.{on_memory}
use Rattle.pairing_model.specs.Journal.{Journal, at_start}
use Rattle.pairing_model.specs.Pairing.{IsCutWork, IsWork, Pairs, is_work}
use Rattle.recovery_model.specs.Right.{HeldBefore, HoldsKept, IsRight, NextIsEvent, StandsForNext}
use Rattle.recovery_model.proofs.Acknowledged.{show_at_most}
use Rattle.register_store.specs.Commits as commits
use Rattle.register_store.specs.Commits.{EndsCut, HoldsEither, other}
use Rattle.register_store.specs.Works.{is_store, is_sync, is_forced_cut, is_other}
use Rattle.register_store.proofs.MemoryAlone.{MemoryAlone, FrontAlone, MemoryStretch, front_counts, memory_alone, no_line, with_entries}
use Rattle.event_script.specs.Next.{IsFirst}
use Rattle.run_engine.specs.OutcomeOnMemory.{IsSound}
use Rattle.run_engine.specs.Progress.{Point, ProgressOnMemory, Progress}
use Rattle.run_engine.specs.Steps.{Commits}
use Rattle.run_engine.specs.EventVerdict.{TakenLine}
use Rattle.run_engine.proofs.Progress.{Reached, line_at, next_fits, next_stands, taken_at}

-- ---- the entries of a stretch

-- the memory's entries are work where no power is cut
pub work : (es : List Entry) → All (λ (e : Entry). is_other e ≡ false) es → count_by is_forced_cut es ≡ 0 → list_all is_work es ≡ true
work [] own none = refl
work (Store at bytes ∷ es) own none = work es (All-tail (λ (e : Entry). is_other e ≡ false) (Store at bytes) es own) none
work (Sync ∷ es) own none = work es (All-tail (λ (e : Entry). is_other e ≡ false) Sync es own) none
work (Missed ∷ es) own none = work es (All-tail (λ (e : Entry). is_other e ≡ false) Missed es own) none
work (Put bytes ∷ es) own none = absurd (both_ways true (All-head (λ (e : Entry). is_other e ≡ false) (Put bytes) es own) refl)
work (Arm n keep fill ∷ es) own none = absurd (both_ways true (All-head (λ (e : Entry). is_other e ≡ false) (Arm n keep fill) es own) refl)
work (Cut true image ∷ es) own none = absurd (omega (arith, none, sum_by-append (λ (x : Entry). cond (is_forced_cut x) 1 0) (Cut true image ∷ []) es))
work (Cut false image ∷ es) own none = absurd (both_ways true (All-head (λ (e : Entry). is_other e ≡ false) (Cut false image) es own) refl)

pub all_front : {X : Type 0} (P : X → Type 0) (xs ys : List X) → All P (xs ++ ys) → All P xs
all_front P [] ys h = λ k d lt. absurd (omega (arith, lt))
all_front P (x ∷ xs) ys h = All-cons P x xs (All-head P x (xs ++ ys) h) (all_front P xs ys (All-tail P x (xs ++ ys) h))

-- the last entry of a stretch
pub last_of : (t before : Trace) (es : List Entry) (e : Entry) → with_entries t es ≡ before ▷ e → (es ≡ []) ⊎ ((front : List Entry) × (es ≡ front ++ e ∷ []))
last_of t before [] e is = inl refl
last_of t before (x ∷ []) e is = let same : x ≡ e = cc in inr ([], ap (λ y. y ∷ []) same)
last_of t before (x ∷ y ∷ ys) e is = by_rest (last_of (t ▷ x) before (y ∷ ys) e is) where
  by_rest : (y ∷ ys ≡ []) ⊎ ((front : List Entry) × (y ∷ ys ≡ front ++ e ∷ [])) → (x ∷ y ∷ ys ≡ []) ⊎ ((front : List Entry) × (x ∷ y ∷ ys ≡ front ++ e ∷ []))
  by_rest (inl none) = absurd cc
  by_rest (inr found) = inr (x ∷ found.0, ap (λ l. x ∷ l) found.1)

module _ (c : Configuration) (o : MeterRecord) (script : List ℕ) where
  -- the memory's entries put no line out
  held_before_with : (t : Trace) (es : List Entry) → All (λ (e : Entry). is_other e ≡ false) es → HeldBefore c o (lines_of script) t → HeldBefore c o (lines_of script) (with_entries t es)
  held_before_with t [] own here = here
  held_before_with t (e ∷ es) own here =
      held_before_with (t ▷ e) es (All-tail (λ (d : Entry). is_other d ≡ false) e es own) (λ ends. absurd (both_ways (is_output_line e) (no_line e (All-head (λ (d : Entry). is_other d ≡ false) e es own)) ends))

  -- ---- what is right at a moment p

  module _ (p : Trace) (image : List ℕ) (j : Journal) (held : MeterRecord) (side : Side) (pairs : Pairs (on_memory c) o 0 at_start (lines_of script) (output_lines p) j) (fits : AllFitClosely (settings_for c) o j.kept) (small : held.seq < 10 ^ 64)
      (holds : commits.StandsFor (Holds c held side) image) where
    pub kept_right : StandsFor (settings_for c) o j.kept held → IsRight c o (lines_of script) p image
    kept_right stands =
        let counted : held.seq ≡ o.seq + length j.kept = ap (λ (m : MeterRecord). m.seq) stands.is in
        record {
          journal = j;
          pairs = pairs;
          fits = fits;
          held = held;
          side = side;
          holds = holds;
          stands = inl stands;
          opening = omega (arith, counted);
          acknowledged = show_at_most (on_memory c) o 0 at_start (lines_of script) (output_lines p) j held.seq pairs (omega (arith, counted)) small;
        }

    next_right : StandsForNext c o (lines_of script) j.kept (length (output_lines p)) held → IsRight c o (lines_of script) p image
    next_right next =
        let more = record { event = next.event; energy_mj = next.energy_mj; bound_mj = next.bound_mj } ∷ [] in
        let counted : held.seq ≡ o.seq + length (j.kept ++ more) = ap (λ (m : MeterRecord). m.seq) next.stands.is in
        let longer : length (j.kept ++ more) ≡ length j.kept + 1 = length-append j.kept more in
        record {
          journal = j;
          pairs = pairs;
          fits = fits;
          held = held;
          side = side;
          holds = holds;
          stands = inr next;
          opening = omega (arith, counted);
          acknowledged = show_at_most (on_memory c) o 0 at_start (lines_of script) (output_lines p) j held.seq pairs (omega (arith, counted, longer)) small;
        }

module _ {c : Configuration} {o : MeterRecord} {at : Point} {side : Side} {reads : List ℕ} (b : ProgressOnMemory c o at side reads) where
  -- all that was kept is held
  pub progress_held : Leaves (HoldsKept c o (lines_of at.script) at.trace) at.trace
  progress_held image of = record {
    journal = at.journal;
    pairs = b.progress.pairs;
    held = at.in_force;
    side = side;
    holds = subst (commits.StandsFor (Holds c at.in_force side)) (one_image at.trace reads image b.settled b.possible of) b.holds;
    stands = b.progress.in_force;
  }

  -- ---- one event

  module _ {line after : List ℕ} (first : IsFirst at.rest line after) {new : MeterRecord} (takes : TakenLine Run (settings_for c) at.answered at.in_force line new)
      (old_small : at.in_force.seq < 10 ^ 64) (small : new.seq < 10 ^ 64) where
    abbrev pub g : Progress (on_memory c) o at
    g = b.progress

    pub next_event : NextIsEvent (on_memory c) o (lines_of at.script) at.journal.kept (length (output_lines at.trace)) takes.event
    next_event = record {
      line = line;
      place = line_at g first;
      says = takes.says;
      taken = taken_at g first takes;
    }

    stands_next : StandsForNext c o (lines_of at.script) at.journal.kept (length (output_lines at.trace)) new
    stands_next = record {
      event = takes.event;
      next = next_event;
      energy_mj = takes.takes.energy_mj;
      bound_mj = takes.takes.bound_mj;
      fits = next_fits g first takes;
      stands = next_stands g first takes;
    }

    same_pairs : (p : Trace) → output_lines p ≡ output_lines at.trace → Pairs (on_memory c) o 0 at_start (lines_of at.script) (output_lines p) at.journal
    same_pairs p same = subst (λ (outputs : List OutputLine). Pairs (on_memory c) o 0 at_start (lines_of at.script) outputs at.journal) (sym same) g.pairs

    pub new_right : (p : Trace) (image : List ℕ) → output_lines p ≡ output_lines at.trace → commits.StandsFor (Holds c new (other side)) image → IsRight c o (lines_of at.script) p image
    new_right p image same holds =
        next_right c o at.script p image at.journal new (other side) (same_pairs p same) g.fits small holds
        (subst (λ (outputs : List OutputLine). StandsForNext c o (lines_of at.script) at.journal.kept (length outputs) new) (sym same) stands_next)

    either_right : (p : Trace) (image : List ℕ) → output_lines p ≡ output_lines at.trace → HoldsEither c side at.in_force new image → IsRight c o (lines_of at.script) p image
    either_right p image same (inl holds) = kept_right c o at.script p image at.journal at.in_force side (same_pairs p same) g.fits old_small holds g.in_force
    either_right p image same (inr holds) = new_right p image same holds

    -- ---- while the memory works

    own_segment : (u : Trace) (es : List Entry) → MemoryAlone at.trace u es → open_segment u ≡ es
    own_segment u es alone = alone.segment ∙ ap (λ (l : List Entry). l ++ es) g.nothing

    sound_within : (cuts : ℕ) (u : Trace) (commit : Commits c side at.in_force new cuts at.trace u) (es : List Entry) → MemoryAlone at.trace u es → (p : Trace) → Leaves (HoldsEither c side at.in_force new) p → FrontAlone at.trace es p → IsSound c o (lines_of at.script) p
    sound_within cuts u commit es all p leaves front =
        let segment : open_segment p ≡ front.front = own_segment p front.front front.alone in
        record {
          right = λ image of. either_right p image front.alone.lines (leaves image of);
          held_before = subst (HeldBefore c o (lines_of at.script)) (sym front.alone.grown) (held_before_with c o at.script at.trace front.front front.alone.memory (b.sound at.trace (IsPrefix-self at.trace)).held_before);
          frugal = record {
            stores = omega (arith, ap (count_by is_store) segment, front.alone.counts is_store, front_counts at.trace es p is_store front, all.counts is_store, commit.works.stores);
            syncs = omega (arith, ap (count_by is_sync) segment, front.alone.counts is_sync, front_counts at.trace es p is_sync front, all.counts is_sync, commit.works.syncs);
          };
        }

    pub stretch : (cuts : ℕ) (u : Trace) → Commits c side at.in_force new cuts at.trace u → MemoryStretch (Leaves (HoldsEither c side at.in_force new)) at.trace u
    stretch cuts u commit = memory_alone commit.moments commit.works.others

    pub commit_sound : (cuts : ℕ) (u : Trace) → Commits c side at.in_force new cuts at.trace u → (p : Trace) → IsPrefix p u → IsSound c o (lines_of at.script) p
    commit_sound cuts u commit =
        let s = stretch cuts u commit in
        Grew-prefix b.sound (Grew-weaker (λ p here. sound_within cuts u commit s.entries s.alone p here.0 here.1) s.moments)

    -- what the memory did where it was not cut
    pub reached : (u : Trace) (commit : Commits c side at.in_force new 0 at.trace u) → Reached at.trace u (stretch 0 u commit).entries
    reached u commit = let s = stretch 0 u commit in record { outputs = s.alone.lines; segment = own_segment u s.entries s.alone }

    pub uncut : (u : Trace) (commit : Commits c side at.in_force new 0 at.trace u) → IsWork (stretch 0 u commit).entries
    uncut u commit =
        let s = stretch 0 u commit in
        work s.entries s.alone.memory (omega (arith, s.alone.counts is_forced_cut, commit.works.forced_cuts))

    -- and where it was
    pub cut_reached : (u : Trace) (commit : Commits c side at.in_force new 1 at.trace u) → Reached at.trace u (stretch 1 u commit).entries
    cut_reached u commit = let s = stretch 1 u commit in record { outputs = s.alone.lines; segment = own_segment u s.entries s.alone }

    pub cut_within : (u : Trace) (reads' : List ℕ) (commit : Commits c side at.in_force new 1 at.trace u) → EndsCut (HoldsEither c side at.in_force new) u reads' → IsCutWork (stretch 1 u commit).entries
    cut_within u reads' commit ends =
        let s = stretch 1 u commit in
        let one : count_by is_forced_cut s.entries ≡ 1 = omega (arith, s.alone.counts is_forced_cut, commit.works.forced_cuts) in
        by_last s.entries one s.alone.memory (last_of at.trace ends.before s.entries (Cut true reads') (sym s.alone.grown ∙ ends.last))
      where
        by_last : (es : List Entry) → count_by is_forced_cut es ≡ 1 → All (λ (e : Entry). is_other e ≡ false) es → (es ≡ []) ⊎ ((front : List Entry) × (es ≡ front ++ Cut true reads' ∷ [])) → IsCutWork es
        by_last es one own (inl none) = absurd (omega (arith, one, ap (count_by is_forced_cut) none))
        by_last es one own (inr found) =
            let whole : count_by is_forced_cut es ≡ count_by is_forced_cut found.0 + 1 = ap (count_by is_forced_cut) found.1 ∙ sum_by-append (λ (x : Entry). cond (is_forced_cut x) 1 0) found.0 (Cut true reads' ∷ []) in
            let own_front = all_front (λ (e : Entry). is_other e ≡ false) found.0 (Cut true reads' ∷ []) (subst (All (λ (e : Entry). is_other e ≡ false)) found.1 own) in
            record { work = found.0; image = reads'; is = found.1; worked = work found.0 own_front (omega (arith, one, whole)) }
