-- How the moments of a board go on by the calls on its memory: for every board, by what the calls give.
use Rattle.std.proofs.Common.{inl, inr, ℕ, ◌+◌, ◌≤◌, true, List, length, refl, sym, subst, Result, Ok, Err}
use Rattle.std.specs.Prelude.{IsErrOf}
use Rattle.trace_model.specs.Trace.{Store, Sync, Missed, Put, Cut, Trace, ◌▷◌}
use Rattle.trace_model.specs.Images.{NothingPending, IsImage, SameOutside}
use Rattle.trace_model.specs.Moments.{Grew, Leaves, same, more}
use Rattle.trace_model.proofs.Images.{one_image, near_image, before_missed, before_put, image_of_cut, replaced_outside}
use Rattle.trace_model.proofs.Moments.{Grew-is, Grew-now, Grew-then}
use Rattle.meter_board.specs.declared.refusal.Refusal.{Refusal}
use Rattle.meter_board.specs.declared.refusal.Refusal.TheVariants as refusals
use Rattle.meter_board.specs.Puts.{PutGives}
use Rattle.meter_board.specs.Stores.{StoreGives, SyncGives}

-- a store, at whose moment P holds, and after whose cut too
pub store_grows : {T : Type 0} (P : Trace → Type 0) (at : ℕ) (bytes : List ℕ) (t : Trace) (reads : List ℕ) (r : Result T Refusal) (t' : Trace) (reads' : List ℕ)
    → StoreGives at bytes t reads r t' reads' → P (t ▷ Store at bytes) → ((m : List ℕ) → IsImage (t ▷ Store at bytes) m → P (t ▷ Store at bytes ▷ Cut true m)) → Grew P t t'
store_grows P at bytes t reads (Ok x) t' reads' gives here cut = Grew-is (more same here) gives.0
store_grows P at bytes t reads (Err refusals.Failed) t' reads' (inl none) here cut = Grew-is same none.0
store_grows P at bytes t reads (Err refusals.Failed) t' reads' (inr begun) here cut = Grew-is (more same here) begun.0
store_grows P at bytes t reads (Err refusals.Cut) t' reads' gives here cut = Grew-is (more (more same here) (cut reads' gives.1)) gives.0

pub sync_grows : {T : Type 0} (P : Trace → Type 0) (t : Trace) (reads : List ℕ) (r : Result T Refusal) (t' : Trace) (reads' : List ℕ)
    → SyncGives t reads r t' reads' → P (t ▷ Sync) → P (t ▷ Missed) → ((m : List ℕ) → IsImage t m → P (t ▷ Cut true m)) → Grew P t t'
sync_grows P t reads (Ok x) t' reads' gives here missed cut = Grew-is (more same here) gives.0
sync_grows P t reads (Err refusals.Failed) t' reads' (inl none, read) here missed cut = Grew-is same none
sync_grows P t reads (Err refusals.Failed) t' reads' (inr begun, read) here missed cut = Grew-is (more same missed) begun
sync_grows P t reads (Err refusals.Cut) t' reads' gives here missed cut = Grew-is (more same (cut reads' gives.1)) gives.0

pub put_grows : {T E : Type 0} (P : Trace → Type 0) (bytes : List ℕ) (t : Trace) (r : Result T E) (t' : Trace)
    → PutGives t bytes r t' → ((front : List ℕ) → P (t ▷ Put front)) → Grew P t t'
put_grows P bytes t (Ok x) t' gives here = Grew-is (more same (here bytes)) gives
put_grows P bytes t (Err e) t' (inl none) here = Grew-is same none
put_grows P bytes t (Err e) t' (inr part) here = Grew-is (more same (here _)) part.2

-- what a store leaves of what was read before, as the range lies in the memory
pub store_near : {T : Type 0} (at : ℕ) (bytes : List ℕ) (t : Trace) (reads : List ℕ) (r : Result T Refusal) (t' : Trace) (reads' : List ℕ)
    → StoreGives at bytes t reads r t' reads' → at + length bytes ≤ length reads → NothingPending t → IsImage t reads → SameOutside at (length bytes) reads reads'
store_near at bytes t reads (Ok x) t' reads' gives fits none possible = subst (SameOutside at (length bytes) reads) (sym gives.1) (replaced_outside reads bytes at fits)
store_near at bytes t reads (Err refusals.Failed) t' reads' (inl kept) fits none possible = subst (SameOutside at (length bytes) reads) (sym kept.1) (record { size = refl; same = λ k lt out. refl })
store_near at bytes t reads (Err refusals.Failed) t' reads' (inr begun) fits none possible = begun.1
store_near at bytes t reads (Err refusals.Cut) t' reads' gives fits none possible = near_image t at bytes reads reads' none possible gives.1

-- nothing is pending after a sync that did not fail, after a store that was cut, and after a put as before it
pub sync_pending : {T : Type 0} (t : Trace) (reads : List ℕ) (r : Result T Refusal) (t' : Trace) (reads' : List ℕ) → SyncGives t reads r t' reads' → ¬ IsErrOf r refusals.Failed → NothingPending t'
sync_pending t reads (Ok x) t' reads' gives sound = subst NothingPending (sym gives.0) refl
sync_pending t reads (Err refusals.Failed) t' reads' gives sound = absurd (sound refl)
sync_pending t reads (Err refusals.Cut) t' reads' gives sound = subst NothingPending (sym gives.0) refl

pub cut_pending : {T : Type 0} (at : ℕ) (bytes : List ℕ) (t : Trace) (reads : List ℕ) (r : Result T Refusal) (t' : Trace) (reads' : List ℕ) → StoreGives at bytes t reads r t' reads' → IsErrOf r refusals.Cut → NothingPending t'
cut_pending at bytes t reads (Ok x) t' reads' gives cut = absurd cc
cut_pending at bytes t reads (Err refusals.Failed) t' reads' gives cut = absurd cc
cut_pending at bytes t reads (Err refusals.Cut) t' reads' gives cut = subst NothingPending (sym gives.0) refl

pub put_pending : {T E : Type 0} (bytes : List ℕ) (t : Trace) (r : Result T E) (t' : Trace) → PutGives t bytes r t' → NothingPending t → NothingPending t'
put_pending bytes t (Ok x) t' gives none = subst NothingPending (sym gives) none
put_pending bytes t (Err e) t' (inl kept) none = subst NothingPending (sym kept) none
put_pending bytes t (Err e) t' (inr part) none = subst NothingPending (sym part.2) none

module _ (Q : List ℕ → Type 0) where
  -- where nothing is pending
  pub settled_leaves : (t : Trace) (reads : List ℕ) → NothingPending t → IsImage t reads → Q reads → Leaves Q t
  settled_leaves t reads none possible here image of = subst Q (one_image t reads image none possible of) here

  -- a store, from a moment where nothing is pending
  pub store_leaves : {T : Type 0} (at : ℕ) (bytes : List ℕ) (t : Trace) (reads : List ℕ) (r : Result T Refusal) (t' : Trace) (reads' : List ℕ)
      → StoreGives at bytes t reads r t' reads' → NothingPending t → IsImage t reads → ((m : List ℕ) → SameOutside at (length bytes) reads m → Q m) → Grew (Leaves Q) t t'
  store_leaves at bytes t reads r t' reads' gives none possible here =
      store_grows (Leaves Q) at bytes t reads r t' reads' gives
      (λ image of. here image (near_image t at bytes reads image none possible of))
      (λ m of_m image of. subst Q (sym (image_of_cut (t ▷ Store at bytes) true m image of_m.size of)) (here m (near_image t at bytes reads m none possible of_m)))

  -- a sync, where each image before it has Q
  pub sync_leaves : {T : Type 0} (t : Trace) (reads : List ℕ) (r : Result T Refusal) (t' : Trace) (reads' : List ℕ)
      → SyncGives t reads r t' reads' → IsImage t reads → IsImage t' reads' → Leaves Q t → Grew (Leaves Q) t t'
  sync_leaves t reads (Ok x) t' reads' gives possible possible' before =
      Grew-is (more same (settled_leaves (t ▷ Sync) reads refl (subst (λ (s : Trace). IsImage s reads) gives.0 (subst (IsImage t') gives.1 possible')) (before reads possible))) gives.0
  sync_leaves t reads (Err refusals.Failed) t' reads' (inl none, read) possible possible' before = Grew-is same none
  sync_leaves t reads (Err refusals.Failed) t' reads' (inr begun, read) possible possible' before = Grew-is (more same (λ image of. before image (before_missed t image of))) begun
  sync_leaves t reads (Err refusals.Cut) t' reads' gives possible possible' before =
      Grew-is (more same (λ image of. subst Q (sym (image_of_cut t true reads' image gives.1.size of)) (before reads' gives.1))) gives.0

  -- a store and a sync, from a moment where nothing is pending; r is what the store answered, and the sync follows on Ok
  pub store_sync_leaves : {T U : Type 0} (at : ℕ) (bytes : List ℕ) (t : Trace) (reads : List ℕ) (r : Result T Refusal) (t' : Trace) (reads' : List ℕ) (r' : Result U Refusal) (t'' : Trace) (reads'' : List ℕ)
      → StoreGives at bytes t reads r t' reads' → SyncGives t' reads' r' t'' reads'' → NothingPending t → IsImage t reads → IsImage t' reads' → IsImage t'' reads''
      → Q reads → ((m : List ℕ) → SameOutside at (length bytes) reads m → Q m) → Grew (Leaves Q) t t''
  store_sync_leaves at bytes t reads r t' reads' r' t'' reads'' stored synced none possible possible' possible'' start here =
      let first = store_leaves at bytes t reads r t' reads' stored none possible here in
      Grew-then first (sync_leaves t' reads' r' t'' reads'' synced possible' possible'' (Grew-now (settled_leaves t reads none possible start) first))

  -- a put
  pub put_leaves : {T E : Type 0} (bytes : List ℕ) (t : Trace) (r : Result T E) (t' : Trace) → PutGives t bytes r t' → Leaves Q t → Grew (Leaves Q) t t'
  put_leaves bytes t r t' gives before = put_grows (Leaves Q) bytes t r t' gives (λ front image of. before image (before_put t front image of))
