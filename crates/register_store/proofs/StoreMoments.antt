-- What a store leaves that is settled at once, and how what a call keeps to follows from what the calls in it keep to.
use Rattle.std.proofs.Common.{◌≡◌, inl, inr, ℕ, true, List, length, refl, sym, subst, arith, Result, Ok, Err}
use Rattle.std.specs.Prelude.{IsErrOf}
use Rattle.trace_model.specs.Trace.{Store, Sync, Missed, Cut, Trace, ◌▷◌}
use Rattle.trace_model.specs.Images.{NothingPending, IsImage, SameOutside}
use Rattle.trace_model.specs.Moments.{Grew, Leaves}
use Rattle.trace_model.proofs.Images.{near_image}
use Rattle.trace_model.proofs.Moments.{Grew-then, Grew-weaker}
use Rattle.meter_board.specs.declared.refusal.Refusal.{Refusal}
use Rattle.meter_board.specs.declared.refusal.Refusal.TheVariants as refusals
use Rattle.meter_board.specs.Stores.{StoreGives, SyncGives}
use Rattle.meter_board.proofs.Stretches.{store_leaves, store_sync_leaves}
use Rattle.register_store.specs.Commits.{EndsCut}
use Rattle.register_store.specs.Works.{KeepsTo, StoresSettled, Works, WorksBy}

-- ---- what follows from what is kept to

-- what is weaker is kept to as well
pub keeps_weaker : {T : Type 0} {P Q : List ℕ → Type 0} {result : Result T Refusal} {t t' : Trace} {reads : List ℕ} → ((image : List ℕ) → P image → Q image) → KeepsTo P result t t' reads → KeepsTo Q result t t' reads
keeps_weaker {T} {P} {Q} {result} {t} {t'} {reads} weaker k = record {
  moments = Grew-weaker (λ s leaves image of. weaker image (leaves image of)) k.moments;
  at_cut = λ cut. let end = k.at_cut cut in record { before = end.before; last = end.last; image = weaker reads end.image };
}

-- and by a call that answers a cut only where the call in it does
pub keeps_on : {T U : Type 0} {Q : List ℕ → Type 0} {result : Result T Refusal} {result' : Result U Refusal} {t t' : Trace} {reads : List ℕ} → (IsErrOf result' refusals.Cut → IsErrOf result refusals.Cut) → KeepsTo Q result t t' reads → KeepsTo Q result' t t' reads
keeps_on same k = record { moments = k.moments; at_cut = λ cut. k.at_cut (same cut) }

-- and by a call before it
pub keeps_then : {T : Type 0} {Q : List ℕ → Type 0} {result : Result T Refusal} {t t' t'' : Trace} {reads : List ℕ} → Grew (Leaves Q) t t' → KeepsTo Q result t' t'' reads → KeepsTo Q result t t'' reads
keeps_then first k = record { moments = Grew-then first k.moments; at_cut = k.at_cut }

-- ---- a store of these bytes, from a moment where nothing is pending

module _ (at : ℕ) (bytes : List ℕ) (t : Trace) (reads : List ℕ) (none : NothingPending t) (possible : IsImage t reads) where
  abbrev pub Near : List ℕ → Type 0
  Near image = SameOutside at (length bytes) reads image

  store_cut : {T : Type 0} (r : Result T Refusal) (t' : Trace) (reads' : List ℕ) → StoreGives at bytes t reads r t' reads' → IsErrOf r refusals.Cut → EndsCut Near t' reads'
  store_cut (Ok x) t' reads' gives cut = absurd cc
  store_cut (Err refusals.Failed) t' reads' gives cut = absurd cc
  store_cut (Err refusals.Cut) t' reads' gives cut = record { before = t ▷ Store at bytes; last = gives.0; image = near_image t at bytes reads reads' none possible gives.1 }

  store_works : {T : Type 0} (r : Result T Refusal) (t' : Trace) (reads' : List ℕ) → StoreGives at bytes t reads r t' reads' → WorksBy 1 r t t'
  store_works (Ok x) t' reads' gives = subst (Works 1 0 t) (sym gives.0) (record { stores = omega arith; syncs = omega arith; forced_cuts = omega arith; others = omega arith })
  store_works (Err refusals.Failed) t' reads' (inl none) = subst (Works 1 0 t) (sym none.0) (record { stores = omega arith; syncs = omega arith; forced_cuts = omega arith; others = omega arith })
  store_works (Err refusals.Failed) t' reads' (inr begun) = subst (Works 1 0 t) (sym begun.0) (record { stores = omega arith; syncs = omega arith; forced_cuts = omega arith; others = omega arith })
  store_works (Err refusals.Cut) t' reads' gives = subst (Works 1 1 t) (sym gives.0) (record { stores = omega arith; syncs = omega arith; forced_cuts = omega arith; others = omega arith })

  -- the store was refused
  pub store_keeps : {T : Type 0} (r : Result T Refusal) (t' : Trace) (reads' : List ℕ) → StoreGives at bytes t reads r t' reads' → KeepsTo Near r t t' reads'
  store_keeps r t' reads' gives = record { moments = store_leaves Near at bytes t reads r t' reads' gives none possible (λ image near. near); at_cut = store_cut r t' reads' gives }

  pub store_refused : {T U : Type 0} (e : Refusal) (r : Result T Refusal) (t' : Trace) (reads' : List ℕ) → StoreGives at bytes t reads r t' reads' → r ≡ Err e → (result : Result U Refusal) → result ≡ Err e → StoresSettled 1 result t t'
  store_refused {T} {U} e r t' reads' gives is result is' =
      let works : WorksBy {T = T} 1 (Err e) t t' = subst (λ (s : Result T Refusal). WorksBy 1 s t t') is (store_works r t' reads' gives) in
      subst (λ (s : Result U Refusal). StoresSettled 1 s t t') (sym is') (record { works = same_works e works; settled = tt }) where
        same_works : (e : Refusal) → WorksBy {T = T} 1 (Err e) t t' → WorksBy {T = U} 1 (Err e) t t'
        same_works refusals.Failed works = works
        same_works refusals.Cut works = works

  -- the store was done, and a sync followed
  module _ {U : Type 0} (t' : Trace) (reads' : List ℕ) (stored : StoreGives {T = Unit {0}} at bytes t reads (Ok (tt {0})) t' reads') (possible' : IsImage t' reads') where
    sync_cut : (r : Result U Refusal) (t'' : Trace) (reads'' : List ℕ) → SyncGives t' reads' r t'' reads'' → IsErrOf r refusals.Cut → EndsCut Near t'' reads''
    sync_cut (Ok y) t'' reads'' gives cut = absurd cc
    sync_cut (Err refusals.Failed) t'' reads'' gives cut = absurd cc
    sync_cut (Err refusals.Cut) t'' reads'' gives cut = record { before = t'; last = gives.0; image = near_image t at bytes reads reads'' none possible (subst (λ (s : Trace). IsImage s reads'') stored.0 gives.1) }

    pub sync_keeps : (r : Result U Refusal) (t'' : Trace) (reads'' : List ℕ) → SyncGives t' reads' r t'' reads'' → IsImage t'' reads'' → KeepsTo Near r t t'' reads''
    sync_keeps r t'' reads'' gives possible'' = record {
      moments = store_sync_leaves Near at bytes t reads (Ok (tt {0})) t' reads' r t'' reads'' stored gives none possible possible' possible'' (record { size = refl; same = λ k lt out. refl }) (λ image near. near);
      at_cut = sync_cut r t'' reads'' gives;
    }

    pub sync_settles : (r : Result U Refusal) (t'' : Trace) (reads'' : List ℕ) → SyncGives t' reads' r t'' reads'' → StoresSettled 1 r t t''
    sync_settles (Ok y) t'' reads'' gives = record {
      works = subst (Works 1 0 t) (sym gives.0) (subst (λ (s : Trace). Works 1 0 t (s ▷ Sync)) (sym stored.0) (record { stores = omega arith; syncs = omega arith; forced_cuts = omega arith; others = omega arith }));
      settled = subst NothingPending (sym gives.0) refl;
    }
    sync_settles (Err refusals.Failed) t'' reads'' (inl none', read) = record {
      works = subst (Works 1 0 t) (sym none') (subst (Works 1 0 t) (sym stored.0) (record { stores = omega arith; syncs = omega arith; forced_cuts = omega arith; others = omega arith }));
      settled = tt;
    }
    sync_settles (Err refusals.Failed) t'' reads'' (inr begun, read) = record {
      works = subst (Works 1 0 t) (sym begun) (subst (λ (s : Trace). Works 1 0 t (s ▷ Missed)) (sym stored.0) (record { stores = omega arith; syncs = omega arith; forced_cuts = omega arith; others = omega arith }));
      settled = tt;
    }
    sync_settles (Err refusals.Cut) t'' reads'' gives = record {
      works = subst (Works 1 1 t) (sym gives.0) (subst (λ (s : Trace). Works 1 1 t (s ▷ Cut true reads'')) (sym stored.0) (record { stores = omega arith; syncs = omega arith; forced_cuts = omega arith; others = omega arith }));
      settled = tt;
    }
