-- What events in two parts add, and what one more event adds.
use Rattle.std.proofs.Common.{ℕ, ℤ, List, [], ◌∷◌, ◌++◌, map, Option, None, Some, sym, subst}
use Rattle.std.specs.List.{AllByRecursion}
use Rattle.metering_model.specs.Events.{Event, Kept, Placed, placed, placed_after}
use Rattle.metering_model.specs.Settings.{Settings}
use Rattle.metering_model.specs.Counting.{Counted, counted_by}
use Rattle.metering_model.specs.Records.{MeterRecord, StandsFor, samples_after, counted_at, record_after}
use Rattle.metering_model.proofs.Joined.{counted_at-later, later, placed-append, placed-joined, stands-joined}
use Rattle.integral_model.specs.Integral.{Fits, FitsWithMargin, FitsClosely, AddsBy, AllFit, AllFitWithMargin, AllFitClosely, TakesEvent}

-- ---- what events add, by a rule
-- what each of the events adds is by the rule
abbrev pub AllAdd : (Counted → ℤ → ℕ → Type 0) → Settings → MeterRecord → List Kept → Type 0
AllAdd Rule c o ks = AllByRecursion (λ e. AddsBy Rule (counted_at c o e) e.kept.energy_mj e.kept.bound_mj) (placed ks)

all-append : {X : Type 0} (P : X → Type 0) (xs ys : List X) → AllByRecursion P xs → AllByRecursion P ys → AllByRecursion P (xs ++ ys)
all-append P [] ys first rest = rest
all-append P (x ∷ xs) ys first rest = (first.0, all-append P xs ys first.1 rest)

all-front : {X : Type 0} (P : X → Type 0) (xs ys : List X) → AllByRecursion P (xs ++ ys) → AllByRecursion P xs
all-front P [] ys all = tt
all-front P (x ∷ xs) ys all = (all.0, all-front P xs ys all.1)

all-each : {X : Type 0} (P Q : X → Type 0) (xs : List X) → ((x : X) → P x → Q x) → AllByRecursion P xs → AllByRecursion Q xs
all-each P Q [] weaker all = tt
all-each P Q (x ∷ xs) weaker all = (weaker x all.0, all-each P Q xs weaker all.1)

all-map : {X Y : Type 0} (P : X → Type 0) (Q : Y → Type 0) (f : X → Y) (xs : List X) → ((x : X) → P x → Q (f x)) → AllByRecursion P xs → AllByRecursion Q (map f xs)
all-map P Q f [] each all = tt
all-map P Q f (x ∷ xs) each all = (each x all.0, all-map P Q f xs each all.1)

pub adds-joined : (Rule : Counted → ℤ → ℕ → Type 0) (c : Settings) (o : MeterRecord) (hs ls : List Kept) → AllAdd Rule c o hs → AllAdd Rule c (record_after c o hs) ls → AllAdd Rule c o (hs ++ ls)
adds-joined Rule c o hs ls first rest =
    let mid = record_after c o hs in
    let Adds = λ (e : Placed). AddsBy Rule (counted_at c o e) e.kept.energy_mj e.kept.bound_mj in
    let on : AllByRecursion Adds (map (later hs) (placed ls)) =
    all-map (λ (e : Placed). AddsBy Rule (counted_at c mid e) e.kept.energy_mj e.kept.bound_mj) Adds (later hs) (placed ls)
    (λ e adds. subst (λ k. AddsBy Rule k e.kept.energy_mj e.kept.bound_mj) (sym (counted_at-later c o hs e)) adds) rest in
    subst (AllByRecursion Adds) (sym (placed-joined hs ls)) (all-append Adds (placed hs) (map (later hs) (placed ls)) first on)

pub adds-front : (Rule : Counted → ℤ → ℕ → Type 0) (c : Settings) (o : MeterRecord) (hs ls : List Kept) → AllAdd Rule c o (hs ++ ls) → AllAdd Rule c o hs
adds-front Rule c o hs ls all =
    let Adds = λ (e : Placed). AddsBy Rule (counted_at c o e) e.kept.energy_mj e.kept.bound_mj in
    all-front Adds (placed hs) (placed_after hs ls) (subst (AllByRecursion Adds) (placed-append [] hs ls) all)

pub adds-more : (Rule : Counted → ℤ → ℕ → Type 0) (c : Settings) (o : MeterRecord) (ks : List Kept) (k : Kept) → AllAdd Rule c o ks
    → AddsBy Rule (counted_by c (samples_after o.samples ks) k.event) k.energy_mj k.bound_mj → AllAdd Rule c o (ks ++ k ∷ [])
adds-more Rule c o ks k all one =
    let Adds = λ (e : Placed). AddsBy Rule (counted_at c o e) e.kept.energy_mj e.kept.bound_mj in
    subst (AllByRecursion Adds) (sym (placed-append [] ks (k ∷ []))) (all-append Adds (placed ks) (placed_after ks (k ∷ [])) all (one, tt))

pub fit-joined : (c : Settings) (o : MeterRecord) (hs ls : List Kept) → AllFit c o hs → AllFit c (record_after c o hs) ls → AllFit c o (hs ++ ls)
fit-joined c o hs ls = adds-joined (Fits c) c o hs ls

pub margin-joined : (c : Settings) (o : MeterRecord) (hs ls : List Kept) → AllFitWithMargin c o hs → AllFitWithMargin c (record_after c o hs) ls → AllFitWithMargin c o (hs ++ ls)
margin-joined c o hs ls = adds-joined (FitsWithMargin c) c o hs ls

pub closely-joined : (c : Settings) (o : MeterRecord) (hs ls : List Kept) → AllFitClosely c o hs → AllFitClosely c (record_after c o hs) ls → AllFitClosely c o (hs ++ ls)
closely-joined c o hs ls = adds-joined (FitsClosely c) c o hs ls

pub fit-front : (c : Settings) (o : MeterRecord) (hs ls : List Kept) → AllFitClosely c o (hs ++ ls) → AllFitClosely c o hs
fit-front c o hs ls = adds-front (FitsClosely c) c o hs ls

of_margin : (c : Settings) (k : Option Counted) (e : ℤ) (b : ℕ) → AddsBy (FitsWithMargin c) k e b → AddsBy (Fits c) k e b
of_margin c None e b adds = adds
of_margin c (Some k) e b adds = adds.fits

pub fit-of-margin : (c : Settings) (o : MeterRecord) (ks : List Kept) → AllFitWithMargin c o ks → AllFit c o ks
fit-of-margin c o ks =
    all-each (λ (e : Placed). AddsBy (FitsWithMargin c) (counted_at c o e) e.kept.energy_mj e.kept.bound_mj) (λ (e : Placed). AddsBy (Fits c) (counted_at c o e) e.kept.energy_mj e.kept.bound_mj) (placed ks)
    (λ e. of_margin c (counted_at c o e) e.kept.energy_mj e.kept.bound_mj)

of_closely : (c : Settings) (k : Option Counted) (e : ℤ) (b : ℕ) → AddsBy (FitsClosely c) k e b → AddsBy (FitsWithMargin c) k e b
of_closely c None e b adds = adds
of_closely c (Some k) e b adds = adds.margin

pub margin-of-closely : (c : Settings) (o : MeterRecord) (ks : List Kept) → AllFitClosely c o ks → AllFitWithMargin c o ks
margin-of-closely c o ks =
    all-each (λ (e : Placed). AddsBy (FitsClosely c) (counted_at c o e) e.kept.energy_mj e.kept.bound_mj) (λ (e : Placed). AddsBy (FitsWithMargin c) (counted_at c o e) e.kept.energy_mj e.kept.bound_mj) (placed ks)
    (λ e. of_closely c (counted_at c o e) e.kept.energy_mj e.kept.bound_mj)

pub fit-more : (c : Settings) (o : MeterRecord) (ks : List Kept) (k : Kept) → AllFitClosely c o ks
    → AddsBy (FitsClosely c) (counted_by c (samples_after o.samples ks) k.event) k.energy_mj k.bound_mj → AllFitClosely c o (ks ++ k ∷ [])
fit-more c o ks k = adds-more (FitsClosely c) c o ks k

-- ---- one event
-- what stands for an event after a record stands for it after any events
pub takes : (c : Settings) (old new : MeterRecord) (event : Event) (e : ℤ) (b : ℕ)
    → AddsBy (FitsClosely c) (counted_by c old.samples event) e b
    → StandsFor c old (record { event = event; energy_mj = e; bound_mj = b } ∷ []) new
    → TakesEvent c old event new
takes c old new event e b fits stands = record {
  energy_mj = e;
  bound_mj = b;
  fits = fits;
  stands = λ o ks before. stands-joined c o old new ks _ before stands;
}
