-- Fields that are checked one after another.
use Rattle.std.proofs.Common.{◌≡◌, ℕ, suc, ◌+◌, ◌-◌, ◌<◌, ◌≤◌, Bool, true, false, cond, List, [], ◌∷◌, ◌++◌, Option, None, Some, Ok, Err, refl, sym, ◌∙◌, ap, arith}
use Rattle.memory_model.specs.Fields.{Field, first_broken, unless_broken, zero_bytes, zero_byte}

none_first : (b : Bool) (at : ℕ) (first second others : Option ℕ) → cond b first (Some at) ≡ None → (first ≡ None → second ≡ others) → cond b second (Some at) ≡ others
none_first true at first second others e later = later e
none_first false at first second others e later = absurd cc

some_first : (b : Bool) (at' at : ℕ) (first second : Option ℕ) → cond b first (Some at') ≡ Some at → (first ≡ Some at → second ≡ Some at) → cond b second (Some at') ≡ Some at
some_first true at' at first second e later = later e
some_first false at' at first second e later = e

-- fields that keep their rules, and then others
pub first_broken-none : (fs gs : List Field) (bytes : List ℕ) → first_broken fs bytes ≡ None → first_broken (fs ++ gs) bytes ≡ first_broken gs bytes
first_broken-none [] gs bytes e = refl
first_broken-none (f ∷ fs) gs bytes e =
    none_first (f.keeps bytes) f.at (first_broken fs bytes) (first_broken (fs ++ gs) bytes) (first_broken gs bytes) e (λ later. first_broken-none fs gs bytes later)

-- fields of which one breaks its rule
pub first_broken-some : (fs gs : List Field) (bytes : List ℕ) (at : ℕ) → first_broken fs bytes ≡ Some at → first_broken (fs ++ gs) bytes ≡ Some at
first_broken-some [] gs bytes at e = absurd cc
first_broken-some (f ∷ fs) gs bytes at e =
    some_first (f.keeps bytes) f.at at (first_broken fs bytes) (first_broken (fs ++ gs) bytes) e (λ later. first_broken-some fs gs bytes at later)

pub checked-ok : {V : Type 0} (broken : Option ℕ) (v w : V) → unless_broken broken v ≡ Ok w → (broken ≡ None) × (v ≡ w)
checked-ok None v w e = (refl, cc)
checked-ok (Some at) v w e = absurd cc

pub checked-err : {V : Type 0} (broken : Option ℕ) (v : V) (at : ℕ) → unless_broken broken v ≡ Err at → broken ≡ Some at
checked-err None v at e = absurd cc
checked-err (Some at') v at e = cc

kept : (b : Bool) (at : ℕ) (others : Option ℕ) → cond b others (Some at) ≡ None → (b ≡ true) × (others ≡ None)
kept true at others e = (refl, e)
kept false at others e = absurd cc

pub first_broken-kept : (f : Field) (fs : List Field) (bytes : List ℕ) → first_broken (f ∷ fs) bytes ≡ None → (f.keeps bytes ≡ true) × (first_broken fs bytes ≡ None)
first_broken-kept f fs bytes e = kept (f.keeps bytes) f.at (first_broken fs bytes) e

-- each of some fields keeps its rule
abbrev pub AllKeep : List Field → List ℕ → Type 0
AllKeep [] bytes = Unit {0}
AllKeep (f ∷ fs) bytes = (f.keeps bytes ≡ true) × AllKeep fs bytes

pub all_kept : (fs gs : List Field) (bytes : List ℕ) → first_broken (fs ++ gs) bytes ≡ None → AllKeep fs bytes × (first_broken gs bytes ≡ None)
all_kept [] gs bytes e = (tt, e)
all_kept (f ∷ fs) gs bytes e =
    let p = first_broken-kept f (fs ++ gs) bytes e in
    let later = all_kept fs gs bytes p.1 in
    ((p.0, later.0), later.1)

passed : (b : Bool) (at : ℕ) (others : Option ℕ) → b ≡ true → cond b others (Some at) ≡ others
passed true at others is = refl
passed false at others is = absurd cc

pub first_broken-all : (fs gs : List Field) (bytes : List ℕ) → AllKeep fs bytes → first_broken (fs ++ gs) bytes ≡ first_broken gs bytes
first_broken-all [] gs bytes keep = refl
first_broken-all (f ∷ fs) gs bytes keep =
    passed (f.keeps bytes) f.at (first_broken (fs ++ gs) bytes) keep.0 ∙ first_broken-all fs gs bytes keep.1

pub first_broken-split : (fs gs : List Field) (bytes : List ℕ) → first_broken (fs ++ gs) bytes ≡ None → (first_broken fs bytes ≡ None) × (first_broken gs bytes ≡ None)
first_broken-split [] gs bytes e = (refl, e)
first_broken-split (f ∷ fs) gs bytes e =
    let p = first_broken-kept f (fs ++ gs) bytes e in
    let later = first_broken-split fs gs bytes p.1 in
    (passed (f.keeps bytes) f.at (first_broken fs bytes) p.0 ∙ later.0, later.1)

-- ---- zeros one after another

pub zero_kept : (bytes : List ℕ) (at end : ℕ) (total : Option ℕ) → at < end → (zero_byte at).keeps bytes ≡ true → first_broken (zero_bytes at (end - at)) bytes ≡ total → first_broken (zero_bytes (at + 1) (end - (at + 1))) bytes ≡ total
unfolding zero_bytes
zero_kept bytes at end total lt keeps so_far =
    let more : end - at ≡ suc (end - (at + 1)) = omega arith in
    sym (ap (λ n. first_broken (zero_bytes at n) bytes) more ∙ ap (λ b. cond b (first_broken (zero_bytes (at + 1) (end - (at + 1))) bytes) (Some at)) keeps) ∙ so_far

pub zero_broken : (bytes : List ℕ) (at end : ℕ) (total : Option ℕ) → at < end → (zero_byte at).keeps bytes ≡ false → first_broken (zero_bytes at (end - at)) bytes ≡ total → total ≡ Some at
unfolding zero_bytes
zero_broken bytes at end total lt breaks so_far =
    let more : end - at ≡ suc (end - (at + 1)) = omega arith in
    sym so_far ∙ ap (λ n. first_broken (zero_bytes at n) bytes) more ∙ ap (λ b. cond b (first_broken (zero_bytes (at + 1) (end - (at + 1))) bytes) (Some at)) breaks

pub zeros_done : (bytes : List ℕ) (at end : ℕ) (total : Option ℕ) → end ≤ at → first_broken (zero_bytes at (end - at)) bytes ≡ total → total ≡ None
unfolding zero_bytes
zeros_done bytes at end total le so_far =
    let none : end - at ≡ 0 = omega arith in
    sym so_far ∙ ap (λ n. first_broken (zero_bytes at n) bytes) none
