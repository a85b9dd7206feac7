-- Images: where nothing is pending there is one, and what a store, a sync and a cut make of it.
use Rattle.std.proofs.Common.{◌≡◌, inl, inr, ℕ, ◌+◌, ◌≤◌, ◌<◌, Bool, true, false, List, ◌++◌, length, get_or, take, drop, refl, sym, ◌∙◌, ap, subst, arith}
use Rattle.std.specs.Prelude.{◌||◌}
use Rattle.std.proofs.lemmas.List.{same_lists, get_or_default, length-append, length-take, length-drop, places}
use Rattle.std.proofs.lemmas.Bool.{cases_lt}
use Rattle.std.proofs.lemmas.Bool.Decides.{nat_tests}
use Rattle.trace_model.specs.Trace.{Store, Sync, Missed, Put, Cut, Trace, Start, ◌▷◌, base_of, IsFresh}
use Rattle.trace_model.specs.Images.{NothingPending, pending, replaced, settled, written, is_within, is_covered, IsImage, SameOutside}

pub none_covered : (t : Trace) → NothingPending t → (place : ℕ) → is_covered (pending t) place ≡ false
none_covered t none place = ap (λ rs. is_covered rs place) none

first_false : (a b : Bool) → (a || b) ≡ false → a ≡ false
first_false true b h = absurd cc
first_false false b h = refl

second_false : (a b : Bool) → (a || b) ≡ false → b ≡ false
second_false true b h = absurd cc
second_false false b h = h

both_false : (a b : Bool) → a ≡ false → b ≡ false → (a || b) ≡ false
both_false a b p q = grind arith

-- ---- where nothing is pending

-- the settled bytes are an image, and there is no other
pub settled_image : (t : Trace) → length (settled t) ≡ 16384 → IsImage t (settled t)
settled_image t size = record { size = size; same = λ place lt none. refl }

pub one_image : (t : Trace) (m n : List ℕ) → NothingPending t → IsImage t m → IsImage t n → m ≡ n
one_image t m n none of_m of_n =
    same_lists m n (of_m.size ∙ sym of_n.size) (λ k d lt.
    let lt_m : k < 16384 = omega (arith, of_m.size) in
    let lt_n : k < length n = omega (arith, of_n.size) in
    get_or_default m k d 0 lt ∙ of_m.same k lt_m (none_covered t none k) ∙ sym (of_n.same k lt_m (none_covered t none k)) ∙ sym (get_or_default n k d 0 lt_n))

-- so it is with a board that was just handed in, whose memory reads its base
pub fresh_pending : (t : Trace) → IsFresh t → NothingPending t
fresh_pending t fresh = ap pending fresh

pub fresh_image : (t : Trace) (m : List ℕ) → IsFresh t → length (base_of t) ≡ 16384 → IsImage t m → m ≡ base_of t
fresh_image t m fresh size of = one_image (Start (base_of t)) m (base_of t) refl (subst (λ s. IsImage s m) fresh of) (settled_image (Start (base_of t)) size)

-- within one store after that moment, the places outside its range stay
pub near_image : (t : Trace) (at : ℕ) (bytes m n : List ℕ) → NothingPending t → IsImage t m → IsImage (t ▷ Store at bytes) n → SameOutside at (length bytes) m n
near_image t at bytes m n none of_m of_n = record {
  size = of_n.size ∙ sym of_m.size;
  same = λ k lt' out. let lt : k < 16384 = omega (arith, of_m.size) in of_n.same k lt (both_false (is_within at (length bytes) k) (is_covered (pending t) k) out (none_covered t none k)) ∙ sym (of_m.same k lt (none_covered t none k));
}

-- ---- after one more entry

pub length-replaced : (m bytes : List ℕ) (at : ℕ) → at + length bytes ≤ length m → length (replaced m at bytes) ≡ length m
length-replaced m bytes at fits = omega (arith, length-append (take at m) (bytes ++ drop (at + length bytes) m), length-append bytes (drop (at + length bytes) m), length-take at m, length-drop (at + length bytes) m)

pub replaced_outside : (m bytes : List ℕ) (at : ℕ) → at + length bytes ≤ length m → SameOutside at (length bytes) m (replaced m at bytes)
replaced_outside m bytes at fits = record {
  size = length-replaced m bytes at fits;
  same = λ k lt out. elim (cases_lt k at) [
    | inl below ↦ grind (arith, places)
    | inr above ↦ let past : at + length bytes ≤ k = grind (arith, nat_tests) in grind (arith, places)
  ];
}

-- any bytes in the range of a store make an image of an image before it
pub store_image : (t : Trace) (at : ℕ) (bytes m n : List ℕ) → IsImage t m → SameOutside at (length bytes) m n → IsImage (t ▷ Store at bytes) n
store_image t at bytes m n of near = record {
  size = near.size ∙ of.size;
  same = λ k lt none. near.same k (omega (arith, of.size)) (first_false (is_within at (length bytes) k) (is_covered (pending t) k) none) ∙ of.same k lt (second_false (is_within at (length bytes) k) (is_covered (pending t) k) none);
}

-- the bytes that were stored are among them
pub stored_image : (t : Trace) (at : ℕ) (bytes m : List ℕ) → at + length bytes ≤ 16384 → IsImage t m → IsImage (t ▷ Store at bytes) (replaced m at bytes)
stored_image t at bytes m fits of = store_image t at bytes m (replaced m at bytes) of (replaced_outside m bytes at (omega (arith, of.size, fits)))

pub synced_image : (t : Trace) (m : List ℕ) → length m ≡ 16384 → m ≡ written t → IsImage (t ▷ Sync) m
synced_image t m size is = record { size = size; same = λ k lt none. ap (λ (l : List ℕ). get_or l k 0) is }

pub missed_image : (t : Trace) (m : List ℕ) → IsImage t m → IsImage (t ▷ Missed) m
missed_image t m of = record { size = of.size; same = of.same }

pub before_missed : (t : Trace) (m : List ℕ) → IsImage (t ▷ Missed) m → IsImage t m
before_missed t m of = record { size = of.size; same = of.same }

pub put_image : (t : Trace) (bytes m : List ℕ) → IsImage t m → IsImage (t ▷ Put bytes) m
put_image t bytes m of = record { size = of.size; same = of.same }

pub before_put : (t : Trace) (bytes m : List ℕ) → IsImage (t ▷ Put bytes) m → IsImage t m
before_put t bytes m of = record { size = of.size; same = of.same }

pub cut_image : (t : Trace) (forced : Bool) (m : List ℕ) → length m ≡ 16384 → IsImage (t ▷ Cut forced m) m
cut_image t forced m size = record { size = size; same = λ k lt none. refl }

-- after a cut its image alone is possible
pub image_of_cut : (t : Trace) (forced : Bool) (m n : List ℕ) → length m ≡ 16384 → IsImage (t ▷ Cut forced m) n → n ≡ m
image_of_cut t forced m n size of = one_image (t ▷ Cut forced m) n m refl of (cut_image t forced m size)
