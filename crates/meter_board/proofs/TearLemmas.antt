-- A range that is torn: what was stored in it before is of no account, and other places stay.
use Rattle.std.proofs.Common.{◌≡◌, ℕ, ◌+◌, ◌-◌, ◌≤◌, Bool, true, false, List, [], ◌∷◌, ◌++◌, length, take, drop, replicate, refl, sym, ◌∙◌, ap, subst, arith}
use Rattle.std.specs.Prelude.{◌||◌}
use Rattle.std.proofs.Math.Seq.{take-append_seam, drop-append_seam, drop-append-add}
use Rattle.std.proofs.lemmas.List.{nil_from_length, length-append, length-take, length-take-le, length-drop, length-replicate}
use Rattle.trace_model.specs.Trace.{Store, Trace, ◌▷◌}
use Rattle.trace_model.specs.Images.{IsImage, Range, SameOutside, is_covered, is_within, pending, replaced}
use Rattle.trace_model.proofs.Images.{replaced_outside, store_image}
use Rattle.meter_board.specs.Tears.{torn, last_torn, last_at, last_len}

pub length-torn : (keep fill : ℕ) (bytes : List ℕ) → length (torn keep fill bytes) ≡ length bytes
length-torn keep fill bytes = omega (arith, length-append (take keep bytes) (replicate (length bytes - keep) fill), length-take keep bytes, length-replicate (length bytes - keep) fill)

-- what was stored is what is read
pub range_read : (m bytes : List ℕ) (at : ℕ) → at ≤ length m → take (length bytes) (drop at (replaced m at bytes)) ≡ bytes
range_read m bytes at fits =
    ap (λ l. take (length bytes) l) ((λ i. drop (sym (length-take-le at m fits) i) (replaced m at bytes)) ∙ drop-append_seam (take at m) (bytes ++ drop (at + length bytes) m))
    ∙ take-append_seam bytes (drop (at + length bytes) m)

-- of two stores in one range the later one counts
pub replaced_twice : (m xs ys : List ℕ) (at : ℕ) → at ≤ length m → length ys ≡ length xs → replaced (replaced m at xs) at ys ≡ replaced m at ys
replaced_twice m xs ys at fits size =
    let front : take at (replaced m at xs) ≡ take at m = (λ i. take (sym (length-take-le at m fits) i) (replaced m at xs)) ∙ take-append_seam (take at m) (xs ++ drop (at + length xs) m) in
    let back : drop (at + length ys) (replaced m at xs) ≡ drop (at + length ys) m =
    (λ i. drop (sym (length-take-le at m fits) i + size i) (replaced m at xs))
    ∙ drop-append-add (take at m) (xs ++ drop (at + length xs) m) (length xs)
    ∙ drop-append_seam xs (drop (at + length xs) m)
    ∙ (λ i. drop (at + sym size i) m) in
    (λ i. front i ++ (ys ++ back i))

-- a store that is torn
pub torn_store : (m bytes : List ℕ) (at keep fill : ℕ) → at ≤ length m → replaced (replaced m at bytes) at (torn keep fill (take (length bytes) (drop at (replaced m at bytes)))) ≡ replaced m at (torn keep fill bytes)
torn_store m bytes at keep fill fits =
    (λ i. replaced (replaced m at bytes) at (torn keep fill (range_read m bytes at fits i)))
    ∙ replaced_twice m bytes (torn keep fill bytes) at fits (length-torn keep fill bytes)

-- the range that was stored last, by its place and size
pub torn_last : (rs : List Range) (m : List ℕ) (keep fill : ℕ) → replaced m (last_at rs) (torn keep fill (take (last_len rs) (drop (last_at rs) m))) ≡ last_torn keep fill rs m
torn_last [] m keep fill = ap (λ (l : List ℕ). replaced m 0 l) (nil_from_length (torn keep fill []) (length-torn keep fill []))
torn_last (r ∷ rs) m keep fill = refl

first_false : (a b : Bool) → (a || b) ≡ false → a ≡ false
first_false true b h = absurd cc
first_false false b h = refl

-- other bytes in the range that was stored last make an image of an image
last_image : (t : Trace) (r : Range) (rs : List Range) (m n : List ℕ) → pending t ≡ r ∷ rs → IsImage t m → SameOutside r.at (length r.bytes) m n → IsImage t n
last_image t r rs m n is of near = record {
  size = near.size ∙ of.size;
  same = λ k lt none. near.same k (omega (arith, of.size)) (first_false (is_within r.at (length r.bytes) k) (is_covered rs k) (sym (ap (λ l. is_covered l k) is) ∙ none)) ∙ of.same k lt none;
}

torn_from : (t : Trace) (rs : List Range) (m : List ℕ) (keep fill : ℕ) → pending t ≡ rs → last_at rs + last_len rs ≤ 16384 → IsImage t m → IsImage t (last_torn keep fill rs m)
torn_from t [] m keep fill is fits of = of
torn_from t (r ∷ rs) m keep fill is fits of =
    let bytes = torn keep fill (take (length r.bytes) (drop r.at m)) in
    let size : length bytes ≡ length r.bytes = omega (arith, length-torn keep fill (take (length r.bytes) (drop r.at m)), length-take (length r.bytes) (drop r.at m), length-drop r.at m, of.size, fits) in
    last_image t r rs m (replaced m r.at bytes) is of
    (subst (λ n. SameOutside r.at n m (replaced m r.at bytes)) size (replaced_outside m bytes r.at (omega (arith, size, of.size, fits))))

-- it stays possible
pub torn_image : (t : Trace) (m : List ℕ) (keep fill : ℕ) → last_at (pending t) + last_len (pending t) ≤ 16384 → IsImage t m → IsImage t (last_torn keep fill (pending t) m)
torn_image t m keep fill fits of = torn_from t (pending t) m keep fill refl fits of

-- a store that is torn leaves an image
pub torn_store_image : (t : Trace) (at : ℕ) (bytes m : List ℕ) (keep fill : ℕ) → at + length bytes ≤ 16384 → IsImage t m → IsImage (t ▷ Store at bytes) (replaced m at (torn keep fill bytes))
torn_store_image t at bytes m keep fill fits of =
    let size = length-torn keep fill bytes in
    store_image t at bytes m (replaced m at (torn keep fill bytes)) of
    (subst (λ n. SameOutside at n m (replaced m at (torn keep fill bytes))) size (replaced_outside m (torn keep fill bytes) at (omega (arith, size, of.size, fits))))
