-- The latest of a list, as entries are appended.
use Rattle.std.proofs.Common.{◌≡◌, ℕ, suc, ◌+◌, ◌-◌, ◌<◌, ◌≤◌, inl, inr, List, [], ◌∷◌, ◌++◌, length, map, filter, drop, refl, sym, ap, ◌∙◌, arith, Bool, true, max, min, append_assoc, length-append}
use Rattle.std.proofs.lemmas.List.{drop-map, length-map, map-append}
use Rattle.std.proofs.lemmas.List.Elements.{filter-append}
use Rattle.std.proofs.lemmas.List.FromFn.{map-range_with_len_more, length-map-range_with_len}
use Rattle.std.proofs.Math.Seq.{drop-append_seam}
use Rattle.std.proofs.lemmas.Bool.{cases_order}
use Rattle.std.specs.List.{range_with_len}
use Rattle.calendar_model.specs.Calendar.{IsMonthOf, months_passed}
use Rattle.calendar_model.proofs.MonthLemmas.{IsInMonth-of, months_passed_is, range_split}
use Rattle.calendar_model.proofs.EntryLemmas.{latest-joined}
use Rattle.calendar_model.specs.Entries.{latest, last_or}

module _ {A : Type 0} where
  -- what is before the latest k does not matter
  pub latest-last : (xs ys : List A) → latest (length ys) (xs ++ ys) ≡ ys
  latest-last xs ys =
      let front : length (xs ++ ys) - length ys ≡ length xs = omega (arith, length-append xs ys) in
      ap (λ n. drop n (xs ++ ys)) front ∙ drop-append_seam xs ys

  pub last_or-append : (before x : A) (xs : List A) → last_or before (xs ++ x ∷ []) ≡ x
  last_or-append before x [] = refl
  last_or-append before x (y ∷ xs) = last_or-append y x xs

pub map-latest : {A B : Type 0} (f : A → B) (k : ℕ) (xs : List A) → map f (latest k xs) ≡ latest k (map f xs)
map-latest f k xs = sym (drop-map f (length xs - k) xs) ∙ ap (λ n. drop (n - k) (map f xs)) (sym (length-map xs f))

-- one more entry
pub entered_more : {A E : Type 0} (view : A → E) (f : ℕ → E) (k : ℕ) (olds : List E) (items news : List A) (e : A) (start i : ℕ) → start ≤ i
    → map view items ≡ latest k (olds ++ map f (range_with_len start (i - start))) → news ≡ latest k (items ++ e ∷ []) → view e ≡ f i
    → map view news ≡ latest k (olds ++ map f (range_with_len start (i + 1 - start)))
entered_more {A} {E} view f k olds items news e start i le before is shown =
    let made = map f (range_with_len start (i - start)) in
    let count : i + 1 - start ≡ i - start + 1 = omega arith in
    ap (map view) is ∙ map-latest view k (items ++ e ∷ []) ∙ ap (latest k) (map-append view items (e ∷ []))
    ∙ ap (λ xs. latest k (xs ++ view e ∷ [])) before ∙ latest-joined k (olds ++ made) (view e ∷ [])
    ∙ ap (latest k) (append_assoc olds made (view e ∷ []))
    ∙ ap (λ x. latest k (olds ++ (made ++ x ∷ []))) shown
    ∙ ap (λ xs. latest k (olds ++ xs)) (sym (map-range_with_len_more f start (i - start) i (omega arith)))
    ∙ ap (λ n. latest k (olds ++ map f (range_with_len start n))) (sym count)

split_images : {E : Type 0} (f : ℕ → E) (a n k : ℕ) → map f (range_with_len a (n + k)) ≡ map f (range_with_len a n) ++ map f (range_with_len (a + n) k)
split_images f a n k = ap (map f) (range_split a n k) ∙ map-append f (range_with_len a n) (range_with_len (a + n) k)

-- only the latest need be made
pub entered_skip : {E : Type 0} (f : ℕ → E) (k : ℕ) (olds : List E) (from to start : ℕ) → start ≡ max from (to - k)
    → latest k (olds ++ map f (range_with_len start (to - start))) ≡ latest k (olds ++ map f (range_with_len from (to - from)))
entered_skip {E} f k olds from to start is =
    elim (cases_order (to - from) k) [
      | inl same ↦ let e : start ≡ from = omega arith in ap (λ s. latest k (olds ++ map f (range_with_len s (to - s)))) e
      | inr (inl short) ↦ let e : start ≡ from = omega arith in ap (λ s. latest k (olds ++ map f (range_with_len s (to - s)))) e
      | inr (inr long) ↦
          let late = map f (range_with_len (to - k) k) in
          let early = map f (range_with_len from (to - from - k)) in
          let size : length late ≡ k = length-map-range_with_len f (to - k) k in
          let kept : (xs : List E) → latest k (xs ++ late) ≡ late = λ xs. ap (λ n. latest n (xs ++ late)) (sym size) ∙ latest-last xs late in
          let e : start ≡ to - k = omega arith in
          let rest : to - (to - k) ≡ k = omega arith in
          let whole : to - from ≡ to - from - k + k = omega arith in
          let there : from + (to - from - k) ≡ to - k = omega arith in
          ap (λ s. latest k (olds ++ map f (range_with_len s (to - s)))) e
          ∙ ap (λ n. latest k (olds ++ map f (range_with_len (to - k) n))) rest ∙ kept olds
          ∙ sym (ap (λ n. latest k (olds ++ map f (range_with_len from n))) whole
          ∙ ap (λ xs. latest k (olds ++ xs)) (split_images f from (to - from - k) k ∙ ap (λ a. early ++ map f (range_with_len a k)) there)
          ∙ ap (latest k) (sym (append_assoc olds early late)) ∙ kept (olds ++ early))
    ]

-- the last number that passes a test is known from those after it
pub filter_to_last : (p : ℕ → Bool) (from to last : ℕ) → from ≤ last → last < to → p last ≡ true → filter p (range_with_len (last + 1) (to - (last + 1))) ≡ []
    → filter p (range_with_len from (to - from)) ≡ filter p (range_with_len from (last - from)) ++ last ∷ []
filter_to_last p from to last le lt passes after =
    let rest = to - (last + 1) in
    let whole : to - from ≡ last - from + suc rest = omega arith in
    let there : from + (last - from) ≡ last = omega arith in
    let parts : range_with_len from (to - from) ≡ range_with_len from (last - from) ++ last ∷ range_with_len (last + 1) rest =
    ap (range_with_len from) whole ∙ range_split from (last - from) (suc rest)
    ∙ ap (λ a. range_with_len from (last - from) ++ range_with_len a (suc rest)) there in
    let tail : filter p (last ∷ range_with_len (last + 1) rest) ≡ last ∷ [] = rw passes (ap (λ xs. last ∷ xs) after) in
    ap (filter p) parts ∙ filter-append p (range_with_len from (last - from)) (last ∷ range_with_len (last + 1) rest)
    ∙ ap (λ xs. filter p (range_with_len from (last - from)) ++ xs) tail

pub filter_to_none : (p : ℕ → Bool) (from to last : ℕ) → last ≤ from → min from to ≤ last → filter p (range_with_len last (to - last)) ≡ [] → filter p (range_with_len from (to - from)) ≡ []
filter_to_none p from to last le low none =
    elim (cases_order last from) [
      | inl same ↦ ap (λ a. filter p (range_with_len a (to - a))) (sym same) ∙ none
      | inr (inl less) ↦ let empty : to - from ≡ 0 = omega arith in ap (λ n. filter p (range_with_len from n)) empty
      | inr (inr more) ↦ absurd (omega arith)
    ]

pub last_or_of_last : {E : Type 0} (g : ℕ → E) (before : E) (xs : List ℕ) (last : ℕ) → last_or before (map g (xs ++ last ∷ [])) ≡ g last
last_or_of_last g before xs last = ap (last_or before) (map-append g xs (last ∷ [])) ∙ last_or-append before (g last) (map g xs)

-- the months from the one after the old day's on are those passed
pub passed_range : (old new old_month new_month : ℕ) → IsMonthOf old old_month → IsMonthOf new new_month → old ≤ new → range_with_len (old_month + 1) (new_month + 1 - (old_month + 1)) ≡ months_passed old new
passed_range old new old_month new_month before after le =
    let count : new_month + 1 - (old_month + 1) ≡ new_month - old_month = omega arith in
    ap (range_with_len (old_month + 1)) count
    ∙ sym (months_passed_is old new old_month new_month (IsInMonth-of old old_month before) (IsInMonth-of new new_month after) le)
