-- Month entries, the newest first.
use Rattle.std.proofs.Common.{◌≡◌, ◌∙◌, ℕ, zero, suc, ◌+◌, ◌-◌, ◌≤◌, ◌⊎◌, inl, inr, List, [], ◌∷◌, ◌++◌, length, reverse, take, drop, refl, sym, ap, subst, arith, append_assoc, append-nil}
use Rattle.std.proofs.lemmas.List.{length-map, length-take, length-drop, length-reverse, reverse-append, take_all, take-append-drop, map-append}
use Rattle.std.proofs.Math.Seq.{take-append_seam, drop-append_seam}
use Rattle.config_model.specs.Configuration.{Configuration}
use Rattle.telegram_model.specs.Telegram.{entry_records, records_from}
use Rattle.billing_memory.specs.Entries.{entry_view, entries_view}
use Rattle.billing_memory.specs.declared.entry.Entry.{Entry}

-- a record that keeps at most 24 entries has all of them in its telegrams
pub newest-all : (es : List Entry) → length es ≤ 24 → take 24 (reverse (entries_view es)) ≡ reverse (entries_view es)
newest-all es few = take_all 24 (reverse (entries_view es)) (omega (arith, length-reverse (entries_view es), length-map es entry_view))

pub length-newest : (es : List Entry) → length es ≤ 24 → length (take 24 (reverse (entries_view es))) ≡ length es
length-newest es few = ap length (newest-all es few) ∙ length-reverse (entries_view es) ∙ length-map es entry_view

module _ {A : Type 0} where
  -- what stands behind the first n, up to so many, where the rest is short
  behind : (n m : ℕ) (newer kept older : List A) → length newer ≡ n → length kept ≤ m → (older ≡ []) ⊎ (length kept ≡ m) → take m (drop n (newer ++ (kept ++ older))) ≡ kept
  behind n m newer kept older first few (inl none) =
      rw (sym first, drop-append_seam newer (kept ++ older), none, append-nil kept) (take_all m kept few)
  behind n m newer kept older first few (inr all) =
      rw (sym first, drop-append_seam newer (kept ++ older), sym all) (take-append_seam kept older)

  -- either nothing is older, or eight are kept
  short_or_full : (xs : List A) (end start : ℕ) → start ≡ end - 8 → (take start xs ≡ []) ⊎ (end - start ≡ 8)
  short_or_full xs end zero at = inl refl
  short_or_full xs end (suc k) at = inr (omega arith)

  turned : (kept older : List A) → length kept ≤ 8 → (older ≡ []) ⊎ (length kept ≡ 8) → (reverse older ≡ []) ⊎ (length (reverse kept) ≡ 8)
  turned kept older few (inl none) = inl (ap reverse none)
  turned kept older few (inr all) = inr (length-reverse kept ∙ all)

  -- eight at most from the end of a list, behind the last n
  pub entries-behind : (xs : List A) (n start : ℕ) → n ≤ length xs → start ≡ length xs - n - 8 → reverse (take (length xs - n - start) (drop start xs)) ≡ take 8 (drop n (reverse xs))
  entries-behind xs n start fits at =
      let end = length xs - n in
      let older = take start xs in
      let kept = take (end - start) (drop start xs) in
      let newer = drop (end - start) (drop start xs) in
      let size : length kept ≡ end - start = omega (arith, length-take (end - start) (drop start xs), length-drop start xs) in
      let few : length kept ≤ 8 = omega arith in
      let first : length (reverse newer) ≡ n = length-reverse newer ∙ omega (arith, length-drop (end - start) (drop start xs), length-drop start xs) in
      let whole : older ++ (kept ++ newer) ≡ xs = ap (λ l. older ++ l) (take-append-drop (end - start) (drop start xs)) ∙ take-append-drop start xs in
      let around : reverse xs ≡ reverse newer ++ (reverse kept ++ reverse older) =
      ap reverse (sym whole) ∙ reverse-append older (kept ++ newer) ∙ ap (λ l. l ++ reverse older) (reverse-append kept newer) ∙ append_assoc (reverse newer) (reverse kept) (reverse older) in
      let sides : (older ≡ []) ⊎ (length kept ≡ 8) = elim (short_or_full xs end start at) [ inl none ↦ inl none | inr full ↦ inr (size ∙ full) ] in
      sym (ap (λ l. take 8 (drop n l)) around ∙ behind n 8 (reverse newer) (reverse kept) (reverse older) first (omega (arith, length-reverse kept)) (turned kept older few sides))

pub reverse-view : (es : List Entry) → reverse (entries_view es) ≡ entries_view (reverse es)
reverse-view [] = refl
reverse-view (e ∷ es) =
    reverse-append (entry_view e ∷ []) (entries_view es) ∙ ap (λ l. l ++ entry_view e ∷ []) (reverse-view es)
    ∙ sym (map-append entry_view (reverse es) (e ∷ [])) ∙ ap entries_view (sym (reverse-append (e ∷ []) es))

-- one entry more
pub one_more : (c : Configuration) (left rest : List Entry) (e : Entry) (storage : ℕ) (now next all : List ℕ) → left ≡ rest ++ e ∷ [] → now ++ records_from c storage (reverse (entries_view left)) ≡ all → next ≡ now ++ entry_records c storage (entry_view e) → next ++ records_from c (storage + 1) (reverse (entries_view rest)) ≡ all
one_more c left rest e storage now next all split before is =
    let turned : reverse (entries_view left) ≡ entry_view e ∷ reverse (entries_view rest) = ap (λ l. reverse (entries_view l)) split ∙ ap reverse (map-append entry_view rest (e ∷ [])) ∙ reverse-append (entries_view rest) (entry_view e ∷ []) in
    let joined : now ++ (entry_records c storage (entry_view e) ++ records_from c (storage + 1) (reverse (entries_view rest))) ≡ all = subst (λ l. now ++ records_from c storage l ≡ all) turned before in
    ap (λ l. l ++ records_from c (storage + 1) (reverse (entries_view rest))) is ∙ append_assoc now (entry_records c storage (entry_view e)) (records_from c (storage + 1) (reverse (entries_view rest))) ∙ joined
