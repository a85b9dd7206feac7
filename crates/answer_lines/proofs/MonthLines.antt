-- Lines one behind another, and the lines of the month entries.
use Rattle.std.proofs.Common.{◌≡◌, ℕ, ◌+◌, ◌<◌, ◌≤◌, List, [], ◌∷◌, ◌++◌, length, drop, get_or, codes, refl, sym, ◌∙◌, ap, subst}
use Rattle.std.proofs.lemmas.List.{append-nil, append_assoc, drop_more, map-append}
use Rattle.std.proofs.Math.ListN.{drop_of_length-le}
use Rattle.arrayvec.specs.ArrayString.{ArrayString}
use Rattle.billing_memory.specs.declared.entry.Entry.{Entry}
use Rattle.billing_memory.specs.Entries.{entry_view, entries_view}
use Rattle.show_model.specs.Lines.{AreMonthLines, IsEntryLine}
use Rattle.config_model.specs.Configuration.{Configuration}
use Rattle.answer_lines.specs.Texts.{bytes_of}

-- one more line
pub pushed : (xs ys : List ArrayString) (line : ArrayString) (texts : List (List ℕ)) (text : List ℕ) → ys ≡ xs ++ line ∷ [] → bytes_of xs ≡ texts → line.bytes ≡ text → bytes_of ys ≡ texts ++ text ∷ []
pushed xs ys line texts text is before here =
    ap bytes_of is ∙ map-append (λ (l : ArrayString). l.bytes) xs (line ∷ []) ∙ ap (λ l. l ++ line.bytes ∷ []) before ∙ ap (λ t. texts ++ t ∷ []) here

-- a text between two others, under its own name
pub joined : (line name text shown end : List ℕ) → line ≡ name ++ text ++ end → text ≡ shown → line ≡ name ++ shown ++ end
joined line name text shown end is same = is ∙ ap (λ t. name ++ t ++ end) same

-- the lines of the month entries up to one, with those of the entries after it, are the lines of all
pub month_more : (c : Configuration) (months : List Entry) (i : ℕ) (entry : Entry) (line : List ℕ) (shown rest : List (List ℕ)) → i < length months → entry ≡ get_or months i entry → IsEntryLine (codes "month") c (entry_view entry) line
    → ((others : List (List ℕ)) → AreMonthLines c (entries_view (drop i months)) others → AreMonthLines c (entries_view months) (shown ++ others))
    → AreMonthLines c (entries_view (drop (i + 1) months)) rest → AreMonthLines c (entries_view months) ((shown ++ line ∷ []) ++ rest)
month_more c months i entry line shown rest lt is text so_far after =
    let next : drop i months ≡ entry ∷ drop (i + 1) months = drop_more months i entry lt ∙ ap (λ e. e ∷ drop (i + 1) months) (sym is) in
    subst (AreMonthLines c (entries_view months)) (sym (append_assoc shown (line ∷ []) rest)) (so_far (line ∷ rest) (subst (λ es. AreMonthLines c (entries_view es) (line ∷ rest)) (sym next) (text, after)))

pub months_done : (c : Configuration) (months : List Entry) (i : ℕ) (shown : List (List ℕ)) → length months ≤ i
    → ((others : List (List ℕ)) → AreMonthLines c (entries_view (drop i months)) others → AreMonthLines c (entries_view months) (shown ++ others))
    → AreMonthLines c (entries_view months) shown
months_done c months i shown past so_far =
    subst (AreMonthLines c (entries_view months)) (append-nil shown) (so_far [] (subst (λ es. AreMonthLines c (entries_view es) []) (sym (drop_of_length-le months past)) refl))
