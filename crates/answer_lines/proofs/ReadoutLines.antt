-- The lines of records, and of entries, one behind another.
use Rattle.std.proofs.Common.{◌≡◌, ◌∙◌, ℕ, ◌+◌, ◌≤◌, ◌<◌, List, [], ◌∷◌, ◌++◌, length, append-nil, drop, get_or, refl, sym, ap, subst}
use Rattle.std.specs.List.{All}
use Rattle.std.proofs.lemmas.List.{append_assoc, drop_more, get_or-map, length-map}
use Rattle.std.proofs.lemmas.List.Elements.{All-get_or}
use Rattle.std.proofs.Math.ListN.{drop_of_length-le}
use Rattle.answer_lines.specs.ReadLines.{IsDated}
use Rattle.readout_reader.specs.Views.{rec_view, recs_view, shown_list, shown_view}
use Rattle.readout_reader.specs.declared.mbus_fields.Rec.{Rec}
use Rattle.readout_reader.specs.declared.optical_fields.Shown.{Shown}
use Rattle.answer_lines.specs.ReadLines.{AreRecordLines, AreShownLines, IsLineOf, IsShowable, IsShownLine}

-- ---- the lines of records

pub dated_at : (records : List Rec) (i : ℕ) (d : Rec) → i < length records → All IsDated (recs_view records) → IsDated (rec_view (get_or records i d))
dated_at records i d lt all =
    let there : i < length (recs_view records) = subst (λ n. i < n) (sym (length-map records rec_view)) lt in
    subst IsDated (get_or-map rec_view records i d (rec_view d) lt) (All-get_or IsDated (recs_view records) i (rec_view d) there all)

-- the lines of the records up to one, with those of the records after it, are the lines of all
pub record_more : (records : List Rec) (i : ℕ) (d : Rec) (line : List ℕ) (shown rest : List (List ℕ)) → i < length records → IsLineOf (rec_view (get_or records i d)).kind (rec_view (get_or records i d)) line
    → ((others : List (List ℕ)) → AreRecordLines (recs_view (drop i records)) others → AreRecordLines (recs_view records) (shown ++ others))
    → AreRecordLines (recs_view (drop (i + 1) records)) rest → AreRecordLines (recs_view records) ((shown ++ line ∷ []) ++ rest)
record_more records i d line shown rest lt text so_far after =
    let next : drop i records ≡ get_or records i d ∷ drop (i + 1) records = drop_more records i d lt in
    subst (AreRecordLines (recs_view records)) (sym (append_assoc shown (line ∷ []) rest)) (so_far (line ∷ rest) (subst (λ rs. AreRecordLines (recs_view rs) (line ∷ rest)) (sym next) (text, after)))

pub records_done : (records : List Rec) (i : ℕ) (shown : List (List ℕ)) → length records ≤ i
    → ((others : List (List ℕ)) → AreRecordLines (recs_view (drop i records)) others → AreRecordLines (recs_view records) (shown ++ others))
    → AreRecordLines (recs_view records) shown
records_done records i shown past so_far =
    subst (AreRecordLines (recs_view records)) (append-nil shown) (so_far [] (subst (λ rs. AreRecordLines (recs_view rs) []) (sym (drop_of_length-le records past)) refl))

-- ---- the lines of entries

pub showable_at : (entries : List Shown) (i : ℕ) (entry : Shown) → i < length entries → entry ≡ get_or entries i entry → All IsShowable (shown_list entries) → IsShowable (shown_view entry)
showable_at entries i entry lt is all =
    let there : i < length (shown_list entries) = subst (λ n. i < n) (sym (length-map entries shown_view)) lt in
    let at : get_or (shown_list entries) i (shown_view entry) ≡ shown_view entry = get_or-map shown_view entries i entry (shown_view entry) lt ∙ ap shown_view (sym is) in
    subst IsShowable at (All-get_or IsShowable (shown_list entries) i (shown_view entry) there all)

-- the lines of the entries up to one, with those of the entries after it, are the lines of all
pub entry_more : (entries : List Shown) (i : ℕ) (entry : Shown) (line : List ℕ) (shown rest : List (List ℕ)) → i < length entries → entry ≡ get_or entries i entry → IsShownLine (shown_view entry) line
    → ((others : List (List ℕ)) → AreShownLines (shown_list (drop i entries)) others → AreShownLines (shown_list entries) (shown ++ others))
    → AreShownLines (shown_list (drop (i + 1) entries)) rest → AreShownLines (shown_list entries) ((shown ++ line ∷ []) ++ rest)
entry_more entries i entry line shown rest lt is text so_far after =
    let next : drop i entries ≡ entry ∷ drop (i + 1) entries = drop_more entries i entry lt ∙ ap (λ e. e ∷ drop (i + 1) entries) (sym is) in
    subst (AreShownLines (shown_list entries)) (sym (append_assoc shown (line ∷ []) rest)) (so_far (line ∷ rest) (subst (λ es. AreShownLines (shown_list es) (line ∷ rest)) (sym next) (text, after)))

pub entries_done : (entries : List Shown) (i : ℕ) (shown : List (List ℕ)) → length entries ≤ i
    → ((others : List (List ℕ)) → AreShownLines (shown_list (drop i entries)) others → AreShownLines (shown_list entries) (shown ++ others))
    → AreShownLines (shown_list entries) shown
entries_done entries i shown past so_far =
    subst (AreShownLines (shown_list entries)) (append-nil shown) (so_far [] (subst (λ es. AreShownLines (shown_list es) []) (sym (drop_of_length-le entries past)) refl))
