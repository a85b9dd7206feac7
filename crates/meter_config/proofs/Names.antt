-- The names of an object's members: an other one, if there is one, stands among the first fourteen.
use Rattle.std.proofs.Common.{◌≡◌, ℕ, suc, ◌+◌, ◌≤◌, Bool, true, false, not, cond, List, [], ◌∷◌, map, length, filter, Some, None, String, Global, Less, refl, sym, ap, ◌∙◌, arith, inl, inr, string_bytes, string_cmp, nat_cmp, bytes_eq}
use Rattle.std.specs.Prelude.{IfSome}
use Rattle.std.proofs.lemmas.Bool.{cases_Bool}
use Rattle.std.proofs.lemmas.Cmp.{nat_list_cmp_total, eq_by_cmp_equiv}
use Rattle.std.proofs.lemmas.Map.Text.{is_eq-slice_cmp}
use Rattle.std.proofs.lemmas.Map.Keys.{IsDistinct-from_sorted}
use Rattle.std.proofs.lemmas.Map.Made.{length-le_from_is_member}
use Rattle.std.proofs.lemmas.List.Kept.{IsStrictlySortedBy-filter}
use Rattle.std.proofs.lemmas.Slice.Eq.{bytes_eq-Decides}
use Rattle.std.specs.Cmp.Lexicographic.{slice_cmp}
use Rattle.std.specs.List.{AllByRecursion, list_any, prefix_len, position_or_len, position}
use Rattle.std.specs.List.Sorted.{IsStrictlySortedBy}
use Rattle.std.specs.Map.{keys_of}
use Rattle.std.specs.Ordering.{eq_by_cmp}
use Rattle.std.specs.Set.{is_member}
use Rattle.serde_json.proofs.Views.{Entry}
use Rattle.serde_json.specs.View.{members_view}
use Rattle.accept_model.specs.Keys.{keys, key_names}
use Rattle.accept_model.specs.Calibration.{names_of}
use Rattle.accept_model.specs.Accepted.{is_other, other_key}

abbrev same_name : List ℕ → List ℕ → Bool
same_name = eq_by_cmp (slice_cmp nat_cmp)

same_name-yes : (x y : List ℕ) → same_name x y ≡ true → x ≡ y
same_name-yes x y h = (bytes_eq-Decides x y).0 (sym (is_eq-slice_cmp x y) ∙ h)

yes-same_name : (x y : List ℕ) → x ≡ y → same_name x y ≡ true
yes-same_name x y e = is_eq-slice_cmp x y ∙ (bytes_eq-Decides x y).1 e

-- a name among those that pass a test passes it
passes_at : (p : List ℕ → Bool) (name q : List ℕ) (b : Bool) (more : List (List ℕ)) → p name ≡ b → (is_member same_name more q ≡ true → p q ≡ true)
    → is_member same_name (cond b (name ∷ more) more) q ≡ true → p q ≡ true
passes_at p name q false more e later h = later h
passes_at p name q true more e later h =
    elim (cases_Bool (same_name q name)) [
      | inl here ↦ ap p (same_name-yes q name here) ∙ e
      | inr not_here ↦ later (rw not_here at h)
    ]

passes : (p : List ℕ → Bool) (names : List (List ℕ)) (q : List ℕ) → is_member same_name (filter p names) q ≡ true → p q ≡ true
passes p [] q h = cc
passes p (name ∷ names) q h = passes_at p name q (p name) (filter p names) refl (passes p names q) h

-- the table has a name where one of its names has the same bytes
in_table : (table : List (List ℕ)) (q : List ℕ) → list_any (λ key. bytes_eq key q) table ≡ true → is_member same_name table q ≡ true
in_table [] q h = h
in_table (key ∷ table) q h =
    elim (cases_Bool (bytes_eq key q)) [
      | inl here ↦ rw (yes-same_name q key (sym ((bytes_eq-Decides key q).0 here))) refl
      | inr not_here ↦ grind (arith, in_table table q (rw not_here at h))
    ]

front-le : (p : List ℕ → Bool) (names : List (List ℕ)) → prefix_len p names ≤ length (filter p names)
front-le p [] = omega arith
front-le p (name ∷ names) =
    elim (cases_Bool (p name)) [
      | inl passed ↦ rw passed (omega (arith, front-le p names))
      | inr failed ↦ rw failed (omega arith)
    ]

not_not : (b : Bool) → not (not b) ≡ true → b ≡ true
not_not true h = refl
not_not false h = h

few_keys : (names : List (List ℕ)) → IsStrictlySortedBy (slice_cmp nat_cmp) names → length (filter (λ name. not (is_other name)) names) ≤ length key_names
few_keys names sorted =
    length-le_from_is_member (eq_by_cmp_equiv nat_list_cmp_total) (filter (λ name. not (is_other name)) names) key_names
    (IsDistinct-from_sorted (slice_cmp nat_cmp) _ (IsStrictlySortedBy-filter (slice_cmp nat_cmp) (λ name. not (is_other name)) names sorted))
    (λ q h. in_table key_names q (not_not _ (passes (λ name. not (is_other name)) names q h)))

thirteen : length key_names ≡ 13
unfolding keys key_names
thirteen = refl

few_at : (b : Bool) (n : ℕ) → n ≤ 13 → IfSome (cond b (Some n) None) (λ place. place ≤ 13)
few_at true n h = h
few_at false n h = tt

few : (names : List (List ℕ)) → IsStrictlySortedBy (slice_cmp nat_cmp) names → IfSome (position is_other names) (λ place. place ≤ 13)
few names sorted = few_at _ (position_or_len is_other names) (omega (arith, front-le (λ name. not (is_other name)) names, few_keys names sorted, thirteen))

-- a map's keys as names
above : (key : String Global) (more : List (String Global)) → AllByRecursion (λ k. string_cmp key k ≡ Less) more → AllByRecursion (λ name. slice_cmp nat_cmp (string_bytes key) name ≡ Less) (map string_bytes more)
above key [] h = h
above key (k ∷ more) h = (h.0, above key more h.1)

sorted_names : (ks : List (String Global)) → IsStrictlySortedBy string_cmp ks → IsStrictlySortedBy (slice_cmp nat_cmp) (map string_bytes ks)
unfolding IsStrictlySortedBy
sorted_names [] h = h
sorted_names (k ∷ ks) h = (above k ks h.0, sorted_names ks h.1)

names_of-view : (es : List Entry) → names_of (members_view es) ≡ map string_bytes (keys_of es)
names_of-view [] = refl
names_of-view (e ∷ es) = ap (λ names. string_bytes e.0 ∷ names) (names_of-view es)

position_or_len-names : (p : List ℕ → Bool) (ks : List (String Global)) → position_or_len p (map string_bytes ks) ≡ position_or_len (λ k. p (string_bytes k)) ks
position_or_len-names p [] = refl
position_or_len-names p (k ∷ ks) = ap (λ n. cond (not (p (string_bytes k))) (1 + n) 0) (position_or_len-names p ks)

length-names : (ks : List (String Global)) → length (map string_bytes ks) ≡ length ks
length-names [] = refl
length-names (k ∷ ks) = ap suc (length-names ks)

pub length-view : (es : List Entry) → length (names_of (members_view es)) ≡ length es
length-view [] = refl
length-view (e ∷ es) = ap suc (length-view es)

-- the place of the first other key, by the map's keys
pub other_key-view : (es : List Entry) → other_key (members_view es) ≡ position (λ k. is_other (string_bytes k)) (keys_of es)
other_key-view es = rw (names_of-view es, position_or_len-names is_other (keys_of es), length-names (keys_of es)) refl

pub few-view : (es : List Entry) → IsStrictlySortedBy string_cmp (keys_of es) → IfSome (other_key (members_view es)) (λ place. place ≤ 13)
few-view es sorted = rw (names_of-view es) (few _ (sorted_names (keys_of es) sorted))
