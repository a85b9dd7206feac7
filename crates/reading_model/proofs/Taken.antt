-- How many bytes the parts of a data message take, and so how far its places are from its first byte.
use Rattle.std.proofs.Common.{◌≡◌, ℕ, zero, suc, ◌+◌, ◌-◌, ◌*◌, ◌≤◌, ◌==◌, Bool, true, false, if◌then◌else◌, List, [], ◌∷◌, ◌++◌, length, take, drop, Option, None, Some, Result, Ok, Err, refl, arith, length-drop, subst}
use Rattle.std.specs.Prelude.{codes, nat_le, nat_eq}
use Rattle.std.specs.List.{starts_with}
use Rattle.script_model.specs.Grammar.{◌>>=◌}
use Rattle.reading_model.specs.Rules.{byte}
use Rattle.reading_model.specs.Fields.{Shown, Message}
use Rattle.reading_model.specs.Messages.{behind, Form, is_mended, said_before, text_of, serial_form, number_form, day_form, same_form, number_size, decimals_of, Reader, serial_of, number_of, day_of, same_of, between, first_lines, energy_opening, volume_opening, entry_of, entries_of, marks_of, ends_with, check_before, lines_of}

-- from these bytes so many are taken, or a place is named among those and the one behind them
abbrev pub Takes : {A : Type 0} → (rest : A → List ℕ) → (least most : ℕ) → List ℕ → Result A ℕ → Type 0
Takes rest least most bytes (Ok x) = (length (rest x) + least ≤ length bytes) × (length bytes ≤ length (rest x) + most)
Takes rest least most bytes (Err left) = (left ≤ length bytes) × (length bytes ≤ left + most)

abbrev itself : List ℕ → List ℕ
itself rest = rest

abbrev second : {A : Type 0} → A × List ℕ → List ℕ
second x = x.1

takes_both : {A B : Type 0} (rest : A → List ℕ) (rest' : B → List ℕ) (a b c d : ℕ) (bytes : List ℕ) (said : Result A ℕ) (more : A → Result B ℕ) → Takes rest a b bytes said → ((x : A) → Takes rest' c d (rest x) (more x)) → Takes rest' (a + c) (b + d) bytes (said >>= more)
takes_both rest rest' a b c d bytes (Err left) more first behind = (first.0, omega (arith, first.1))
takes_both rest rest' a b c d bytes (Ok x) more first behind = takes_on rest' a b c d bytes (rest x) (more x) first.0 first.1 (behind x)
  where
    takes_on : {B : Type 0} (rest' : B → List ℕ) (a b c d : ℕ) (bytes inner : List ℕ) (said : Result B ℕ) → length inner + a ≤ length bytes → length bytes ≤ length inner + b → Takes rest' c d inner said → Takes rest' (a + c) (b + d) bytes said
    takes_on rest' a b c d bytes inner (Ok y) low high t = (omega (arith, t.0), omega (arith, t.1))
    takes_on rest' a b c d bytes inner (Err left) low high t = (omega (arith, t.0), omega (arith, t.1))

takes_more : {A : Type 0} (rest : A → List ℕ) (a b c d : ℕ) (bytes : List ℕ) (said : Result A ℕ) → c ≤ a → b ≤ d → Takes rest a b bytes said → Takes rest c d bytes said
takes_more rest a b c d bytes (Ok x) low high t = (omega (arith, t.0), omega (arith, t.1))
takes_more rest a b c d bytes (Err left) low high t = (t.0, omega (arith, t.1))

takes_if : {A : Type 0} (rest : A → List ℕ) (a b : ℕ) (bytes : List ℕ) (test : Bool) (said other : Result A ℕ) → Takes rest a b bytes said → Takes rest a b bytes other → Takes rest a b bytes (if test then said else other)
takes_if rest a b bytes true said other t u = t
takes_if rest a b bytes false said other t u = u

behind_takes : (fixed bytes : List ℕ) → Takes itself (length fixed) (length fixed) bytes (behind fixed bytes)
behind_takes [] bytes = (omega arith, omega arith)
behind_takes (f ∷ fs) [] = (omega arith, omega arith)
behind_takes (f ∷ fs) (b ∷ bs) =
    takes_if itself (length (f ∷ fs)) (length (f ∷ fs)) (b ∷ bs) (b == f) (behind fs bs) (Err (length (b ∷ bs)))
    (one_more (length fs) b bs (behind fs bs) (behind_takes fs bs))
    (omega arith, omega arith)
  where
    one_more : (n b : ℕ) (bs : List ℕ) (said : Result (List ℕ) ℕ) → Takes itself n n bs said → Takes itself (suc n) (suc n) (b ∷ bs) said
    one_more n b bs (Ok rest) t = (omega (arith, t.0), omega (arith, t.1))
    one_more n b bs (Err left) t = (omega (arith, t.0), omega (arith, t.1))

said_takes : {Said : Type 0} (said : Option Said) (size : ℕ) (bytes : List ℕ) → size ≤ length bytes → Takes second size size bytes (said_before said (drop size bytes) (length bytes))
said_takes None size bytes le = (omega arith, omega arith)
said_takes (Some x) size bytes le = (omega (arith, length-drop size bytes), omega (arith, length-drop size bytes))

text_takes : {Said : Type 0} (form : Form Said) (size : ℕ) (bytes : List ℕ) → Takes second size size bytes (text_of form size bytes)
unfolding text_of
text_takes form size bytes = sized (nat_le size (length bytes)) refl
  where
    sized : (test : Bool) → nat_le size (length bytes) ≡ test → Takes second size size bytes (if test then said_before (form.said (take size bytes)) (drop size bytes) (length bytes) else (if is_mended form bytes then Err 0 else Err (length bytes)))
    sized true le = said_takes (form.said (take size bytes)) size bytes (grind arith)
    sized false lt = takes_if second size size bytes (is_mended form bytes) (Err 0) (Err (length bytes)) (omega arith, grind arith) (omega arith, omega arith)

serial_takes : (bytes : List ℕ) → Takes second 8 10 bytes (serial_of bytes)
unfolding serial_of
serial_takes bytes = takes_more second 8 8 8 10 bytes _ (omega arith) (omega arith) (text_takes serial_form 8 bytes)

number_takes : (bytes : List ℕ) → Takes second 8 10 bytes (number_of bytes)
unfolding number_of number_size
number_takes bytes =
    takes_more second (number_size bytes) (number_size bytes) 8 10 bytes _ (eight (decimals_of bytes == 0)) (nine (decimals_of bytes == 0)) (text_takes number_form (number_size bytes) bytes)
  where
    eight : (b : Bool) → 8 ≤ (if b then 8 else 9)
    eight true = omega arith
    eight false = omega arith

    nine : (b : Bool) → (if b then 8 else 9) ≤ 10
    nine true = omega arith
    nine false = omega arith

day_takes : (bytes : List ℕ) → Takes second 8 10 bytes (day_of bytes)
unfolding day_of
day_takes bytes = takes_more second 10 10 8 10 bytes _ (omega arith) (omega arith) (text_takes day_form 10 bytes)

same_takes : (before bytes : List ℕ) → Takes second 8 10 bytes (same_of before bytes)
unfolding same_of
same_takes before bytes = takes_more second 10 10 8 10 bytes _ (omega arith) (omega arith) (text_takes (same_form before) 10 bytes)

-- between fixed bytes: so many and 8 to 10
between_takes : {Said : Type 0} (opening closing : List ℕ) (reader : Reader Said) → ((bytes : List ℕ) → Takes second 8 10 bytes (reader bytes)) → (bytes : List ℕ) → Takes second (length opening + (8 + (length closing + 0))) (length opening + (10 + (length closing + 0))) bytes (between opening reader closing bytes)
between_takes opening closing reader inner_takes bytes =
    takes_both itself second (length opening) (length opening) (8 + (length closing + 0)) (10 + (length closing + 0)) bytes (behind opening bytes) _ (behind_takes opening bytes)
    (λ inner. takes_both second second 8 10 (length closing + 0) (length closing + 0) inner (reader inner) _ (inner_takes inner)
    (λ x. takes_both itself second (length closing) (length closing) 0 0 x.1 (behind closing x.1) _ (behind_takes closing x.1)
    (λ rest. (omega arith, omega arith))))

-- so at least one byte and at most 40
field_takes : {Said : Type 0} (opening closing : List ℕ) (reader : Reader Said) → ((bytes : List ℕ) → Takes second 8 10 bytes (reader bytes)) → (bytes : List ℕ) → length opening ≤ 10 → length closing ≤ 10 → Takes second 1 30 bytes (between opening reader closing bytes)
field_takes opening closing reader inner_takes bytes short_opening short_closing =
    takes_more second _ _ 1 30 bytes _ (omega arith) (omega arith) (between_takes opening closing reader inner_takes bytes)

entry_takes : (mark : ℕ) (bytes : List ℕ) → Takes second 0 120 bytes (entry_of mark bytes)
unfolding entry_of
entry_takes mark bytes =
    takes_more second 4 120 0 120 bytes _ (omega arith) (omega arith)
    (takes_both second second 1 30 3 90 bytes (between (energy_opening mark) day_of (codes ")") bytes) _ (field_takes (energy_opening mark) (codes ")") day_of day_takes bytes (omega arith) (omega arith))
    (λ day. takes_both second second 1 30 2 60 day.1 (between (codes "(") number_of (codes "*kWh)\r\n") day.1) _ (field_takes (codes "(") (codes "*kWh)\r\n") number_of number_takes day.1 (omega arith) (omega arith))
    (λ energy. takes_both second second 1 30 1 30 energy.1 (between (volume_opening mark) (same_of day.0.1) (codes ")") energy.1) _ (field_takes (volume_opening mark) (codes ")") (same_of day.0.1) (same_takes day.0.1) energy.1 (omega arith) (omega arith))
    (λ same. takes_both second second 1 30 0 0 same.1 (between (codes "(") number_of (codes "*m3)\r\n") same.1) _ (field_takes (codes "(") (codes "*m3)\r\n") number_of number_takes same.1 (omega arith) (omega arith))
    (λ volume. (omega arith, omega arith))))))

entries_take : (n : ℕ) (bytes : List ℕ) → Takes second 0 (120 * n) bytes (entries_of n bytes)
entries_take zero bytes = (omega arith, omega arith)
entries_take (suc n) bytes =
    let total : 120 * suc n ≡ 120 + (120 * n + 0) = omega arith in
    takes_if second 0 (120 * suc n) bytes (byte bytes 0 == 33) (Ok ([], bytes)) _ (omega arith, omega arith)
    (takes_more second 0 (120 + (120 * n + 0)) 0 (120 * suc n) bytes _ (omega arith) (omega arith)
    (takes_both second second 0 120 0 (120 * n + 0) bytes (entry_of (25 - n) bytes) _ (entry_takes (25 - n) bytes)
    (λ first. takes_both second second 0 (120 * n) 0 0 first.1 (entries_of n first.1) _ (entries_take n first.1)
    (λ others. (omega arith, omega arith)))))

pub first_take : (bytes : List ℕ) → Takes second 4 120 bytes (first_lines bytes)
unfolding first_lines
first_take bytes =
    takes_both second second 1 30 3 90 bytes (between (2 ∷ codes "9.21(") serial_of (codes ")\r\n") bytes) _ (field_takes (2 ∷ codes "9.21(") (codes ")\r\n") serial_of serial_takes bytes (omega arith) (omega arith))
    (λ serial. takes_both second second 1 30 2 60 serial.1 (between (codes "6.8(") number_of (codes "*kWh)\r\n") serial.1) _ (field_takes (codes "6.8(") (codes "*kWh)\r\n") number_of number_takes serial.1 (omega arith) (omega arith))
    (λ energy. takes_both second second 1 30 1 30 energy.1 (between (codes "6.26(") number_of (codes "*m3)\r\n") energy.1) _ (field_takes (codes "6.26(") (codes "*m3)\r\n") number_of number_takes energy.1 (omega arith) (omega arith))
    (λ volume. takes_both second second 1 30 0 0 volume.1 (between (codes "9.36(") day_of (codes ")\r\n") volume.1) _ (field_takes (codes "9.36(") (codes ")\r\n") day_of day_takes volume.1 (omega arith) (omega arith))
    (λ day. (omega arith, omega arith)))))

pub all_entries_take : (bytes : List ℕ) → Takes second 0 3000 bytes (entries_of (marks_of bytes) bytes)
unfolding marks_of
all_entries_take bytes = few (starts_with nat_eq bytes (codes "6.8*01"))
  where
    few : (b : Bool) → Takes second 0 3000 bytes (entries_of (if b then 25 else 24) bytes)
    few true = entries_take 25 bytes
    few false = takes_more second 0 2880 0 3000 bytes (entries_of 24 bytes) (omega arith) (omega arith) (entries_take 24 bytes)

abbrev nothing : {A : Type 0} → A → List ℕ
nothing x = []

end_takes : (check : ℕ) (bytes : List ℕ) → Takes {A = Unit {0}} nothing 0 1 bytes (ends_with check bytes)
end_takes check [] = (omega arith, omega arith)
end_takes check (b ∷ []) = takes_if {A = Unit {0}} nothing 0 1 (b ∷ []) (b == check) (Ok tt) (Err 1) (omega arith, omega arith) (omega arith, omega arith)
end_takes check (b ∷ c ∷ cs) =
    let more : (length (c ∷ cs) == 0) ≡ false = grind arith in
    rw more (takes_if {A = Unit {0}} nothing 0 1 (b ∷ c ∷ cs) (b == check) (Err (length (c ∷ cs))) (Err (length (b ∷ c ∷ cs))) (omega arith, omega arith) (omega arith, omega arith))

lines_take : (bytes : List ℕ) → Takes {A = Message} nothing 0 3125 bytes (lines_of bytes)
unfolding lines_of
lines_take bytes =
    takes_more {A = Message} nothing 8 3125 0 3125 bytes _ (omega arith) (omega arith)
    (takes_both second nothing 4 120 4 3005 bytes (first_lines bytes) _ (first_take bytes)
    (λ first. takes_both second nothing 0 3000 4 5 first.1 (entries_of (marks_of first.1) first.1) _ (all_entries_take first.1)
    (λ entries. takes_both itself nothing 4 4 0 1 entries.1 (behind (codes "!\r\n" ++ 3 ∷ []) entries.1) _ (behind_takes (codes "!\r\n" ++ 3 ∷ []) entries.1)
    (λ rest. takes_both {A = Unit {0}} nothing nothing 0 1 0 0 rest (ends_with (check_before bytes (length rest)) rest) _ (end_takes (check_before bytes (length rest)) rest)
    (λ ended. (omega arith, omega arith))))))

-- the places that are named are among the bytes, and near the first
pub places_near : (bytes : List ℕ) (left : ℕ) → lines_of bytes ≡ Err left → (left ≤ length bytes) × (length bytes ≤ left + 3125)
places_near bytes left is = let P : Result Message ℕ → Type 0 = Takes {A = Message} nothing 0 3125 bytes in subst P is (lines_take bytes)

-- the bytes that are left behind the parts of a message
pub first_rest : (bytes : List ℕ) (x : Message × List ℕ) → first_lines bytes ≡ Ok x → length x.1 + 4 ≤ length bytes
first_rest bytes x is = let P : Result (Message × List ℕ) ℕ → Type 0 = Takes second 4 120 bytes in (subst P is (first_take bytes)).0

pub entries_rest : (bytes : List ℕ) (x : List Shown × List ℕ) → entries_of (marks_of bytes) bytes ≡ Ok x → length x.1 ≤ length bytes
entries_rest bytes x is = let P : Result (List Shown × List ℕ) ℕ → Type 0 = Takes second 0 3000 bytes in omega (arith, (subst P is (all_entries_take bytes)).0)

pub behind_rest : (fixed bytes rest : List ℕ) → behind fixed bytes ≡ Ok rest → length rest ≤ length bytes
behind_rest fixed bytes rest is = let P : Result (List ℕ) ℕ → Type 0 = Takes itself (length fixed) (length fixed) bytes in omega (arith, (subst P is (behind_takes fixed bytes)).0)
