-- Places are among the bytes: at most as many are left as there were.
use Rattle.std.proofs.Common.{◌≡◌, ℕ, zero, suc, ◌+◌, ◌-◌, ◌≤◌, Bool, true, false, if◌then◌else◌, List, [], ◌∷◌, length, drop, Option, None, Some, Result, Ok, Err, arith, length-drop, subst, ◌%◌, ◌==◌}
use Rattle.std.specs.Prelude.{IfErr}
use Rattle.script_model.specs.Grammar.{◌>>=◌}
use Rattle.reading_model.specs.Rules.{byte}
use Rattle.reading_model.specs.Fields.{Kind, Reading}
use Rattle.reading_model.specs.Records.{Coding, Integer16, Integer32, Decimal8, said_at, fitting_coding, extension, is_extended, information_size, quantity, is_decimal, decimal_in, date_of, is_date, value_in, record_in, record_size, is_mark, records_in}

abbrev pub Within : {A : Type 0} → ℕ → Result A ℕ → Type 0
Within n said = IfErr said (λ left. left ≤ n)

within_both : {A B : Type 0} (n : ℕ) (said : Result A ℕ) (more : A → Result B ℕ) → Within n said → ((x : A) → Within n (more x)) → Within n (said >>= more)
within_both n (Ok x) more first behind = behind x
within_both n (Err left) more first behind = first

within_if : {A : Type 0} (n : ℕ) (b : Bool) (said other : Result A ℕ) → Within n said → Within n other → Within n (if b then said else other)
within_if n true said other first second = first
within_if n false said other first second = second

wider : {A : Type 0} (n m : ℕ) (said : Result A ℕ) → n ≤ m → Within n said → Within m said
wider n m (Ok x) le within = tt
wider n m (Err left) le within = omega arith

within_said : {A : Type 0} (said : Option A) (k : ℕ) (bytes : List ℕ) → Within (length bytes) (said_at said (drop k bytes))
within_said None k bytes = omega (arith, length-drop k bytes)
within_said (Some x) k bytes = tt

within_decimal : (n : ℕ) (bytes : List ℕ) → Within (length bytes) (decimal_in n bytes)
within_decimal zero bytes = tt
within_decimal (suc n) [] = omega arith
within_decimal (suc n) (b ∷ bs) =
    within_if (length (b ∷ bs)) (is_decimal b) _ (Err (length (b ∷ bs)))
    (within_both (length (b ∷ bs)) (decimal_in n bs) _ (wider (length bs) (length (b ∷ bs)) (decimal_in n bs) (omega arith) (within_decimal n bs)) (λ higher. tt))
    (omega arith)

within_value : (kind : Kind) (coding : Coding) (bytes : List ℕ) → Within (length bytes) (value_in kind coding bytes)
within_value kind Integer16 bytes =
    within_if (length bytes) (is_date kind) _ _
    (within_both (length bytes) (said_at (date_of (byte bytes 0) (byte bytes 1)) bytes) _ (within_said (date_of (byte bytes 0) (byte bytes 1)) 0 bytes) (λ day. tt))
    tt
within_value kind Integer32 bytes = tt
within_value kind Decimal8 bytes = within_both (length bytes) (decimal_in 4 bytes) _ (within_decimal 4 bytes) (λ number. tt)

within_record : (bytes : List ℕ) → Within (length bytes) (record_in bytes)
unfolding record_in
within_record bytes =
    let n = length bytes in
    let unit = information_size (byte bytes 0) in
    within_both n (said_at (fitting_coding bytes) bytes) _ (within_said (fitting_coding bytes) 0 bytes)
    (λ coding. within_both n (said_at (extension bytes) (drop 1 bytes)) _ (within_said (extension bytes) 1 bytes)
    (λ dife. within_both n (said_at (quantity coding (byte bytes unit)) (drop unit bytes)) _ (within_said (quantity coding (byte bytes unit)) unit bytes)
    (λ q. within_both n (value_in q.0 coding (drop (unit + 1) bytes)) _ (wider (length (drop (unit + 1) bytes)) n _ (omega (arith, length-drop (unit + 1) bytes)) (within_value q.0 coding (drop (unit + 1) bytes)))
    (λ value. tt))))

pub within_records : (behind : ℕ) (bytes : List ℕ) → Within (length bytes) (records_in behind bytes)
within_records zero [] = tt
within_records (suc k) [] = tt
within_records (suc k) (b ∷ bs) = wider (length bs) (length (b ∷ bs)) (records_in k bs) (omega arith) (within_records k bs)
within_records zero (b ∷ bs) =
    let n = length (b ∷ bs) in
    within_if n (is_mark (b ∷ bs)) (Ok ([], true)) _ tt
    (within_both n (record_in (b ∷ bs)) _ (within_record (b ∷ bs))
    (λ first. within_both n (records_in (record_size b - 1) bs) _ (wider (length bs) n _ (omega arith) (within_records (record_size b - 1) bs)) (λ others. tt)))

-- so where records break a rule, that is at one of their bytes or behind the last
pub left_among : (bytes : List ℕ) (left : ℕ) → records_in 0 bytes ≡ Err left → left ≤ length bytes
left_among bytes left is = let P : Result (List Reading × Bool) ℕ → Type 0 = Within (length bytes) in subst P is (within_records 0 bytes)

-- a record has four bytes at least
sized : (extended short : Bool) → 4 ≤ (if extended then 2 else 1) + 1 + (if short then 2 else 4)
sized true true = omega arith
sized true false = omega arith
sized false true = omega arith
sized false false = omega arith

pub record_size-least : (dif : ℕ) → 4 ≤ record_size dif
record_size-least dif = sized (is_extended dif) (dif % 16 == 2)
