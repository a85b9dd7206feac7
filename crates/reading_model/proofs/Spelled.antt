-- Records as a telegram spells them are read as what they were written from.
use Rattle.std.proofs.Common.{◌≡◌, ◌∙◌, ℕ, zero, suc, ◌+◌, ◌-◌, ◌*◌, ◌/◌, ◌%◌, ◌<◌, ◌≤◌, ◌==◌, inl, inr, Bool, true, false, if◌then◌else◌, List, [], ◌∷◌, ◌++◌, length, drop, None, Some, Result, Ok, Err, refl, sym, ap, subst, append_assoc, eq-eqb, length-append, arith}
use Rattle.std.specs.Prelude.{ℤ, pos, nat_le, nat_lt}
use Rattle.std.proofs.Math.Seq.{drop-append_seam}
use Rattle.std.proofs.lemmas.Bool.{le-leb, cases_order}
use Rattle.script_model.specs.Grammar.{◌>>=◌}
use Rattle.std.specs.Int.{w32, from_le_bytes, to_le_bytes, cast_signed, cast_unsigned}
use Rattle.std.specs.Prelude.{FitsSigned}
use Rattle.telegram_model.specs.Values.{information, decimal_bytes, integer_bytes, type_g, date_bytes}
use Rattle.telegram_model.proofs.Dates.{date_bytes-date}
use Rattle.calendar_model.specs.Calendar.{IsCenturyDate, IsDay}
use Rattle.script_model.specs.Dates.{is_century_date}
use Rattle.jiff_core.proofs.CalendarLemmas.{days_in_month_bounds}
use Rattle.std.proofs.lemmas.Nat.{from_le_bytes-to_le_bytes_4}
use Rattle.std.proofs.lemmas.Int.{to_z-of_z}
use Rattle.std.proofs.Math.Facts.{Fits-of_z}
use Rattle.reading_model.proofs.EachDay.{each_day}
use Rattle.reading_model.specs.Rules.{byte}
use Rattle.reading_model.specs.Fields.{Kind, Date, Reading}
use Rattle.reading_model.specs.Records.{Coding, Integer16, Integer32, Decimal8, is_extended, information_coding, is_decimal, information_size, record_size, fitting_coding, extension, storage_of, quantity, value_in, record_in, is_mark, onto, records_in}

-- readings that were read before, and what is read behind them
abbrev pub in_front : List Reading → Result (List Reading × Bool) ℕ → Result (List Reading × Bool) ℕ
in_front done said = said >>= λ others. Ok (done ++ others.0, others.1)

-- these bytes are read as these readings, whatever follows
abbrev pub AreRead : List ℕ → List Reading → Type 0
AreRead bytes readings = (rest : List ℕ) → records_in 0 (bytes ++ rest) ≡ in_front readings (records_in 0 rest)

in_front-none : (said : Result (List Reading × Bool) ℕ) → said ≡ in_front [] said
in_front-none (Ok x) = refl
in_front-none (Err left) = refl

in_front-both : (rs ss : List Reading) (said : Result (List Reading × Bool) ℕ) → in_front rs (in_front ss said) ≡ in_front (rs ++ ss) said
in_front-both rs ss (Ok x) = ap (λ (l : List Reading). Ok (l, x.1)) (sym (append_assoc rs ss x.0))
in_front-both rs ss (Err left) = refl

in_front-one : (r : Reading) (said : Result (List Reading × Bool) ℕ) → (said >>= λ others. onto r others) ≡ in_front (r ∷ []) said
in_front-one r (Ok x) = refl
in_front-one r (Err left) = refl

pub none_read : AreRead [] []
none_read rest = in_front-none (records_in 0 rest)

pub both_read : (xs ys : List ℕ) (rs ss : List Reading) → AreRead xs rs → AreRead ys ss → AreRead (xs ++ ys) (rs ++ ss)
both_read xs ys rs ss first second rest =
    ap (records_in 0) (append_assoc xs ys rest) ∙ first (ys ++ rest) ∙ ap (in_front rs) (second rest) ∙ in_front-both rs ss (records_in 0 rest)

pub records_in-behind : (k : ℕ) (bytes : List ℕ) → records_in k bytes ≡ records_in 0 (drop k bytes)
records_in-behind zero [] = refl
records_in-behind (suc k) [] = refl
records_in-behind zero (b ∷ bs) = refl
records_in-behind (suc k) (b ∷ bs) = records_in-behind k bs

abbrev pub reading_of : ℕ → Kind × ℤ → ℤ → Reading
reading_of storage q value = record { storage = storage; kind = q.0; value = value; exp = q.1 }

-- a record, field by field
record_from : (bytes : List ℕ) (coding : Coding) (dife unit : ℕ) (q : Kind × ℤ) (value : ℤ) → fitting_coding bytes ≡ Some coding → extension bytes ≡ Some dife → information_size (byte bytes 0) ≡ unit → quantity coding (byte bytes unit) ≡ Some q → value_in q.0 coding (drop (unit + 1) bytes) ≡ Ok value
    → record_in bytes ≡ Ok (reading_of (storage_of (byte bytes 0) dife) q value)
unfolding record_in
record_from bytes coding dife unit q value coded extended sized quantified said = rw (coded, extended, sized, quantified, said) refl

-- a first information field: whether a second follows, the coding, the bytes of the data, and the lowest bit of the storage number
pub record IsField (dif : ℕ) (extended : Bool) (coding : Coding) (size bit : ℕ) : Type 0 where
  pub follows : is_extended dif ≡ extended
  pub coded : information_coding dif ≡ Some coding
  pub sized : record_size dif ≡ size + (if extended then 3 else 2)
  pub lowest : dif / 64 % 2 ≡ bit

one_record : (b : ℕ) (bs rest : List ℕ) (first : Reading) → is_mark (b ∷ bs) ≡ false → record_in (b ∷ bs) ≡ Ok first → drop (record_size b - 1) bs ≡ rest → records_in 0 (b ∷ bs) ≡ in_front (first ∷ []) (records_in 0 rest)
one_record b bs rest first unmarked said behind =
    let next : records_in (record_size b - 1) bs ≡ records_in 0 rest = records_in-behind (record_size b - 1) bs ∙ ap (records_in 0) behind in
    rw (unmarked, said, next) (in_front-one first (records_in 0 rest))

-- a record with one information field
pub plain_read : (dif vif bit : ℕ) (value_bytes : List ℕ) (coding : Coding) (q : Kind × ℤ) (value : ℤ) → IsField dif false coding (length value_bytes) bit → quantity coding vif ≡ Some q → ((rest : List ℕ) → value_in q.0 coding (value_bytes ++ rest) ≡ Ok value) → AreRead (dif ∷ vif ∷ value_bytes) (reading_of (bit + 2 * 0) q value ∷ [])
plain_read dif vif bit value_bytes coding q value field quantified said rest =
    let bytes : List ℕ = dif ∷ vif ∷ (value_bytes ++ rest) in
    let fits : nat_le (record_size dif) (length bytes) ≡ true = le-leb _ _ (omega (arith, field.sized, length-append value_bytes rest)) in
    let coded : fitting_coding bytes ≡ Some coding = ap (λ b. if b then information_coding dif else None) fits ∙ field.coded in
    let extended : extension bytes ≡ Some 0 = ap (λ b. if b then (if nat_lt vif 16 then Some vif else None) else Some 0) field.follows in
    let sized : information_size dif ≡ 1 = ap (λ b. if b then 2 else 1) field.follows in
    let size : record_size dif - 1 ≡ suc (length value_bytes) = omega (arith, field.sized) in
    one_record dif (vif ∷ (value_bytes ++ rest)) rest (reading_of (bit + 2 * 0) q value) refl
    (record_from bytes coding 0 1 q value coded extended sized quantified (said rest) ∙ ap (λ n. Ok (reading_of (n + 2 * 0) q value)) field.lowest)
    (ap (λ n. drop n (vif ∷ (value_bytes ++ rest))) size ∙ drop-append_seam value_bytes rest)

below : (n : ℕ) → n < 16 → nat_lt n 16 ≡ true
below n lt = grind arith

-- a record with two
pub extended_read : (dif dife vif bit : ℕ) (value_bytes : List ℕ) (coding : Coding) (q : Kind × ℤ) (value : ℤ) → dife < 16 → IsField dif true coding (length value_bytes) bit → quantity coding vif ≡ Some q → ((rest : List ℕ) → value_in q.0 coding (value_bytes ++ rest) ≡ Ok value)
    → AreRead (dif ∷ dife ∷ vif ∷ value_bytes) (reading_of (bit + 2 * dife) q value ∷ [])
extended_read dif dife vif bit value_bytes coding q value last field quantified said rest =
    let bytes : List ℕ = dif ∷ dife ∷ vif ∷ (value_bytes ++ rest) in
    let fits : nat_le (record_size dif) (length bytes) ≡ true = le-leb _ _ (omega (arith, field.sized, length-append value_bytes rest)) in
    let coded : fitting_coding bytes ≡ Some coding = ap (λ b. if b then information_coding dif else None) fits ∙ field.coded in
    let small : nat_lt dife 16 ≡ true = below dife last in
    let extended : extension bytes ≡ Some dife =
    ap (λ b. if b then (if nat_lt dife 16 then Some dife else None) else Some 0) field.follows ∙ ap (λ b. if b then Some dife else None) small in
    let sized : information_size dif ≡ 2 = ap (λ b. if b then 2 else 1) field.follows in
    let size : record_size dif - 1 ≡ suc (suc (length value_bytes)) = omega (arith, field.sized) in
    one_record dif (dife ∷ vif ∷ (value_bytes ++ rest)) rest (reading_of (bit + 2 * dife) q value) refl
    (record_from bytes coding dife 2 q value coded extended sized quantified (said rest) ∙ ap (λ n. Ok (reading_of (n + 2 * dife) q value)) field.lowest)
    (ap (λ n. drop n (dife ∷ vif ∷ (value_bytes ++ rest))) size ∙ drop-append_seam value_bytes rest)

-- the first information fields of a kind
pub record AreFields (kind : ℕ) (coding : Coding) (size : ℕ) : Type 0 where
  pub plain : (bit : ℕ) → bit < 2 → IsField (kind + 64 * bit) false coding size bit
  pub extended : (bit : ℕ) → bit < 2 → IsField (kind + 128 + 64 * bit) true coding size bit

one_field : (kind storage : ℕ) → storage < 2 → information kind storage ≡ (kind + 64 * storage) ∷ []
one_field kind storage lt =
    let none : (storage / 2 == 0) ≡ true = eq-eqb (storage / 2) 0 (omega arith) in
    rw none refl

two_fields : (kind storage : ℕ) → 2 ≤ storage → information kind storage ≡ (kind + 128 + 64 * (storage % 2)) ∷ storage / 2 ∷ []
two_fields kind storage le =
    let some : (storage / 2 == 0) ≡ false = not_zero (storage / 2) (omega arith) in
    rw some refl
  where
    not_zero : (n : ℕ) → 1 ≤ n → (n == 0) ≡ false
    not_zero n le = grind arith

-- a record of a kind and a storage number
pub spelled_read : (kind storage vif : ℕ) (value_bytes : List ℕ) (coding : Coding) (q : Kind × ℤ) (value : ℤ) → storage < 32 → AreFields kind coding (length value_bytes) → quantity coding vif ≡ Some q → ((rest : List ℕ) → value_in q.0 coding (value_bytes ++ rest) ≡ Ok value)
    → AreRead (information kind storage ++ vif ∷ value_bytes) (reading_of storage q value ∷ [])
spelled_read kind storage vif value_bytes coding q value low fields quantified said =
    let one : storage < 2 → AreRead (information kind storage ++ vif ∷ value_bytes) (reading_of storage q value ∷ []) = λ lt.
    let number : storage + 2 * 0 ≡ storage = omega arith in
    let P : List ℕ → Type 0 = λ l. AreRead (l ++ vif ∷ value_bytes) (reading_of storage q value ∷ []) in
    let Q : ℕ → Type 0 = λ n. AreRead ((kind + 64 * storage) ∷ vif ∷ value_bytes) (reading_of n q value ∷ []) in
    subst P (sym (one_field kind storage lt)) (subst Q number (plain_read (kind + 64 * storage) vif storage value_bytes coding q value (fields.plain storage lt) quantified said)) in
    let two : 2 ≤ storage → AreRead (information kind storage ++ vif ∷ value_bytes) (reading_of storage q value ∷ []) = λ le.
    let number : storage % 2 + 2 * (storage / 2) ≡ storage = omega arith in
    let P : List ℕ → Type 0 = λ l. AreRead (l ++ vif ∷ value_bytes) (reading_of storage q value ∷ []) in
    let Q : ℕ → Type 0 = λ n. AreRead ((kind + 128 + 64 * (storage % 2)) ∷ storage / 2 ∷ vif ∷ value_bytes) (reading_of n q value ∷ []) in
    subst P (sym (two_fields kind storage le)) (subst Q number (extended_read (kind + 128 + 64 * (storage % 2)) (storage / 2) vif (storage % 2) value_bytes coding q value (omega arith) (fields.extended (storage % 2) (omega arith)) quantified said)) in
    elim (cases_order storage 2) [
      | inl same ↦ two (omega arith)
      | inr (inl less) ↦ one less
      | inr (inr more) ↦ two (omega arith)
    ]

-- the fields of dates and of eight digits
pub date_fields : AreFields 2 Integer16 2
date_fields = record { plain = plain; extended = extended }
  where
    plain : (bit : ℕ) → bit < 2 → IsField (2 + 64 * bit) false Integer16 2 bit
    plain zero lt = record { follows = refl; coded = refl; sized = refl; lowest = refl }
    plain (suc zero) lt = record { follows = refl; coded = refl; sized = refl; lowest = refl }
    plain (suc (suc b)) lt = absurd (omega arith)

    extended : (bit : ℕ) → bit < 2 → IsField (2 + 128 + 64 * bit) true Integer16 2 bit
    extended zero lt = record { follows = refl; coded = refl; sized = refl; lowest = refl }
    extended (suc zero) lt = record { follows = refl; coded = refl; sized = refl; lowest = refl }
    extended (suc (suc b)) lt = absurd (omega arith)

pub decimal_fields : AreFields 12 Decimal8 4
decimal_fields = record { plain = plain; extended = extended }
  where
    plain : (bit : ℕ) → bit < 2 → IsField (12 + 64 * bit) false Decimal8 4 bit
    plain zero lt = record { follows = refl; coded = refl; sized = refl; lowest = refl }
    plain (suc zero) lt = record { follows = refl; coded = refl; sized = refl; lowest = refl }
    plain (suc (suc b)) lt = absurd (omega arith)

    extended : (bit : ℕ) → bit < 2 → IsField (12 + 128 + 64 * bit) true Decimal8 4 bit
    extended zero lt = record { follows = refl; coded = refl; sized = refl; lowest = refl }
    extended (suc zero) lt = record { follows = refl; coded = refl; sized = refl; lowest = refl }
    extended (suc (suc b)) lt = absurd (omega arith)

pub integer_fields : AreFields 4 Integer32 4
integer_fields = record { plain = plain; extended = extended }
  where
    plain : (bit : ℕ) → bit < 2 → IsField (4 + 64 * bit) false Integer32 4 bit
    plain zero lt = record { follows = refl; coded = refl; sized = refl; lowest = refl }
    plain (suc zero) lt = record { follows = refl; coded = refl; sized = refl; lowest = refl }
    plain (suc (suc b)) lt = absurd (omega arith)

    extended : (bit : ℕ) → bit < 2 → IsField (4 + 128 + 64 * bit) true Integer32 4 bit
    extended zero lt = record { follows = refl; coded = refl; sized = refl; lowest = refl }
    extended (suc zero) lt = record { follows = refl; coded = refl; sized = refl; lowest = refl }
    extended (suc (suc b)) lt = absurd (omega arith)

-- ---- the data

pub decimal_byte : (n : ℕ) → is_decimal (n % 10 + 16 * (n / 10 % 10)) ≡ true
decimal_byte n = both (n % 10 + 16 * (n / 10 % 10)) (omega arith) (omega arith)
  where
    both : (b : ℕ) → b % 16 ≤ 9 → b / 16 ≤ 9 → is_decimal b ≡ true
    both b low high = rw (le-leb _ _ low, le-leb _ _ high) refl

digits_of_byte : (n : ℕ) → (n % 10 + 16 * (n / 10 % 10)) % 16 + 10 * ((n % 10 + 16 * (n / 10 % 10)) / 16) ≡ n % 100
digits_of_byte n = omega arith

pub decimal_said : (kind : Kind) (n : ℕ) (rest : List ℕ) → n < 100000000 → value_in kind Decimal8 (decimal_bytes n ++ rest) ≡ Ok (pos n)
unfolding decimal_bytes
decimal_said kind n rest lt =
    let number : n / 1 % 100 + 100 * (n / 100 % 100 + 100 * (n / 10000 % 100 + 100 * (n / 1000000 % 100 + 100 * 0))) ≡ n = omega arith in
    rw (decimal_byte (n / 1), decimal_byte (n / 100), decimal_byte (n / 10000), decimal_byte (n / 1000000), digits_of_byte (n / 1), digits_of_byte (n / 100), digits_of_byte (n / 10000), digits_of_byte (n / 1000000), number) refl

pub integer_said : (kind : Kind) (z : ℤ) (rest : List ℕ) → FitsSigned w32 z → value_in kind Integer32 (integer_bytes z ++ rest) ≡ Ok z
unfolding integer_bytes
integer_said kind z rest fits =
    let number : from_le_bytes w32 (to_le_bytes w32 (cast_unsigned w32 z)) ≡ cast_unsigned w32 z = from_le_bytes-to_le_bytes_4 (cast_unsigned w32 z) (omega (arith, Fits-of_z fits)) in
    ap (λ n. Ok (cast_signed w32 n)) number ∙ ap Ok (to_z-of_z w32 z fits)

pub date_said : (n : ℕ) (rest : List ℕ) → n ≤ 36524 → value_in Date Integer16 (date_bytes n ++ rest) ≡ Ok (pos n)
date_said n rest few =
    let on = each_day n few in
    ap (λ (l : List ℕ). value_in Date Integer16 (l ++ rest)) (date_bytes-date n on.year on.month on.day on.is) ∙ type_g_said n on.year on.month on.day rest on.is
  where
    century : (y m d : ℕ) → IsCenturyDate y m d → is_century_date y m d ≡ true
    century y m d date =
        rw (le-leb _ _ date.early, le-leb _ _ date.late, le-leb _ _ date.civil.1.0, le-leb _ _ date.civil.1.1, le-leb _ _ date.civil.2.0, le-leb _ _ date.civil.2.1) refl

    type_g_said : (n y m d : ℕ) (rest : List ℕ) → IsDay n y m d → value_in Date Integer16 (type_g (y - 2000) m d ++ rest) ≡ Ok (pos n)
    type_g_said n y m d rest is =
        let late : y ≤ 2099 = is.date.late in
        let early : 2000 ≤ y = is.date.early in
        let months : m ≤ 12 = is.date.civil.1.1 in
        let days : d ≤ 31 = omega (arith, is.date.civil.2.1, days_in_month_bounds (pos y) m) in
        let year : 2000 + (d + 32 * ((y - 2000) % 8)) / 32 + 8 * ((m + 16 * ((y - 2000) / 8 % 16)) / 16) ≡ y = omega arith in
        let month : (m + 16 * ((y - 2000) / 8 % 16)) % 16 ≡ m = omega arith in
        let day : (d + 32 * ((y - 2000) % 8)) % 32 ≡ d = omega arith in
        rw (year, month, day, century y m d is.date, ← is.counted) refl
