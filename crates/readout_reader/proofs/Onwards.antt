-- Records that are read one after another.
use Rattle.std.proofs.Common.{◌≡◌, ◌∙◌, ℕ, suc, ◌+◌, ◌-◌, ◌≤◌, Bool, true, false, List, [], ◌∷◌, ◌++◌, length, take, drop, Ok, Err, Result, refl, sym, ap, append_assoc, append-nil, length-drop, arith}
use Rattle.script_model.specs.Grammar.{◌>>=◌}
use Rattle.reading_model.proofs.Spelled.{in_front, records_in-behind}
use Rattle.reading_model.specs.Rules.{byte}
use Rattle.reading_model.specs.Fields.{Reading, Kind}
use Rattle.reading_model.specs.Records.{Coding, said_at, fitting_coding, extension, information_size, quantity, value_in, storage_of, record_in, records_in, record_size, is_mark, onto}
use Rattle.std.proofs.lemmas.List.{get_or-drop, take_all}
use Rattle.std.specs.Prelude.{ℤ}

step : (done : List Reading) (first : Reading) (said : Result (List Reading × Bool) ℕ) → in_front done (said >>= λ others. onto first others) ≡ in_front (done ++ first ∷ []) said
step done first (Ok others) = ap (λ (l : List Reading). Ok (l, others.1)) (sym (append_assoc done (first ∷ []) others.0))
step done first (Err left) = refl

pub one_more : (done : List Reading) (first : Reading) (rest behind : List ℕ) → 1 ≤ length rest → is_mark rest ≡ false → record_in rest ≡ Ok first → behind ≡ drop (record_size (byte rest 0)) rest → in_front done (records_in 0 rest) ≡ in_front (done ++ first ∷ []) (records_in 0 behind)
one_more done first [] behind some unmarked said is = absurd (omega arith)
one_more done first (b ∷ bs) behind some unmarked said is =
    let sized : record_size b ≡ suc (record_size b - 1) = omega arith in
    let next : records_in (record_size b - 1) bs ≡ records_in 0 behind =
    records_in-behind (record_size b - 1) bs ∙ ap (λ k. records_in 0 (drop k (b ∷ bs))) (sym sized) ∙ ap (records_in 0) (sym is) in
    rw (unmarked, said, next) (step done first (records_in 0 behind))

pub broken : (done : List Reading) (rest : List ℕ) (left : ℕ) → 1 ≤ length rest → is_mark rest ≡ false → record_in rest ≡ Err left → in_front done (records_in 0 rest) ≡ Err left
broken done [] left some unmarked said = absurd (omega arith)
broken done (b ∷ bs) left some unmarked said = rw (unmarked, said) refl

pub marked : (done : List Reading) (rest : List ℕ) → is_mark rest ≡ true → in_front done (records_in 0 rest) ≡ Ok (done, true)
marked done [] is = absurd cc
marked done (b ∷ bs) is = rw is (ap (λ (l : List Reading). Ok (l, true)) (append-nil done))

pub at_end : (done : List Reading) (rest : List ℕ) → length rest ≡ 0 → in_front done (records_in 0 rest) ≡ Ok (done, false)
at_end done [] none = ap (λ (l : List Reading). Ok (l, false)) (append-nil done)
at_end done (b ∷ bs) none = absurd (omega arith)

-- the bytes behind some, as the code cuts them
pub cut : (bytes : List ℕ) (at : ℕ) → take (length bytes - at) (drop at bytes) ≡ drop at bytes
cut bytes at = take_all (length bytes - at) (drop at bytes) (omega (arith, length-drop at bytes))

first_of_cut : (bytes : List ℕ) (at : ℕ) → byte (drop at bytes) 0 ≡ byte bytes at
first_of_cut bytes at =
    let here : at + 0 ≡ at = omega arith in
    get_or-drop at bytes 0 0 ∙ ap (byte bytes) here

-- a record whose fields before the data keep their rules
pub value_behind : (bytes : List ℕ) (coding : Coding) (dife unit : ℕ) (q : Kind × ℤ) (said : Result ℤ ℕ) → said_at (fitting_coding bytes) bytes ≡ Ok coding → said_at (extension bytes) (drop 1 bytes) ≡ Ok dife → unit ≡ information_size (byte bytes 0)
    → said_at (quantity coding (byte (take (length bytes - unit) (drop unit bytes)) 0)) (take (length bytes - unit) (drop unit bytes)) ≡ Ok q
    → value_in q.0 coding (take (length bytes - (unit + 1)) (drop (unit + 1) bytes)) ≡ said → record_in bytes ≡ (said >>= λ value. Ok (record { storage = storage_of (byte bytes 0) dife; kind = q.0; value = value; exp = q.1 }))
unfolding record_in
value_behind bytes coding dife unit q said fits second is third value =
    let at : byte (take (length bytes - unit) (drop unit bytes)) 0 ≡ byte bytes unit = ap (λ (l : List ℕ). byte l 0) (cut bytes unit) ∙ first_of_cut bytes unit in
    let unit_said : said_at (quantity coding (byte bytes unit)) (drop unit bytes) ≡ Ok q =
    sym (λ i. said_at (quantity coding (at i)) (cut bytes unit i)) ∙ third in
    let value_said : value_in q.0 coding (drop (unit + 1) bytes) ≡ said = ap (value_in q.0 coding) (sym (cut bytes (unit + 1))) ∙ value in
    rw (fits, second, ← is, unit_said, value_said) refl
