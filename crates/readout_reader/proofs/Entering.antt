-- Entries that are read one after another.
use Rattle.std.proofs.Common.{◌≡◌, ◌∙◌, ℕ, zero, suc, ◌+◌, ◌-◌, ◌<◌, ◌==◌, true, false, List, [], ◌∷◌, ◌++◌, Ok, Err, Result, refl, sym, ap, append_assoc, append-nil, arith}
use Rattle.script_model.specs.Grammar.{◌>>=◌}
use Rattle.reading_model.specs.Rules.{byte}
use Rattle.reading_model.specs.Fields.{Shown}
use Rattle.reading_model.specs.Messages.{entry_of, entries_of, onto_entries}

-- entries that were read before, and what is read behind them
abbrev pub with_front : List Shown → Result (List Shown × List ℕ) ℕ → Result (List Shown × List ℕ) ℕ
with_front done said = said >>= λ others. Ok (done ++ others.0, others.1)

step : (done : List Shown) (first : Shown) (said : Result (List Shown × List ℕ) ℕ) → with_front done (said >>= λ others. onto_entries first others) ≡ with_front (done ++ first ∷ []) said
step done first (Ok others) = ap (λ (l : List Shown). Ok (l, others.1)) (sym (append_assoc done (first ∷ []) others.0))
step done first (Err left) = refl

pub one_more : (done : List Shown) (first : Shown) (n : ℕ) (rest behind : List ℕ) → (byte rest 0 == 33) ≡ false → entry_of (25 - n) rest ≡ Ok (first, behind) → with_front done (entries_of (suc n) rest) ≡ with_front (done ++ first ∷ []) (entries_of n behind)
one_more done first n rest behind goes_on said = rw (goes_on, said) (step done first (entries_of n behind))

pub broken : (done : List Shown) (n : ℕ) (rest : List ℕ) (left : ℕ) → (byte rest 0 == 33) ≡ false → entry_of (25 - n) rest ≡ Err left → with_front done (entries_of (suc n) rest) ≡ Err left
broken done n rest left goes_on said = rw (goes_on, said) refl

pub stopped : (done : List Shown) (n : ℕ) (rest : List ℕ) → (byte rest 0 == 33) ≡ true → with_front done (entries_of n rest) ≡ Ok (done, rest)
stopped done zero rest ends = ap (λ (l : List Shown). Ok (l, rest)) (append-nil done)
stopped done (suc n) rest ends = rw ends (ap (λ (l : List Shown). Ok (l, rest)) (append-nil done))

pub no_more : (done : List Shown) (rest : List ℕ) → with_front done (entries_of 0 rest) ≡ Ok (done, rest)
no_more done rest = ap (λ (l : List Shown). Ok (l, rest)) (append-nil done)

nothing_before : (said : Result (List Shown × List ℕ) ℕ) → said ≡ with_front [] said
nothing_before (Ok x) = refl
nothing_before (Err left) = refl

pub begun : (bytes : List ℕ) (first marks : ℕ) → first + marks ≡ 26 → entries_of marks bytes ≡ with_front [] (entries_of (26 - first) bytes)
begun bytes first marks sum =
    let same : marks ≡ 26 - first = omega arith in
    ap (λ n. entries_of n bytes) same ∙ nothing_before (entries_of (26 - first) bytes)

-- the same, by the mark of the entry
pub one_more_marked : (done : List Shown) (first : Shown) (mark : ℕ) (rest behind : List ℕ) → mark < 26 → (byte rest 0 == 33) ≡ false → entry_of mark rest ≡ Ok (first, behind) → with_front done (entries_of (26 - mark) rest) ≡ with_front (done ++ first ∷ []) (entries_of (26 - (mark + 1)) behind)
one_more_marked done first mark rest behind lt goes_on said =
    let more : 26 - mark ≡ suc (26 - (mark + 1)) = omega arith in
    let at : 25 - (26 - (mark + 1)) ≡ mark = omega arith in
    ap (λ n. with_front done (entries_of n rest)) more ∙ one_more done first (26 - (mark + 1)) rest behind goes_on (ap (λ m. entry_of m rest) at ∙ said)

pub broken_marked : (done : List Shown) (mark : ℕ) (rest : List ℕ) (left : ℕ) → mark < 26 → (byte rest 0 == 33) ≡ false → entry_of mark rest ≡ Err left → with_front done (entries_of (26 - mark) rest) ≡ Err left
broken_marked done mark rest left lt goes_on said =
    let more : 26 - mark ≡ suc (26 - (mark + 1)) = omega arith in
    let at : 25 - (26 - (mark + 1)) ≡ mark = omega arith in
    ap (λ n. with_front done (entries_of n rest)) more ∙ broken done (26 - (mark + 1)) rest left goes_on (ap (λ m. entry_of m rest) at ∙ said)
