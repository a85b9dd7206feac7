-- Which telegrams there are, and what they have.
use Rattle.std.proofs.Common.{◌≡◌, ◌∙◌, ℕ, zero, suc, ◌+◌, ◌-◌, ◌*◌, ◌/◌, ◌≤◌, ◌<◌, inl, inr, List, [], ◌∷◌, ◌++◌, length, take, drop, None, Some, if◌then◌else◌, sym, ap, arith}
use Rattle.std.specs.Prelude.{nat_lt}
use Rattle.std.proofs.lemmas.Bool.{cases_Bool, le-leb, lt-leb, lt-ltb, le-ltb, ltb-true, ltb-false}
use Rattle.config_model.specs.Configuration.{Configuration}
use Rattle.metering_model.specs.Records.{MeterRecord}
use Rattle.frame_model.specs.Frames.{Long}
use Rattle.telegram_model.specs.Telegram.{header, mark_of, newest, records_from, records_of, telegram}

pub none_beyond : (c : Configuration) (m : MeterRecord) (k access : ℕ) → (length (newest m) + 7) / 8 < k → None ≡ telegram c m k access
unfolding telegram
none_beyond c m k access beyond =
    let frame = Long 8 c.address 114 (header c access ++ records_of c m k ++ mark_of m k) in
    sym (ap (λ b. if b then Some frame else None) (lt-leb k ((length (newest m) + 7) / 8) beyond))

-- more telegrams follow where more month entries do
more : (months k : ℕ) → nat_lt k ((months + 7) / 8) ≡ nat_lt (8 * k) months
more months k = elim (cases_Bool (nat_lt k ((months + 7) / 8))) [
  | inl further ↦ further ∙ sym (lt-ltb (8 * k) months (omega (arith, ltb-true k ((months + 7) / 8) further)))
  | inr no_more ↦ no_more ∙ sym (le-ltb (8 * k) months (omega (arith, ltb-false k ((months + 7) / 8) no_more)))
]

-- the parts of a body, one after the other
pub one_composed : (c : Configuration) (m : MeterRecord) (k access : ℕ) (headed recorded body : List ℕ) → k ≤ (length (newest m) + 7) / 8
    → headed ≡ header c access → recorded ≡ headed ++ records_of c m k → body ≡ recorded ++ (if nat_lt k ((length (newest m) + 7) / 8) then 31 ∷ [] else [])
    → Some (Long 8 c.address 114 body) ≡ telegram c m k access
unfolding telegram
one_composed c m k access headed recorded body there h r b =
    let marked : body ≡ recorded ++ mark_of m k = b ∙ ap (λ b. recorded ++ (if b then 31 ∷ [] else [])) (more (length (newest m)) k) in
    let joined : body ≡ header c access ++ records_of c m k ++ mark_of m k = marked ∙ ap (λ l. l ++ mark_of m k) (r ∙ ap (λ l. l ++ records_of c m k) h) in
    let frame = Long 8 c.address 114 (header c access ++ records_of c m k ++ mark_of m k) in
    ap (λ l. Some (Long 8 c.address 114 l)) joined ∙ sym (ap (λ b. if b then Some frame else None) (le-leb k ((length (newest m) + 7) / 8) there))

-- the records of a telegram from 1 on
pub records_of-later : (c : Configuration) (m : MeterRecord) (k : ℕ) → 1 ≤ k → records_from c (8 * (k - 1) + 2) (take 8 (drop (8 * (k - 1)) (newest m))) ≡ records_of c m k
records_of-later c m zero later = absurd (omega arith)
records_of-later c m (suc j) later =
    let before : suc j - 1 ≡ j = omega arith in
    ap (λ n. records_from c (8 * n + 2) (take 8 (drop (8 * n) (newest m)))) before
