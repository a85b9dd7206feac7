-- Script and output lines decide the journal: a line that keeps an event shows what it added.
use Rattle.std.proofs.Common.{◌≡◌, ◌⊎◌, inl, inr, ℕ, zero, suc, ◌+◌, ◌/◌, ◌%◌, ◌^◌, ◌<◌, ◌≤◌, ◌==◌, Bool, true, false, ℤ, pos, negsuc, ◌+ℤ◌, List, [], ◌∷◌, ◌++◌, length, drop, get_or, Result, Ok, refl, sym, ap, ◌∙◌, subst, arith, lit<, codes, append_assoc, length-append}
use Rattle.std.specs.Prelude.{nat_abs, if◌then◌else◌}
use Rattle.std.specs.List.{All, AllByRecursion}
use Rattle.std.proofs.Math.Nat.{one-le-pow, pow-suc}
use Rattle.std.proofs.lemmas.Int.{ints}
use Rattle.std.proofs.lemmas.Bool.{and_from, and_parts, cases_lt, leb-true, lt-ltb, ne_eqb}
use Rattle.std.proofs.lemmas.List.Elements.{All-append, All-cons, All-from_recursion}
use Rattle.std.proofs.lemmas.List.Splits.{slice_split_at, slice_split_none}
use Rattle.std.proofs.lemmas.List.Sums.{sum_by-append, sum_by-cons}
use Rattle.std.specs.Fmt.{decimal, digit_glyph, digits, digits_onto, signed_decimal}
use Rattle.metering_model.specs.Events.{Event, Kept}
use Rattle.metering_model.specs.Settings.{Settings}
use Rattle.metering_model.specs.Records.{MeterRecord, bound_in, energy_in, litres_of, record_after}
use Rattle.script_model.specs.Grammar as grammar
use Rattle.script_model.specs.Grammar.{Line, Metering, Power, Opt, Mbus}
use Rattle.script_model.specs.Lines.{words_of}
use Rattle.script_model.specs.Numbers.{all_digits, is_digit, value_after}
use Rattle.answer_model.specs.Texts.{ok_text, power_text}
use Rattle.trace_model.specs.Output.{OutputLine}
use Rattle.frame_model.specs.Frames.{Frame}
use Rattle.frame_model.proofs.Frames.{one_frame}
use Rattle.pairing_model.specs.Setup.{Setup, settings_in}
use Rattle.pairing_model.specs.Journal.{Journal, at_start, started}
use Rattle.pairing_model.specs.Pairing.{Acknowledges, Answers, IgnoresBytes, Interrupts, IsEvent, Pairs, Replies, RepliesToFrame, heard_in}
use Rattle.recovery_model.specs.Decided.{IsShort, LinesDecide}
use Rattle.recovery_model.proofs.Shown.{ok_word, one_digit, power_word, written}

-- ---- numbers that are written with fewer than 64 digits

glyph_is : (n : ℕ) → digit_glyph false (n % 10) ≡ 48 + n % 10
glyph_is n = ap (λ b. if b then 48 + n % 10 else (if false then 55 + n % 10 else 87 + n % 10)) (lt-ltb (n % 10) 10 (omega arith))

glyph_digit : (n : ℕ) → is_digit (digit_glyph false (n % 10)) ≡ true
glyph_digit n = ap is_digit (glyph_is n) ∙ one_digit (n % 10) (omega arith)

-- whatever is written has digits alone
onto_digits : (k n : ℕ) (acc : List ℕ) → all_digits acc ≡ true → all_digits (digits_onto k 10 false n acc) ≡ true
onto_digits zero n acc h = h
onto_digits (suc k) n acc h =
    let more : all_digits (digit_glyph false (n % 10) ∷ acc) ≡ true = and_from _ _ (glyph_digit n) h in
    by_test (n / 10 == 0) more (onto_digits k (n / 10) (digit_glyph false (n % 10) ∷ acc) more)
  where
    by_test : (b : Bool) → all_digits (digit_glyph false (n % 10) ∷ acc) ≡ true → all_digits (digits_onto k 10 false (n / 10) (digit_glyph false (n % 10) ∷ acc)) ≡ true
        → all_digits (if b then digit_glyph false (n % 10) ∷ acc else digits_onto k 10 false (n / 10) (digit_glyph false (n % 10) ∷ acc)) ≡ true
    by_test true more rest = more
    by_test false more rest = rest

decimal_digits : (n : ℕ) → all_digits (decimal n) ≡ true
unfolding digits
decimal_digits n = onto_digits 64 n [] refl

-- k digits are written of a number of more than k
onto_length : (k n : ℕ) (acc : List ℕ) → 10 ^ k ≤ n → length (digits_onto k 10 false n acc) ≡ k + length acc
onto_length zero n acc h = omega arith
onto_length (suc k) n acc h =
    let some : 0 < 10 ^ k = one-le-pow k 10 (lit< tt) in
    let next : 10 ^ k ≤ n / 10 = omega (arith, pow-suc 10 k) in
    let test : (n / 10 == 0) ≡ false = ne_eqb (n / 10) 0 (λ e. absurd (omega arith)) in
    ap length (ap (λ b. if b then digit_glyph false (n % 10) ∷ acc else digits_onto k 10 false (n / 10) (digit_glyph false (n % 10) ∷ acc)) test)
    ∙ onto_length k (n / 10) (digit_glyph false (n % 10) ∷ acc) next ∙ omega arith

is_below : (n : ℕ) → length (decimal n) < 64 → n < 10 ^ 64
unfolding digits
is_below n short = by_order (cases_lt n (10 ^ 64)) where
  by_order : (n < 10 ^ 64) ⊎ (10 ^ 64 ≤ n) → n < 10 ^ 64
  by_order (inl below) = below
  by_order (inr above) = absurd (clash _ short (onto_length 64 n [] above)) where
    clash : (m : ℕ) → m < 64 → m ≡ 64 + 0 → ⊥
    clash m h e = omega arith

signed_below : (z : ℤ) → length (signed_decimal z) < 64 → nat_abs z < 10 ^ 64
signed_below (pos n) short = is_below n short
signed_below (negsuc n) short = is_below (suc n) (less (length (decimal (suc n))) short) where
  less : (m : ℕ) → suc m < 64 → m < 64
  less m h = omega arith

-- no spaces
digits_no_space : (ds : List ℕ) → all_digits ds ≡ true → All (λ d. (d == 32) ≡ false) ds
digits_no_space [] h = All-from_recursion (λ d. (d == 32) ≡ false) [] tt
digits_no_space (c ∷ cs) h =
    let digit : 48 ≤ c = leb-true _ _ (and_parts _ _ (and_parts _ _ h).0).0 in
    All-cons (λ d. (d == 32) ≡ false) c cs (ne_eqb c 32 (λ e. absurd (omega arith))) (digits_no_space cs (and_parts _ _ h).1)

decimal_no_space : (n : ℕ) → All (λ d. (d == 32) ≡ false) (decimal n)
decimal_no_space n = digits_no_space (decimal n) (decimal_digits n)

signed_no_space : (z : ℤ) → All (λ d. (d == 32) ≡ false) (signed_decimal z)
signed_no_space (pos n) = decimal_no_space n
signed_no_space (negsuc n) = All-cons (λ d. (d == 32) ≡ false) 45 (decimal (suc n)) refl (decimal_no_space (suc n))

last_no_space : (n : ℕ) → All (λ d. (d == 32) ≡ false) (decimal n ++ 10 ∷ [])
last_no_space n = All-append (λ d. (d == 32) ≡ false) (decimal n) (10 ∷ []) (decimal_no_space n) (All-from_recursion (λ d. (d == 32) ≡ false) (10 ∷ []) (refl, tt))

-- ---- numbers

-- digits up to a byte below `0` are the same where what is written is the same
digits_split : (sep : ℕ) (a b r q : List ℕ) → sep < 48 → all_digits a ≡ true → all_digits b ≡ true → a ++ sep ∷ r ≡ b ++ sep ∷ q → (a ≡ b) × (r ≡ q)
digits_split sep [] [] r q low p p' same = (refl, cc)
digits_split sep [] (y ∷ b) r q low p p' same =
    let digit : 48 ≤ y = leb-true _ _ (and_parts _ _ (and_parts _ _ p').0).0 in
    let is : sep ≡ y = cc in
    absurd (omega arith)
digits_split sep (x ∷ a) [] r q low p p' same =
    let digit : 48 ≤ x = leb-true _ _ (and_parts _ _ (and_parts _ _ p).0).0 in
    let is : x ≡ sep = cc in
    absurd (omega arith)
digits_split sep (x ∷ a) (y ∷ b) r q low p p' same =
    let first : x ≡ y = cc in
    let more : a ++ sep ∷ r ≡ b ++ sep ∷ q = cc in
    let rest = digits_split sep a b r q low (and_parts _ _ p).1 (and_parts _ _ p').1 more in
    (ap (λ c. c ∷ a) first ∙ ap (λ cs. y ∷ cs) rest.0, rest.1)

decimal_split : (sep m n : ℕ) (r q : List ℕ) → sep < 48 → m < 10 ^ 64 → n < 10 ^ 64 → decimal m ++ sep ∷ r ≡ decimal n ++ sep ∷ q → (m ≡ n) × (r ≡ q)
decimal_split sep m n r q low small small' same =
    let w = written m small in
    let v = written n small' in
    let split = digits_split sep (decimal m) (decimal n) r q low w.digits v.digits same in
    (sym w.value ∙ ap (value_after 0) split.0 ∙ v.value, split.1)

-- digits don't begin with a minus sign
no_minus : (ds r q : List ℕ) → 0 < length ds → all_digits ds ≡ true → ds ++ r ≡ 45 ∷ q → ⊥
no_minus [] r q some digits same = omega arith
no_minus (c ∷ cs) r q some digits same =
    let digit : 48 ≤ c = leb-true _ _ (and_parts _ _ (and_parts _ _ digits).0).0 in
    let is : c ≡ 45 = cc in
    omega arith

signed_split : (y z : ℤ) (r q : List ℕ) → nat_abs y < 10 ^ 64 → nat_abs z < 10 ^ 64 → signed_decimal y ++ 32 ∷ r ≡ signed_decimal z ++ 32 ∷ q → (y ≡ z) × (r ≡ q)
signed_split (pos m) (pos n) r q small small' same =
    let split = decimal_split 32 m n r q (omega arith) small small' same in
    (ap pos split.0, split.1)
signed_split (pos m) (negsuc n) r q small small' same = let w = written m small in absurd (no_minus (decimal m) (32 ∷ r) _ w.some w.digits same)
signed_split (negsuc m) (pos n) r q small small' same = let w = written n small' in absurd (no_minus (decimal n) (32 ∷ q) _ w.some w.digits (sym same))
signed_split (negsuc m) (negsuc n) r q small small' same =
    let more : decimal (suc m) ++ 32 ∷ r ≡ decimal (suc n) ++ 32 ∷ q = ap (drop 1) same in
    let split = decimal_split 32 (suc m) (suc n) r q (omega arith) small small' more in
    let number : m ≡ n = omega (arith, split.0) in
    (ap negsuc number, split.1)

-- ---- what is shown of two records is the same
record ShowSame (r q : MeterRecord) : Type 0 where
  seq : r.seq ≡ q.seq
  energy : r.register.energy_mj ≡ q.register.energy_mj
  bound : r.register.bound_mj ≡ q.register.bound_mj

-- each number that an output line shows of the record has at most 64 digits
pub record HasShortNumbers (c : Settings) (r : MeterRecord) : Type 0 where
  pub seq : r.seq < 10 ^ 64
  pub litres : litres_of c r.register < 10 ^ 64
  pub energy : nat_abs r.register.energy_mj < 10 ^ 64
  pub bound : r.register.bound_mj < 10 ^ 64

-- the words behind the first
abbrev words : Settings → MeterRecord → List ℕ
words c r = decimal r.seq ++ 32 ∷ (decimal (litres_of c r.register) ++ 32 ∷ (signed_decimal r.register.energy_mj ++ 32 ∷ (decimal r.register.bound_mj ++ 10 ∷ [])))

words_same : (c : Settings) (r q : MeterRecord) → HasShortNumbers c r → HasShortNumbers c q → words c r ≡ words c q → ShowSame r q
words_same c r q short short' same =
    let one = decimal_split 32 r.seq q.seq _ _ (omega arith) short.seq short'.seq same in
    let two = decimal_split 32 (litres_of c r.register) (litres_of c q.register) _ _ (omega arith) short.litres short'.litres one.1 in
    let three = signed_split r.register.energy_mj q.register.energy_mj _ _ short.energy short'.energy two.1 in
    let four = decimal_split 10 r.register.bound_mj q.register.bound_mj _ _ (omega arith) short.bound short'.bound three.1 in
    record { seq = one.0; energy = three.0; bound = four.0 }

five_words : (name : List ℕ) (c : Settings) (r : MeterRecord) → All (λ d. (d == 32) ≡ false) name
    → words_of (name ++ 32 ∷ words c r) ≡ name ∷ decimal r.seq ∷ decimal (litres_of c r.register) ∷ signed_decimal r.register.energy_mj ∷ (decimal r.register.bound_mj ++ 10 ∷ []) ∷ []
five_words name c r word =
    let fifth = decimal r.register.bound_mj ++ 10 ∷ [] in
    let fourth = signed_decimal r.register.energy_mj in
    let third = decimal (litres_of c r.register) in
    let second = decimal r.seq in
    let is_space = λ (b : ℕ). b == 32 in
    slice_split_at is_space name 32 (second ++ 32 ∷ (third ++ 32 ∷ (fourth ++ 32 ∷ fifth))) word refl
    ∙ ap (λ (ws : List (List ℕ)). name ∷ ws) (slice_split_at is_space second 32 (third ++ 32 ∷ (fourth ++ 32 ∷ fifth)) (decimal_no_space r.seq) refl
    ∙ ap (λ (ws : List (List ℕ)). second ∷ ws) (slice_split_at is_space third 32 (fourth ++ 32 ∷ fifth) (decimal_no_space (litres_of c r.register)) refl
    ∙ ap (λ (ws : List (List ℕ)). third ∷ ws) (slice_split_at is_space fourth 32 fifth (signed_no_space r.register.energy_mj) refl
    ∙ ap (λ (ws : List (List ℕ)). fourth ∷ ws) (slice_split_none is_space fifth (last_no_space r.register.bound_mj)))))

short_numbers : (name : List ℕ) (c : Settings) (r : MeterRecord) → All (λ d. (d == 32) ≡ false) name → IsShort (name ++ 32 ∷ words c r) → HasShortNumbers c r
short_numbers name c r word short =
    let five = five_words name c r word in
    let all = subst (AllByRecursion (λ (w : List ℕ). length w < 64)) five (short (ap length five)) in
    record {
      seq = is_below r.seq all.1.0;
      litres = is_below (litres_of c r.register) all.1.1.0;
      energy = signed_below r.register.energy_mj all.1.1.1.0;
      bound = is_below r.register.bound_mj (omega (arith, all.1.1.1.1.0, length-append (decimal r.register.bound_mj) (10 ∷ [])));
    }

ok_words : (c : Settings) (r : MeterRecord) → ok_text c r ≡ 111 ∷ 107 ∷ 32 ∷ words c r
ok_words c r = simp append_assoc refl

power_words : (c : Settings) (r : MeterRecord) → power_text c r ≡ 112 ∷ 111 ∷ 119 ∷ 101 ∷ 114 ∷ 32 ∷ words c r
power_words c r = simp append_assoc refl

ok_same : (c : Settings) (r q : MeterRecord) → ok_text c r ≡ ok_text c q → words c r ≡ words c q
ok_same c r q same = ap (drop 3) (sym (ok_words c r) ∙ same ∙ ok_words c q)

power_same : (c : Settings) (r q : MeterRecord) → power_text c r ≡ power_text c q → words c r ≡ words c q
power_same c r q same = ap (drop 6) (sym (power_words c r) ∙ same ∙ power_words c q)

ok_short : (c : Settings) (r : MeterRecord) (text : List ℕ) → text ≡ ok_text c r → IsShort text → HasShortNumbers c r
ok_short c r text is short = short_numbers (codes "ok") c r ok_word (subst IsShort (is ∙ ok_words c r) short)

power_short : (c : Settings) (r : MeterRecord) (text : List ℕ) → text ≡ power_text c r → IsShort text → HasShortNumbers c r
power_short c r text is short = short_numbers (codes "power") c r power_word (subst IsShort (is ∙ power_words c r) short)

ok_no_power : (c : Settings) (r q : MeterRecord) → ok_text c r ≡ power_text c q → ⊥
ok_no_power c r q same =
    let first : ◌≡◌ {A = ℕ} 111 112 = ap (λ t. get_or t 0 0) (sym (ok_words c r) ∙ same ∙ power_words c q) in
    omega arith

-- ---- what the last event added
energy_in-last : (ks : List Kept) (k : Kept) → energy_in (ks ++ k ∷ []) ≡ energy_in ks +ℤ k.energy_mj
energy_in-last [] k = omega (arith, ints)
energy_in-last (h ∷ ks) k = omega (arith, ints, energy_in-last ks k)

bound_in-last : (ks : List Kept) (k : Kept) → bound_in (ks ++ k ∷ []) ≡ bound_in ks + k.bound_mj
bound_in-last ks k = omega (arith, sum_by-append (λ (h : Kept). h.bound_mj) ks (k ∷ []), sum_by-cons (λ (h : Kept). h.bound_mj) k [])

same_kept : (event : Event) (e f : ℤ) (b d : ℕ) → e ≡ f → b ≡ d → ◌≡◌ {A = Kept} (record { event = event; energy_mj = e; bound_mj = b }) (record { event = event; energy_mj = f; bound_mj = d })
same_kept event e f b d p q =
    ap (λ (x : ℤ). record { event = event; energy_mj = x; bound_mj = b }) p ∙ ap (λ (n : ℕ). record { event = event; energy_mj = f; bound_mj = n }) q

held_same : (c : Settings) (o : MeterRecord) (old : List Kept) (event : Event) (held other : List Kept) → (held ≡ []) ⊎ IsEvent event held → (other ≡ []) ⊎ IsEvent event other
    → ShowSame (record_after c o (old ++ held)) (record_after c o (old ++ other)) → held ≡ other
held_same c o old event held other (inl none) (inl none') same = none ∙ sym none'
held_same c o old event held other (inl none) (inr one) same =
    absurd (omega (arith, same.seq, length-append old held, length-append old other, ap length none, ap length one.is))
held_same c o old event held other (inr one) (inl none) same =
    absurd (omega (arith, same.seq, length-append old held, length-append old other, ap length none, ap length one.is))
held_same c o old event held other (inr one) (inr two) same =
    let k : Kept = record { event = event; energy_mj = one.energy_mj; bound_mj = one.bound_mj } in
    let l : Kept = record { event = event; energy_mj = two.energy_mj; bound_mj = two.bound_mj } in
    let left : energy_in (old ++ held) ≡ energy_in old +ℤ one.energy_mj = ap (λ ks. energy_in (old ++ ks)) one.is ∙ energy_in-last old k in
    let right : energy_in (old ++ other) ≡ energy_in old +ℤ two.energy_mj = ap (λ ks. energy_in (old ++ ks)) two.is ∙ energy_in-last old l in
    let sums : o.register.energy_mj +ℤ energy_in (old ++ held) ≡ o.register.energy_mj +ℤ energy_in (old ++ other) = same.energy in
    let energy : one.energy_mj ≡ two.energy_mj = omega (arith, ints, left, right, sums) in
    let lower : bound_in (old ++ held) ≡ bound_in old + one.bound_mj = ap (λ ks. bound_in (old ++ ks)) one.is ∙ bound_in-last old k in
    let upper : bound_in (old ++ other) ≡ bound_in old + two.bound_mj = ap (λ ks. bound_in (old ++ ks)) two.is ∙ bound_in-last old l in
    let bounds : o.register.bound_mj + bound_in (old ++ held) ≡ o.register.bound_mj + bound_in (old ++ other) = same.bound in
    let bound : one.bound_mj ≡ two.bound_mj = omega (arith, lower, upper, bounds) in
    one.is ∙ ap (λ (h : Kept). h ∷ []) (same_kept event one.energy_mj two.energy_mj one.bound_mj two.bound_mj energy bound) ∙ sym two.is

-- ---- one answer
module _ (s : Setup) (o : MeterRecord) (old : Journal) (a : OutputLine) (short : IsShort a.text) where
  ok_for : (event : Event) (new : Journal) (r : Acknowledges s o old event a new) → a.text ≡ ok_text (settings_in s) (record_after (settings_in s) o (old.kept ++ record { event = event; energy_mj = r.energy_mj; bound_mj = r.bound_mj } ∷ []))
  ok_for event new r = r.shows ∙ ap (λ (j : Journal). ok_text (settings_in s) (record_after (settings_in s) o j.kept)) r.keeps

  power_for : (event : Event) (new : Journal) (r : Interrupts s o old event a new) → a.text ≡ power_text (settings_in s) (record_after (settings_in s) o (old.kept ++ r.held))
  power_for event new r = r.restarts.shows ∙ ap (λ (j : Journal). power_text (settings_in s) (record_after (settings_in s) o j.kept)) r.restarts.starts

  both_acknowledge : (event : Event) (new other : Journal) → Acknowledges s o old event a new → Acknowledges s o old event a other → new ≡ other
  both_acknowledge event new other r q =
      let c = settings_in s in
      let k : Kept = record { event = event; energy_mj = r.energy_mj; bound_mj = r.bound_mj } in
      let l : Kept = record { event = event; energy_mj = q.energy_mj; bound_mj = q.bound_mj } in
      let x = record_after c o (old.kept ++ k ∷ []) in
      let y = record_after c o (old.kept ++ l ∷ []) in
      let is = ok_for event new r in
      let is' = ok_for event other q in
      let shown_same : ShowSame x y = words_same c x y (ok_short c x a.text is short) (ok_short c y a.text is' short) (ok_same c x y (sym is ∙ is')) in
      let same = held_same c o old.kept event (k ∷ []) (l ∷ [])
      (inr (record { energy_mj = r.energy_mj; bound_mj = r.bound_mj; is = refl })) (inr (record { energy_mj = q.energy_mj; bound_mj = q.bound_mj; is = refl })) shown_same in
      r.keeps ∙ ap (λ (ks : List Kept). record old { kept = old.kept ++ ks }) same ∙ sym q.keeps

  both_interrupt : (event : Event) (new other : Journal) → Interrupts s o old event a new → Interrupts s o old event a other → new ≡ other
  both_interrupt event new other r q =
      let c = settings_in s in
      let x = record_after c o (old.kept ++ r.held) in
      let y = record_after c o (old.kept ++ q.held) in
      let is = power_for event new r in
      let is' = power_for event other q in
      let shown_same : ShowSame x y = words_same c x y (power_short c x a.text is short) (power_short c y a.text is' short) (power_same c x y (sym is ∙ is')) in
      let same = held_same c o old.kept event r.held q.held r.either q.either shown_same in
      r.restarts.starts ∙ ap (λ ks. started (old.kept ++ ks) (old.interrupted + 1)) same ∙ sym q.restarts.starts

  not_both : (event : Event) (new other : Journal) → Acknowledges s o old event a new → Interrupts s o old event a other → ⊥
  not_both event new other r q = ok_no_power (settings_in s) (record_after (settings_in s) o (old.kept ++ record { event = event; energy_mj = r.energy_mj; bound_mj = r.bound_mj } ∷ [])) (record_after (settings_in s) o (old.kept ++ q.held)) (sym (ok_for event new r) ∙ power_for event other q)

  of_event : (event : Event) (new other : Journal) → Acknowledges s o old event a new ⊎ Interrupts s o old event a new
      → Acknowledges s o old event a other ⊎ Interrupts s o old event a other → new ≡ other
  of_event event new other (inl r) (inl q) = both_acknowledge event new other r q
  of_event event new other (inl r) (inr q) = absurd (not_both event new other r q)
  of_event event new other (inr r) (inl q) = absurd (not_both event other new q r)
  of_event event new other (inr r) (inr q) = both_interrupt event new other r q

  of_bytes : (bytes : List ℕ) (new other : Journal) → RepliesToFrame s o old bytes a new ⊎ IgnoresBytes s o old bytes a new
      → RepliesToFrame s o old bytes a other ⊎ IgnoresBytes s o old bytes a other → new ≡ other
  of_bytes bytes new other (inl r) (inl q) =
      r.hears ∙ ap (λ (f : Frame). record old { frames = old.frames ++ heard_in s o old f ∷ [] }) (one_frame r.frame q.frame bytes r.spells q.spells) ∙ sym q.hears
  of_bytes bytes new other (inl r) (inr q) = absurd (q.no_frame r.frame r.spells)
  of_bytes bytes new other (inr r) (inl q) = absurd (r.no_frame q.frame q.spells)
  of_bytes bytes new other (inr r) (inr q) = r.hears ∙ sym q.hears

  one_reply : (said : Line) (new other : Journal) → Replies s o old said a new → Replies s o old said a other → new ≡ other
  one_reply (Metering event) new other r q = of_event event new other r q
  one_reply Power new other r q = r.restarts.starts ∙ sym q.restarts.starts
  one_reply (grammar.Cut n keep fill) new other r q = r.stays ∙ sym q.stays
  one_reply (Opt message) new other r q = r.hears ∙ sym q.hears
  one_reply (Mbus bytes) new other r q = of_bytes bytes new other r q

one_answer : (s : Setup) (o : MeterRecord) (n : ℕ) (old : Journal) (line : List ℕ) (a : OutputLine) (new other : Journal) → IsShort a.text
    → Answers s o n old line a new → Answers s o n old line a other → new ≡ other
one_answer s o n old line a new other short r q =
    let ok : ◌≡◌ {A = Result Line ℕ} (Ok r.said) (Ok q.said) = sym r.says ∙ q.says in
    let same : r.said ≡ q.said = cc in
    one_reply s o old a short q.said new other (subst (λ said. Replies s o old said a new) same r.reply) q.reply

-- ---- all of them

from_journal : (s : Setup) (o : MeterRecord) (n : ℕ) (old : Journal) (lines : List (List ℕ)) (outputs : List OutputLine) (j k : Journal) → AllByRecursion (λ a. IsShort a.text) outputs
    → Pairs s o n old lines outputs j → Pairs s o n old lines outputs k → j ≡ k
from_journal s o n old lines [] j k short p q = p ∙ sym q
from_journal s o n old [] (a ∷ more) j k short p q = absurd p
from_journal s o n old (l ∷ ls) (a ∷ more) j k short p q =
    let same : p.0 ≡ q.0 = one_answer s o n old l a p.0 q.0 short.0 p.1 q.1 in
    from_journal s o (n + 1) q.0 ls more j k short.1 (subst (λ m. Pairs s o (n + 1) m ls more j) same p.2) q.2

pub lines_decide : (s : Setup) (o : MeterRecord) (lines : List (List ℕ)) (outputs : List OutputLine) → LinesDecide s o lines outputs
lines_decide s o lines outputs j k short p q = from_journal s o 0 at_start lines outputs j k short p q
