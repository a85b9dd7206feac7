-- An output line shows the number of events of its record.
use Rattle.std.proofs.Common.{◌≡◌, ℕ, ◌+◌, ◌-◌, ◌*◌, ◌/◌, ◌%◌, ◌^◌, ◌<◌, ◌≤◌, ◌==◌, true, false, not, cond, List, [], ◌∷◌, ◌++◌, length, get_or, Option, None, Some, refl, ap, ◌∙◌, arith, codes, append_assoc, length-append, suc, zero}
use Rattle.std.specs.List.{All}
use Rattle.std.specs.Prelude.{option_and_then, slice_get}
use Rattle.std.proofs.lemmas.Bool.{and_from, and_parts, le-leb, ne_eqb}
use Rattle.std.proofs.lemmas.Fmt.{decimal_by_steps_wide}
use Rattle.std.proofs.lemmas.List.Elements.{All-append, All-cons, All-from_recursion}
use Rattle.std.proofs.lemmas.List.Splits.{slice_split_at}
use Rattle.std.specs.Fmt.{decimal, signed_decimal}
use Rattle.metering_model.specs.Settings.{Settings}
use Rattle.metering_model.specs.Records.{MeterRecord, litres_of}
use Rattle.script_model.specs.Lines.{words_of}
use Rattle.script_model.specs.Numbers.{all_digits, is_digit, is_number, value_after}
use Rattle.answer_model.specs.Texts.{mbus_text, ok_text, opt_text, power_text, readout_text, reply_shown}
use Rattle.recovery_model.specs.Shown.{number_of, number_shown}

-- how a number is written
pub record IsWritten (n : ℕ) (ds : List ℕ) : Type 0 where
  pub some : 0 < length ds
  pub digits : all_digits ds ≡ true
  pub no_space : All (λ d. (d == 32) ≡ false) ds
  pub value : value_after 0 ds ≡ n
  pub lead : 1 ≤ n → (get_or ds 0 0 == 48) ≡ false
  pub single : n ≡ 0 → length ds ≡ 1

all_digits-append : (xs ys : List ℕ) → all_digits xs ≡ true → all_digits ys ≡ true → all_digits (xs ++ ys) ≡ true
all_digits-append [] ys p q = q
all_digits-append (c ∷ cs) ys p q = let h = and_parts _ _ p in and_from _ _ h.0 (all_digits-append cs ys h.1 q)

value_after-append : (m : ℕ) (xs : List ℕ) (c : ℕ) → value_after m (xs ++ c ∷ []) ≡ 10 * value_after m xs + (c - 48)
value_after-append m [] c = refl
value_after-append m (x ∷ xs) c = value_after-append (10 * m + (x - 48)) xs c

first-append : (xs ys : List ℕ) → 0 < length xs → get_or (xs ++ ys) 0 0 ≡ get_or xs 0 0
first-append [] ys some = absurd (omega arith)
first-append (x ∷ xs) ys some = refl

pub one_digit : (n : ℕ) → n < 10 → is_digit (48 + n) ≡ true
one_digit n small = and_from _ _ (le-leb 48 (48 + n) (omega arith)) (le-leb (48 + n) 57 (omega arith))

digit_alone : (n : ℕ) → n < 10 → all_digits ((48 + n) ∷ []) ≡ true
digit_alone n small = and_from _ _ (one_digit n small) refl

no_space_in : (n : ℕ) → All (λ d. (d == 32) ≡ false) ((48 + n) ∷ [])
no_space_in n = All-cons (λ d. (d == 32) ≡ false) (48 + n) [] (ne_eqb (48 + n) 32 (λ e. absurd (omega arith))) (λ k d lt. absurd (omega arith))

written_one : (n : ℕ) → n < 10 → IsWritten n ((48 + n) ∷ [])
written_one n small = record {
  some = omega arith;
  digits = digit_alone n small;
  no_space = no_space_in n;
  value = omega arith;
  lead = λ some. ne_eqb (48 + n) 48 (λ e. absurd (omega arith));
  single = λ is. refl;
}

written_more : (n : ℕ) (ds : List ℕ) → 10 ≤ n → IsWritten (n / 10) ds → IsWritten n (ds ++ ((48 + n % 10) ∷ []))
written_more n ds large w = record {
  some = omega (arith, length-append ds ((48 + n % 10) ∷ []));
  digits = all_digits-append ds ((48 + n % 10) ∷ []) w.digits (digit_alone (n % 10) (omega arith));
  no_space = All-append (λ d. (d == 32) ≡ false) ds ((48 + n % 10) ∷ []) w.no_space (no_space_in (n % 10));
  value = omega (arith, value_after-append 0 ds (48 + n % 10), w.value);
  lead = λ some. ap (λ d. d == 48) (first-append ds ((48 + n % 10) ∷ []) w.some) ∙ w.lead (omega arith);
  single = λ is. absurd (omega arith);
}

pub written : (n : ℕ) → n < 10 ^ 64 → IsWritten n (decimal n)
written = decimal_by_steps_wide IsWritten written_one written_more

is_number_from : (n : ℕ) (ds : List ℕ) → IsWritten n ds → is_number ds ≡ true
is_number_from n [] w = absurd (omega (arith, w.some))
is_number_from n (c ∷ []) w = (and_parts _ _ w.digits).0
is_number_from zero (c ∷ d ∷ ds) w = absurd (omega (arith, w.single refl))
is_number_from (suc n) (c ∷ d ∷ ds) w = and_from _ _ (ap not (w.lead (omega arith))) w.digits

-- ---- the second word of an output line

number_of-decimal : (n : ℕ) → n < 10 ^ 64 → number_of (decimal n) ≡ Some n
number_of-decimal n small =
    let w = written n small in
    ap (λ b. cond b (Some (value_after 0 (decimal n))) None) (is_number_from n (decimal n) w) ∙ ap Some w.value

second_word : (first second rest : List ℕ) → All (λ d. (d == 32) ≡ false) first → All (λ d. (d == 32) ≡ false) second → slice_get (words_of (first ++ 32 ∷ (second ++ 32 ∷ rest))) 1 ≡ Some second
second_word first second rest p q =
    ap (λ (ws : List (List ℕ)). slice_get ws 1) (slice_split_at (λ c. c == 32) first 32 (second ++ 32 ∷ rest) p refl ∙ ap (λ (ws : List (List ℕ)). first ∷ ws) (slice_split_at (λ c. c == 32) second 32 rest q refl))

-- a number behind a name
number_shown-named : (name : List ℕ) (n : ℕ) (rest : List ℕ) → All (λ d. (d == 32) ≡ false) name → n < 10 ^ 64 → number_shown (name ++ 32 ∷ (decimal n ++ 32 ∷ rest)) ≡ Some n
number_shown-named name n rest word small =
    ap (λ (w : Option (List ℕ)). option_and_then number_of w) (second_word name (decimal n) rest word (written n small).no_space) ∙ number_of-decimal n small

-- no name has a space
pub ok_word : All (λ d. (d == 32) ≡ false) (codes "ok")
ok_word = All-from_recursion (λ d. (d == 32) ≡ false) (codes "ok") (refl, (refl, tt))

pub power_word : All (λ d. (d == 32) ≡ false) (codes "power")
power_word = All-from_recursion (λ d. (d == 32) ≡ false) (codes "power") (refl, (refl, (refl, (refl, (refl, tt)))))

opt_word : All (λ d. (d == 32) ≡ false) (codes "opt")
opt_word = All-from_recursion (λ d. (d == 32) ≡ false) (codes "opt") (refl, (refl, (refl, tt)))

mbus_word : All (λ d. (d == 32) ≡ false) (codes "mbus")
mbus_word = All-from_recursion (λ d. (d == 32) ≡ false) (codes "mbus") (refl, (refl, (refl, (refl, tt))))

pub number_shown-ok_text : (c : Settings) (r : MeterRecord) → r.seq < 10 ^ 64 → number_shown (ok_text c r) ≡ Some r.seq
number_shown-ok_text c r small =
    let rest = decimal (litres_of c r.register) ++ codes " " ++ signed_decimal r.register.energy_mj ++ codes " " ++ decimal r.register.bound_mj ++ codes "\n" in
    let text : ok_text c r ≡ codes "ok" ++ 32 ∷ (decimal r.seq ++ 32 ∷ rest) = simp append_assoc refl in
    ap number_shown text ∙ number_shown-named (codes "ok") r.seq rest ok_word small

pub number_shown-power_text : (c : Settings) (r : MeterRecord) → r.seq < 10 ^ 64 → number_shown (power_text c r) ≡ Some r.seq
number_shown-power_text c r small =
    let rest = decimal (litres_of c r.register) ++ codes " " ++ signed_decimal r.register.energy_mj ++ codes " " ++ decimal r.register.bound_mj ++ codes "\n" in
    let text : power_text c r ≡ codes "power" ++ 32 ∷ (decimal r.seq ++ 32 ∷ rest) = simp append_assoc refl in
    ap number_shown text ∙ number_shown-named (codes "power") r.seq rest power_word small

number_shown-readout_text : (name : List ℕ) (r : MeterRecord) (reply : Option (List ℕ)) → All (λ d. (d == 32) ≡ false) name → r.seq < 10 ^ 64 → number_shown (readout_text name r reply) ≡ Some r.seq
number_shown-readout_text name r reply word small =
    let rest = reply_shown reply ++ codes "\n" in
    let text : readout_text name r reply ≡ name ++ 32 ∷ (decimal r.seq ++ 32 ∷ rest) = simp append_assoc refl in
    ap number_shown text ∙ number_shown-named name r.seq rest word small

pub number_shown-opt_text : (r : MeterRecord) (reply : Option (List ℕ)) → r.seq < 10 ^ 64 → number_shown (opt_text r reply) ≡ Some r.seq
number_shown-opt_text r reply small = number_shown-readout_text (codes "opt") r reply opt_word small

pub number_shown-mbus_text : (r : MeterRecord) (reply : Option (List ℕ)) → r.seq < 10 ^ 64 → number_shown (mbus_text r reply) ≡ Some r.seq
number_shown-mbus_text r reply small = number_shown-readout_text (codes "mbus") r reply mbus_word small
