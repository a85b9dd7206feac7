-- The text of an output line has its LF at the end alone.
use Rattle.std.proofs.Common.{◌≡◌, ◌⊎◌, inl, inr, ℕ, ◌+◌, ◌<◌, ◌^◌, ◌/◌, ◌%◌, ◌==◌, not, true, false, zero, suc, ℤ, pos, negsuc, List, [], ◌∷◌, ◌++◌, length, take, slice_index, Option, None, Some, refl, arith, codes, length-append}
use Rattle.std.specs.Prelude.{nat_abs}
use Rattle.std.specs.Fmt.{decimal, signed_decimal}
use Rattle.std.proofs.lemmas.Bool.{and_from, and_parts, cases_Bool}
use Rattle.std.proofs.lemmas.Fmt.{decimal_by_steps_wide}
use Rattle.hex.specs.Hex.{encode_with, lower_digits}
use Rattle.metering_model.specs.Settings.{Settings}
use Rattle.metering_model.specs.Records.{MeterRecord, litres_of}
use Rattle.trace_model.specs.Output.{ends_line}
use Rattle.trace_model.proofs.Lines.{no_lf, no_lf-append, no_lf_above, no_lf_both, ends_line-append_lf, front_of_line}
use Rattle.answer_model.specs.Texts.{armed_text, mbus_text, ok_text, opt_text, power_text, readout_text, reply_shown, shown}

-- numbers that are printed without trouble
pub record IsPrintable (c : Settings) (r : MeterRecord) : Type 0 where
  pub seq : r.seq < 10 ^ 64
  pub litres : litres_of c r.register < 10 ^ 64
  pub energy : nat_abs r.register.energy_mj < 10 ^ 64
  pub bound : r.register.bound_mj < 10 ^ 64

no_lf-decimal : (n : ℕ) → n < 10 ^ 64 → no_lf (decimal n) ≡ true
no_lf-decimal = decimal_by_steps_wide (λ n ds. no_lf ds ≡ true) (λ n small. no_lf_above (48 + n) (omega arith)) (λ n ds large h. no_lf_both ds ((48 + n % 10) ∷ []) h (no_lf_above (48 + n % 10) (omega arith)))

no_lf-signed : (z : ℤ) → nat_abs z < 10 ^ 64 → no_lf (signed_decimal z) ≡ true
no_lf-signed (pos n) h = no_lf-decimal n h
no_lf-signed (negsuc n) h = no_lf-decimal (suc n) h

no_lf-shown : (c : Settings) (r : MeterRecord) → IsPrintable c r → no_lf (codes "ok " ++ shown c r) ≡ true
no_lf-shown c r p =
    let seq : no_lf (decimal r.seq) ≡ true = no_lf-decimal _ p.seq in
    let litres : no_lf (decimal (litres_of c r.register)) ≡ true = no_lf-decimal _ p.litres in
    let energy : no_lf (signed_decimal r.register.energy_mj) ≡ true = no_lf-signed _ p.energy in
    let bound : no_lf (decimal r.register.bound_mj) ≡ true = no_lf-decimal _ p.bound in
    simp (no_lf-append, seq, litres, energy, bound) refl

pub ends_line-ok_text : (c : Settings) (r : MeterRecord) → ends_line (ok_text c r) ≡ true
ends_line-ok_text c r = ends_line-append_lf (codes "ok " ++ shown c r)

-- a front of an `ok` line is no output line, but where it is the whole
pub front_of_ok_text : (c : Settings) (r : MeterRecord) (n : ℕ) → IsPrintable c r → ends_line (take n (ok_text c r)) ≡ true → take n (ok_text c r) ≡ ok_text c r
front_of_ok_text c r n p ends = front_of_line (codes "ok " ++ shown c r) n (no_lf-shown c r p) ends

-- ---- texts that are one line

-- a text has its LF at its end alone: a front of it is no output line, or it is the whole
pub record IsOneLine (text : List ℕ) : Type 0 where
  pub ends : ends_line text ≡ true
  pub whole_or_part : (count : ℕ) → (take count text ≡ text) ⊎ (ends_line (take count text) ≡ false)
  pub some : 0 < length text

-- bytes without LF, and one behind them
one_line-append_lf : (xs : List ℕ) → no_lf xs ≡ true → IsOneLine (xs ++ 10 ∷ [])
one_line-append_lf xs none = record {
  ends = ends_line-append_lf xs;
  whole_or_part = λ count. by_cases count (cases_Bool (ends_line (take count (xs ++ 10 ∷ []))));
  some = omega (arith, length-append xs (10 ∷ []));
} where
  by_cases : (count : ℕ) → (ends_line (take count (xs ++ 10 ∷ [])) ≡ true) ⊎ (ends_line (take count (xs ++ 10 ∷ [])) ≡ false) → (take count (xs ++ 10 ∷ []) ≡ xs ++ 10 ∷ []) ⊎ (ends_line (take count (xs ++ 10 ∷ [])) ≡ false)
  by_cases count (inl ends) = inl (front_of_line xs count none ends)
  by_cases count (inr part) = inr part

pub one_line-ok_text : (c : Settings) (r : MeterRecord) → IsPrintable c r → IsOneLine (ok_text c r)
one_line-ok_text c r p = one_line-append_lf (codes "ok " ++ shown c r) (no_lf-shown c r p)

-- the line of a recovered record
pub one_line-power_text : (c : Settings) (r : MeterRecord) → IsPrintable c r → IsOneLine (power_text c r)
one_line-power_text c r p =
    let seq : no_lf (decimal r.seq) ≡ true = no_lf-decimal _ p.seq in
    let litres : no_lf (decimal (litres_of c r.register)) ≡ true = no_lf-decimal _ p.litres in
    let energy : no_lf (signed_decimal r.register.energy_mj) ≡ true = no_lf-signed _ p.energy in
    let bound : no_lf (decimal r.register.bound_mj) ≡ true = no_lf-decimal _ p.bound in
    one_line-append_lf (codes "power " ++ shown c r) (simp (no_lf-append, seq, litres, energy, bound) refl)

pub one_line-armed_text : IsOneLine armed_text
one_line-armed_text = one_line-append_lf (codes "armed") refl

-- ---- the texts of readouts

-- a table without LF gives none at any place: outside of it 0 is read
not_lf_at : (t : List ℕ) (i : ℕ) → no_lf t ≡ true → not (slice_index t i == 10) ≡ true
not_lf_at [] i none = refl
not_lf_at (c ∷ cs) zero none = (and_parts _ _ none).0
not_lf_at (c ∷ cs) (suc i) none = not_lf_at cs i (and_parts _ _ none).1

no_lf-encode_with : (t bytes : List ℕ) → no_lf t ≡ true → no_lf (encode_with t bytes) ≡ true
unfolding encode_with
no_lf-encode_with t [] none = refl
no_lf-encode_with t (b ∷ rest) none = and_from _ _ (not_lf_at t (b / 16) none) (and_from _ _ (not_lf_at t (b % 16) none) (no_lf-encode_with t rest none))

no_lf-reply : (reply : Option (List ℕ)) → no_lf (reply_shown reply) ≡ true
no_lf-reply None = refl
no_lf-reply (Some bytes) = no_lf-encode_with lower_digits bytes refl

one_line-readout_text : (name : List ℕ) (r : MeterRecord) (reply : Option (List ℕ)) → no_lf name ≡ true → r.seq < 10 ^ 64 → IsOneLine (readout_text name r reply)
one_line-readout_text name r reply none small =
    let seq : no_lf (decimal r.seq) ≡ true = no_lf-decimal _ small in
    let shows : no_lf (reply_shown reply) ≡ true = no_lf-reply reply in
    one_line-append_lf (name ++ codes " " ++ decimal r.seq ++ codes " " ++ reply_shown reply) (simp (no_lf-append, none, seq, shows) refl)

pub one_line-opt_text : (r : MeterRecord) (reply : Option (List ℕ)) → r.seq < 10 ^ 64 → IsOneLine (opt_text r reply)
one_line-opt_text r reply small = one_line-readout_text (codes "opt") r reply refl small

pub one_line-mbus_text : (r : MeterRecord) (reply : Option (List ℕ)) → r.seq < 10 ^ 64 → IsOneLine (mbus_text r reply)
one_line-mbus_text r reply small = one_line-readout_text (codes "mbus") r reply refl small
