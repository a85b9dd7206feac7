-- A line `pulse N` that is read in one go.
use Rattle.std.proofs.Common.{◌≡◌, ℕ, ◌==◌, ◌&&◌, not, inl, inr, Bool, true, false, cond, nat_le, List, [], ◌∷◌, ◌++◌, Option, None, Some, Ok, arith, refl, sym, ap, ◌∙◌}
use Rattle.std.specs.Prelude.{IfSome, codes}
use Rattle.std.specs.List.{onto_first}
use Rattle.std.proofs.lemmas.Bool.{cases_Bool, eqb-true, leb-true}
use Rattle.metering_model.specs.Events.{Pulse}
use Rattle.script_model.specs.Lines.{words_of}
use Rattle.script_model.specs.Numbers.{all_digits, is_digit, is_number, number_in, value_after}
use Rattle.script_model.specs.Grammar.{◌>>=◌, Metering, end_at, line_of, pulse_line, said_by}
use Rattle.metering_model.specs.Limits.{max_pulses}
use Rattle.event_script.proofs.Cuts.{some_step}
use Rattle.event_script.proofs.Ends.{and_both, and_step}

-- a digit is no space
no_space : (c : ℕ) → is_digit c ≡ true → c == 32 ≡ false
no_space c digit =
    elim (cases_Bool (c == 32)) [
      | inl space ↦ let is : c ≡ 32 = eqb-true c 32 space in absurd (omega (arith, is, leb-true _ _ (and_step (nat_le 48 c) (nat_le c 57) digit).0))
      | inr other ↦ other
    ]

word_step : (b : Bool) (c : ℕ) (cs : List ℕ) → b ≡ false → words_of cs ≡ cs ∷ [] → cond b ([] ∷ words_of cs) (onto_first c (words_of cs)) ≡ (c ∷ cs) ∷ []
word_step true c cs other ih = absurd cc
word_step false c cs other ih = ap (onto_first c) ih

digits_are_one_word : (word : List ℕ) → all_digits word ≡ true → words_of word ≡ word ∷ []
digits_are_one_word [] digits = refl
digits_are_one_word (c ∷ cs) digits = let h = and_step (is_digit c) (all_digits cs) digits in word_step (c == 32) c cs (no_space c h.0) (digits_are_one_word cs h.1)

number_has_digits : (word : List ℕ) → is_number word ≡ true → all_digits word ≡ true
number_has_digits [] number = absurd cc
number_has_digits (c ∷ []) number = and_both (is_digit c) true number refl
number_has_digits (c ∷ d ∷ ds) number = (and_step (not (c == 48)) (all_digits (c ∷ d ∷ ds)) number).1

-- a number is one word
number_is_one_word : (low high n : ℕ) (word : List ℕ) → number_in low high word ≡ Some n → words_of word ≡ word ∷ []
number_is_one_word low high n word said =
    let value = value_after 0 word in
    let all = some_step (is_number word && nat_le low value && nat_le value high) value n said in
    let parts = and_step (is_number word && nat_le low value) (nat_le value high) all.0 in
    digits_are_one_word word (number_has_digits word (and_step (is_number word) (nat_le low value) parts.0).0)

-- what a line says that is `pulse ` and a number
said : (word : List ℕ) (n : ℕ) → number_in 1 max_pulses word ≡ Some n → line_of (codes "pulse " ++ word) ≡ Ok (Metering (Pulse n))
said word n number =
    ap pulse_line (number_is_one_word 1 max_pulses n word number)
    ∙ ap (λ (o : Option ℕ). said_by o 1 [] >>= λ m. end_at 2 (Metering (Pulse m.0)) m.1) number

pub pulses_said : (line word : List ℕ) (r : Option ℕ) → line ≡ codes "pulse " ++ word → r ≡ number_in 1 max_pulses word → IfSome r (λ n. line_of line ≡ Ok (Metering (Pulse n)))
pulses_said line word None is number = tt
pulses_said line word (Some n) is number = ap line_of is ∙ said word n (sym number)
