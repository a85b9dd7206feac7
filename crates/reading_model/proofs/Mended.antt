-- The endings of a form of texts mend each text that some bytes mend, and no other.
use Rattle.std.proofs.Common.{◌≡◌, ◌∙◌, ◌↔◌, ◌⊎◌, ℕ, zero, suc, ◌+◌, ◌-◌, ◌<◌, ◌≤◌, ◌==◌, ◌&&◌, inl, inr, Bool, true, false, if◌then◌else◌, nat_eq, List, [], ◌∷◌, ◌++◌, length, take, drop, None, Some, refl, sym, ap, subst, ap₂, eq-eqb, arith}
use Rattle.std.specs.Prelude.{codes, is_some}
use Rattle.std.specs.List.{list_any}
use Rattle.std.specs.Cmp.Lexicographic.{pointwise}
use Rattle.std.proofs.Math.Seq.{drop-append_seam}
use Rattle.std.proofs.lemmas.Bool.{leb-true, eqb-true, ne_eqb, and_parts, and_from, or_cases, or_left, or_right, cases_Bool, cases_lt, false≢true}
use Rattle.script_model.specs.Numbers.{is_digit, all_digits}
use Rattle.reading_model.specs.Rules.{byte}
use Rattle.reading_model.specs.Messages.{Form, is_mended, CanBeMended, serial_form, serial_said, number_form, number_said, number_size, decimals_of, digits_of, is_point, same_form}

-- ---- an ending that mends is bytes that mend

some_ending : {Said : Type 0} (form : Form Said) (text : List ℕ) (endings : List (List ℕ)) → list_any (λ ending. is_some (form.said (text ++ drop (length text) ending))) endings ≡ true → CanBeMended form text
some_ending form text [] none = absurd (false≢true none)
some_ending form text (e ∷ es) some =
    elim (or_cases _ _ some) [
      | inl is ↦ (drop (length text) e, is)
      | inr later ↦ some_ending form text es later
    ]

pub ending_mends : {Said : Type 0} (form : Form Said) (text : List ℕ) → is_mended form text ≡ true → CanBeMended form text
unfolding is_mended
ending_mends form text is = some_ending form text form.endings is

some_if : {A : Type 0} (b : Bool) (x : A) → is_some (if b then Some x else None) ≡ true → b ≡ true
some_if true x some = refl
some_if false x some = some

-- ---- texts with a test for each byte

fits : List (ℕ → Bool) → List ℕ → Bool
fits [] [] = true
fits [] (b ∷ bs) = false
fits (t ∷ ts) [] = false
fits (t ∷ ts) (b ∷ bs) = t b && fits ts bs

-- what begins as a text that fits goes on as any other that fits
goes_on : (tests : List (ℕ → Bool)) (text more ending : List ℕ) → fits tests (text ++ more) ≡ true → fits tests ending ≡ true → fits tests (text ++ drop (length text) ending) ≡ true
unfolding fits
goes_on tests [] more ending begun whole = whole
goes_on [] (b ∷ bs) more ending begun whole = absurd (false≢true begun)
goes_on (t ∷ ts) (b ∷ bs) more [] begun whole = absurd (false≢true whole)
goes_on (t ∷ ts) (b ∷ bs) more (e ∷ es) begun whole =
    let h = and_parts _ _ begun in
    and_from _ _ h.0 (goes_on ts bs more es h.1 (and_parts _ _ whole).1)

digit_tests : ℕ → List (ℕ → Bool)
digit_tests zero = []
digit_tests (suc n) = is_digit ∷ digit_tests n

digits_fit : (n : ℕ) (text : List ℕ) → length text ≡ n → all_digits text ≡ true → fits (digit_tests n) text ≡ true
unfolding fits digit_tests
digits_fit zero [] sized digits = refl
digits_fit zero (b ∷ bs) sized digits = absurd (omega arith)
digits_fit (suc n) [] sized digits = absurd (omega arith)
digits_fit (suc n) (b ∷ bs) sized digits = let h = and_parts _ _ digits in and_from _ _ h.0 (digits_fit n bs (omega arith) h.1)

fit_digits : (n : ℕ) (text : List ℕ) → fits (digit_tests n) text ≡ true → (length text ≡ n) × (all_digits text ≡ true)
unfolding fits digit_tests
fit_digits zero [] fit = (refl, refl)
fit_digits zero (b ∷ bs) fit = absurd (false≢true fit)
fit_digits (suc n) [] fit = absurd (false≢true fit)
fit_digits (suc n) (b ∷ bs) fit =
    let h = and_parts _ _ fit in
    let others = fit_digits n bs h.1 in
    (ap suc others.0, and_from _ _ h.0 others.1)

-- digits go on as digits
digits_go_on : (n : ℕ) (text ending : List ℕ) → length text ≤ n → all_digits text ≡ true → fits (digit_tests n) ending ≡ true → fits (digit_tests n) (text ++ drop (length text) ending) ≡ true
unfolding fits digit_tests
digits_go_on n [] ending short digits whole = whole
digits_go_on zero (b ∷ bs) ending short digits whole = absurd (omega arith)
digits_go_on (suc n) (b ∷ bs) [] short digits whole = absurd (false≢true whole)
digits_go_on (suc n) (b ∷ bs) (e ∷ es) short digits whole =
    let h = and_parts _ _ digits in
    and_from _ _ h.0 (digits_go_on n bs es (omega arith) h.1 (and_parts _ _ whole).1)

-- what lies before so many digits end is digits
digits_before : (p : ℕ) (tests : List (ℕ → Bool)) (text more : List ℕ) → length text ≤ p → fits (digit_tests p ++ tests) (text ++ more) ≡ true → all_digits text ≡ true
unfolding fits digit_tests
digits_before p tests [] more short fit = refl
digits_before zero tests (b ∷ bs) more short fit = absurd (omega arith)
digits_before (suc p) tests (b ∷ bs) more short fit =
    let h = and_parts _ _ fit in
    and_from _ _ h.0 (digits_before p tests bs more (omega arith) h.1)

fit_append : (tests : List (ℕ → Bool)) (text : List ℕ) → fits (tests ++ []) text ≡ fits tests text
unfolding fits
fit_append [] text = refl
fit_append (t ∷ ts) [] = refl
fit_append (t ∷ ts) (b ∷ bs) = ap (λ rest. t b && rest) (fit_append ts bs)

-- ---- serial numbers

serial_tests : (text : List ℕ) → is_some (serial_said text) ≡ true → fits (digit_tests 8) text ≡ true
unfolding serial_said
serial_tests text some =
    let h = and_parts _ _ (some_if _ _ some) in
    digits_fit 8 text (eqb-true _ _ h.0) h.1

serial_passed : (text : List ℕ) → fits (digit_tests 8) text ≡ true → is_some (serial_said text) ≡ true
unfolding serial_said
serial_passed text fit =
    let h = fit_digits 8 text fit in
    rw (eq-eqb _ _ h.0, h.1) refl

eight_zeros : fits (digit_tests 8) (codes "00000000") ≡ true
unfolding fits digit_tests
eight_zeros = refl

pub serial_mended : (text : List ℕ) → is_mended serial_form text ≡ true ↔ CanBeMended serial_form text
unfolding is_mended
serial_mended text = (
  ending_mends serial_form text,
  λ can. or_left _ _ (serial_passed _ (goes_on (digit_tests 8) text can.0 (codes "00000000") (serial_tests (text ++ can.0) can.1) eight_zeros)),
)

-- ---- numbers

digit_no_point : (b : ℕ) → is_digit b ≡ true → is_point b ≡ false
digit_no_point b digit = ne_eqb b 46 (λ same. omega (arith, same, leb-true 48 b (and_parts _ _ digit).0))

-- so many digits, a point, and so many digits
abbrev pointed_tests : (p k : ℕ) → List (ℕ → Bool)
pointed_tests p k = digit_tests p ++ is_point ∷ digit_tests k

pointed_fit : (p k : ℕ) (text : List ℕ) → length text ≡ suc p + k → is_point (byte text p) ≡ true → all_digits (take p text ++ drop (suc p) text) ≡ true → fits (pointed_tests p k) text ≡ true
unfolding fits digit_tests
pointed_fit p k [] sized point digits = absurd (omega arith)
pointed_fit zero k (b ∷ bs) sized point digits = and_from _ _ point (digits_fit k bs (omega arith) digits)
pointed_fit (suc p) k (b ∷ bs) sized point digits =
    let h = and_parts _ _ digits in
    and_from _ _ h.0 (pointed_fit p k bs (omega arith) point h.1)

record Pointed (p k : ℕ) (text : List ℕ) : Type 0 where
  size : length text ≡ suc p + k
  point : is_point (byte text p) ≡ true
  digits : all_digits (take p text ++ drop (suc p) text) ≡ true

fit_pointed : (p k : ℕ) (text : List ℕ) → fits (pointed_tests p k) text ≡ true → Pointed p k text
unfolding fits digit_tests
fit_pointed zero k [] fit = absurd (false≢true fit)
fit_pointed (suc p) k [] fit = absurd (false≢true fit)
fit_pointed zero k (b ∷ bs) fit =
    let h = and_parts _ _ fit in
    let behind = fit_digits k bs h.1 in
    record { size = omega (arith, behind.0); point = h.0; digits = behind.1 }
fit_pointed (suc p) k (b ∷ bs) fit =
    let h = and_parts _ _ fit in
    let behind = fit_pointed p k bs h.1 in
    record { size = omega (arith, behind.size); point = behind.point; digits = and_from _ _ h.0 behind.digits }

no_point_before : (p : ℕ) (tests : List (ℕ → Bool)) (text : List ℕ) (place : ℕ) → place < p → fits (digit_tests p ++ tests) text ≡ true → is_point (byte text place) ≡ false
unfolding fits digit_tests
no_point_before zero tests text place before fit = absurd (omega arith)
no_point_before (suc p) tests [] place before fit = absurd (false≢true fit)
no_point_before (suc p) tests (b ∷ bs) zero before fit = digit_no_point b (and_parts _ _ fit).0
no_point_before (suc p) tests (b ∷ bs) (suc place) before fit = no_point_before p tests bs place (omega arith) (and_parts _ _ fit).1

plain_said : (text : List ℕ) → fits (digit_tests 8) text ≡ true → is_some (number_said text) ≡ true
unfolding number_said number_size decimals_of digits_of
plain_said text fit =
    let h = fit_digits 8 text fit in
    let none : (place : ℕ) → place < 8 → is_point (byte text place) ≡ false = λ place before. no_point_before 8 [] text place before (fit_append (digit_tests 8) text ∙ fit) in
    rw (none 5 (omega arith), none 6 (omega arith), none 7 (omega arith), eq-eqb _ _ h.0, h.1) refl

three_said : (text : List ℕ) → fits (pointed_tests 5 3) text ≡ true → is_some (number_said text) ≡ true
unfolding number_said number_size decimals_of digits_of
three_said text fit =
    let h = fit_pointed 5 3 text fit in
    rw (h.point, eq-eqb (length text) 9 h.size, h.digits) refl

two_said : (text : List ℕ) → fits (pointed_tests 6 2) text ≡ true → is_some (number_said text) ≡ true
unfolding number_said number_size decimals_of digits_of
two_said text fit =
    let h = fit_pointed 6 2 text fit in
    let none = no_point_before 6 (is_point ∷ digit_tests 2) text in
    rw (none 5 (omega arith) fit, h.point, eq-eqb (length text) 9 h.size, h.digits) refl

one_said : (text : List ℕ) → fits (pointed_tests 7 1) text ≡ true → is_some (number_said text) ≡ true
unfolding number_said number_size decimals_of digits_of
one_said text fit =
    let h = fit_pointed 7 1 text fit in
    let none = no_point_before 7 (is_point ∷ digit_tests 1) text in
    rw (none 5 (omega arith) fit, none 6 (omega arith) fit, h.point, eq-eqb (length text) 9 h.size, h.digits) refl

-- a number fits as eight digits, or with its point in one of three places
abbrev FitsNumber : List ℕ → Type 0
FitsNumber text = (fits (digit_tests 8) text ≡ true) ⊎ ((fits (pointed_tests 5 3) text ≡ true) ⊎ ((fits (pointed_tests 6 2) text ≡ true) ⊎ (fits (pointed_tests 7 1) text ≡ true)))

record OfDecimals (decimals size : ℕ) (text : List ℕ) : Type 0 where
  sized : length text ≡ size
  digits : all_digits (digits_of decimals text) ≡ true

of_decimals : (decimals : ℕ) (text : List ℕ) → decimals_of text ≡ decimals → is_some (number_said text) ≡ true → OfDecimals decimals (if decimals == 0 then 8 else 9) text
unfolding number_said number_size
of_decimals decimals text are some =
    let h = and_parts _ _ (some_if _ _ some) in
    record {
      sized = eqb-true _ _ h.0 ∙ ap (λ d. if d == 0 then 8 else 9) are;
      digits = sym (ap (λ d. all_digits (digits_of d text)) are) ∙ h.1;
    }

number_tests : (text : List ℕ) → is_some (number_said text) ≡ true → FitsNumber text
unfolding decimals_of digits_of
number_tests text some =
    elim (cases_Bool (is_point (byte text 5))) [
      | inl five ↦ let h = of_decimals 3 text (rw five refl) some in inr (inl (pointed_fit 5 3 text h.sized five h.digits))
      | inr no5 ↦ elim (cases_Bool (is_point (byte text 6))) [
        | inl six ↦ let h = of_decimals 2 text (rw (no5, six) refl) some in inr (inr (inl (pointed_fit 6 2 text h.sized six h.digits)))
        | inr no6 ↦ elim (cases_Bool (is_point (byte text 7))) [
          | inl seven ↦ let h = of_decimals 1 text (rw (no5, no6, seven) refl) some in inr (inr (inr (pointed_fit 7 1 text h.sized seven h.digits)))
          | inr no7 ↦ let h = of_decimals 0 text (rw (no5, no6, no7) refl) some in inl (digits_fit 8 text h.sized h.digits)
        ]
      ]
    ]

-- behind the seventh byte, and behind the eighth, the endings with a point are the same
seventh : (n : ℕ) → drop (suc (suc (suc (suc (suc (suc (suc n))))))) (codes "000000.00") ≡ drop (suc (suc (suc (suc (suc (suc (suc n))))))) (codes "00000.000")
seventh n = refl

eighth : (n : ℕ) → drop (suc (suc (suc (suc (suc (suc (suc (suc n)))))))) (codes "0000000.0") ≡ drop (suc (suc (suc (suc (suc (suc (suc (suc n)))))))) (codes "00000.000")
eighth n = refl

from_seventh : (n : ℕ) → 6 < n → drop n (codes "000000.00") ≡ drop n (codes "00000.000")
from_seventh n behind =
    let is : suc (suc (suc (suc (suc (suc (suc (n - 7))))))) ≡ n = omega arith in
    subst (λ k. drop k (codes "000000.00") ≡ drop k (codes "00000.000")) is (seventh (n - 7))

from_eighth : (n : ℕ) → 7 < n → drop n (codes "0000000.0") ≡ drop n (codes "00000.000")
from_eighth n behind =
    let is : suc (suc (suc (suc (suc (suc (suc (suc (n - 8)))))))) ≡ n = omega arith in
    subst (λ k. drop k (codes "0000000.0") ≡ drop k (codes "00000.000")) is (eighth (n - 8))

-- with a point behind p bytes: what ends before the point is mended as eight digits, and what has it as another with it there
pointed_mended : (p k : ℕ) (text more ending : List ℕ) → p ≤ 8 → fits (pointed_tests p k) (text ++ more) ≡ true → fits (pointed_tests p k) ending ≡ true
    → (p < length text → drop (length text) ending ≡ drop (length text) (codes "00000.000"))
    → ((t : List ℕ) → fits (pointed_tests p k) t ≡ true → is_some (number_said t) ≡ true)
    → is_mended number_form text ≡ true
unfolding is_mended
pointed_mended p k text more ending few begun whole same said =
    elim (cases_lt p (length text)) [
      | inl behind ↦ or_right (is_some (number_said (text ++ drop (length text) (codes "00000000")))) _
          (or_left _ false (ap (λ e. is_some (number_said (text ++ e))) (sym (same behind)) ∙ said _ (goes_on (pointed_tests p k) text more ending begun whole)))
      | inr before ↦ or_left _ _ (plain_said _ (digits_go_on 8 text (codes "00000000") (omega arith) (digits_before p (is_point ∷ digit_tests k) text more before begun) eight_zeros))
    ]

three_decimals : fits (pointed_tests 5 3) (codes "00000.000") ≡ true
unfolding fits digit_tests
three_decimals = refl

two_decimals : fits (pointed_tests 6 2) (codes "000000.00") ≡ true
unfolding fits digit_tests
two_decimals = refl

one_decimal : fits (pointed_tests 7 1) (codes "0000000.0") ≡ true
unfolding fits digit_tests
one_decimal = refl

bytes_mend_number : (text more : List ℕ) → FitsNumber (text ++ more) → is_mended number_form text ≡ true
unfolding is_mended
bytes_mend_number text more (inl plain) = or_left _ _ (plain_said _ (goes_on (digit_tests 8) text more (codes "00000000") plain eight_zeros))
bytes_mend_number text more (inr (inl three)) = pointed_mended 5 3 text more (codes "00000.000") (omega arith) three three_decimals (λ behind. refl) three_said
bytes_mend_number text more (inr (inr (inl two))) = pointed_mended 6 2 text more (codes "000000.00") (omega arith) two two_decimals (from_seventh (length text)) two_said
bytes_mend_number text more (inr (inr (inr one))) = pointed_mended 7 1 text more (codes "0000000.0") (omega arith) one one_decimal (from_eighth (length text)) one_said

pub number_mended : (text : List ℕ) → is_mended number_form text ≡ true ↔ CanBeMended number_form text
number_mended text = (ending_mends number_form text, λ can. bytes_mend_number text can.0 (number_tests (text ++ can.0) can.1))

-- ---- the second day of a mark

same_is : (text before : List ℕ) → pointwise nat_eq text before ≡ true → text ≡ before
same_is [] [] same = refl
same_is [] (c ∷ cs) same = absurd (false≢true same)
same_is (b ∷ bs) [] same = absurd (false≢true same)
same_is (b ∷ bs) (c ∷ cs) same =
    let h = and_parts _ _ same in
    ap₂ (λ first others. first ∷ others) (eqb-true b c h.0) (same_is bs cs h.1)

pub same_mended : (before text : List ℕ) → is_mended (same_form before) text ≡ true ↔ CanBeMended (same_form before) text
unfolding is_mended
same_mended before text = (
  ending_mends (same_form before) text,
  λ can.
      let is : text ++ can.0 ≡ before = same_is (text ++ can.0) before (some_if _ before can.1) in
      let rest : drop (length text) before ≡ can.0 = ap (drop (length text)) (sym is) ∙ drop-append_seam text can.0 in
      or_left _ _ (ap (λ more. is_some ((same_form before).said (text ++ more))) rest ∙ can.1),
)
