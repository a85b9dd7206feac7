-- A text of a form: cut short, wrong, or right.
use Rattle.std.proofs.Common.{◌≡◌, ◌∙◌, ℕ, ◌<◌, ◌≤◌, Bool, true, false, cond, List, [], ◌∷◌, ◌++◌, ◌^◌, ◌||◌, nat_eq, length, take, drop, nat_le, ◌==◌, if◌then◌else◌, None, Some, Ok, Err, refl, sym, arith}
use Rattle.std.proofs.lemmas.Bool.{le-leb}
use Rattle.reading_model.specs.Messages.{Form, text_of, is_mended, number_size, decimals_of, same_form, behind}
use Rattle.std.specs.Prelude.{is_some}
use Rattle.std.specs.Cmp.Lexicographic.{pointwise}
use Rattle.std.proofs.Math.Nat.{pow-le-pow_right}
use Rattle.readout_reader.proofs.Same.{begins}

short : (n size : ℕ) → n < size → nat_le size n ≡ false
short n size lt = grind arith

pub text_cut : {Said : Type 0} (form : Form Said) (size : ℕ) (bytes : List ℕ) (mended : Bool) (left : ℕ) → length bytes < size → mended ≡ is_mended form bytes → left ≡ cond mended 0 (length bytes) → text_of form size bytes ≡ Err left
unfolding text_of
text_cut form size bytes true left lt is same = rw (short (length bytes) size lt, ← is, same) refl
text_cut form size bytes false left lt is same = rw (short (length bytes) size lt, ← is, same) refl

pub text_right : {Said : Type 0} (form : Form Said) (size : ℕ) (bytes : List ℕ) (x : Said) → size ≤ length bytes → form.said (take size bytes) ≡ Some x → text_of form size bytes ≡ Ok (x, drop size bytes)
unfolding text_of
text_right form size bytes x le is = rw (le-leb size (length bytes) le, is) refl

pub text_wrong : {Said : Type 0} (form : Form Said) (size : ℕ) (bytes : List ℕ) → size ≤ length bytes → form.said (take size bytes) ≡ None → text_of form size bytes ≡ Err (length bytes)
unfolding text_of
text_wrong form size bytes le is = rw (le-leb size (length bytes) le, is) refl

eight_or_nine : (b : Bool) → (if b then 8 else 9) ≤ 9
eight_or_nine true = omega arith
eight_or_nine false = omega arith

pub number_size-most : (text : List ℕ) → number_size text ≤ 9
unfolding number_size
number_size-most text = eight_or_nine (decimals_of text == 0)

pub ten_to : (k : ℕ) → k ≤ 7 → 10 ^ k ≤ 10000000
ten_to k le = pow-le-pow_right {n = 10} (omega arith) {i = k} {j = 7} le

same_or_none : (b : Bool) (before : List ℕ) → b ≡ (is_some (if b then Some before else None) || false)
same_or_none true before = refl
same_or_none false before = refl

pub same_mended : (before text : List ℕ) → length text ≤ length before → pointwise nat_eq text (take (length text) before) ≡ is_mended (same_form before) text
unfolding is_mended
same_mended before text short =
    sym (begins text before short) ∙ same_or_none (pointwise nat_eq (text ++ drop (length text) before) before) before

-- the bytes end where fixed ones go on
pub ended : (fixed bytes : List ℕ) → 1 ≤ length fixed → length bytes ≡ 0 → behind fixed bytes ≡ Err 0
ended [] bytes some none = absurd (omega arith)
ended (f ∷ fs) [] some none = refl
ended (f ∷ fs) (b ∷ bs) some none = absurd (omega arith)
