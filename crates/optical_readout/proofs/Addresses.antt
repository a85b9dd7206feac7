-- Addresses in requests, and texts without their leading zeros.
use Rattle.std.proofs.Common.{◌≡◌, ℕ, suc, ◌+◌, ◌-◌, ◌==◌, not, Bool, true, false, cond, if◌then◌else◌, nat_lt, List, [], ◌∷◌, Option, Some, None, take, drop, length, refl, arith, sym, ap, ◌∙◌, codes}
use Rattle.std.specs.List.{position_or_len}
use Rattle.std.proofs.lemmas.Bool.{ltb-false}
use Rattle.std.proofs.lemmas.List.{append_cancel_right, drop_all, take_rest}
use Rattle.optical_model.specs.Requests.{request, without_zeros}

-- a request has one address
pub request_same : (a b : List ℕ) → request a ≡ request b → a ≡ b
request_same a b e = append_cancel_right a b (codes "!\r\n") (ap (drop 2) e)

-- the bytes from the first other than zero on
zeros_step : (zero : Bool) (byte : ℕ) (bytes : List ℕ) → without_zeros bytes ≡ drop (position_or_len (λ b. not (b == 48)) bytes) bytes
    → (if zero then without_zeros bytes else byte ∷ bytes) ≡ drop (cond (not (not zero)) (1 + position_or_len (λ b. not (b == 48)) bytes) 0) (byte ∷ bytes)
zeros_step true byte bytes ih = let e : 1 + position_or_len (λ b. not (b == 48)) bytes ≡ suc (position_or_len (λ b. not (b == 48)) bytes) = omega arith in rw e ih
zeros_step false byte bytes ih = refl

zeros_gone : (text : List ℕ) → without_zeros text ≡ drop (position_or_len (λ b. not (b == 48)) text) text
zeros_gone [] = refl
zeros_gone (byte ∷ bytes) = zeros_step (byte == 48) byte bytes (zeros_gone bytes)

some_step : (b : Bool) (n at : ℕ) → cond b (Some n) None ≡ Some at → n ≡ at
some_step true n at e = cc
some_step false n at e = cc

none_step : (b : Bool) (n : ℕ) → cond b (Some n) None ≡ None → b ≡ false
none_step true n e = cc
none_step false n e = refl

pub zeros_some : (text : List ℕ) (r : Option ℕ) (at : ℕ) → r ≡ cond (nat_lt (position_or_len (λ b. not (b == 48)) text) (length text)) (Some (position_or_len (λ b. not (b == 48)) text)) None → r ≡ Some at → take (length text - at) (drop at text) ≡ without_zeros text
zeros_some text r at is some =
    take_rest text at ∙ ap (λ n. drop n text) (sym (some_step _ _ at (sym is ∙ some))) ∙ sym (zeros_gone text)

pub zeros_none : (text : List ℕ) (r : Option ℕ) → r ≡ cond (nat_lt (position_or_len (λ b. not (b == 48)) text) (length text)) (Some (position_or_len (λ b. not (b == 48)) text)) None → r ≡ None → [] ≡ without_zeros text
zeros_none text r is none =
    let end = ltb-false _ _ (none_step _ _ (sym is ∙ none)) in
    sym (zeros_gone text ∙ drop_all _ text end)
