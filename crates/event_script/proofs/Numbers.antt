-- What a number word says, as far as it is read.
use Rattle.std.proofs.Common.{◌≡◌, ℕ, ◌+◌, ◌-◌, ◌*◌, ◌<◌, ◌≤◌, ◌&&◌, nat_le, cond, List, [], ◌∷◌, Some, None, get_or, suc, drop, length, ap, arith, sym, drop-cons}
use Rattle.std.proofs.lemmas.Bool.{and_right, lt-leb}
use Rattle.script_model.specs.Numbers.{value_after, number_in, is_number}

-- what follows does not make it smaller
pub value_rises : (n : ℕ) (cs : List ℕ) → n ≤ value_after n cs
value_rises n [] = omega arith
value_rises n (c ∷ cs) = omega (arith, value_rises (10 * n + (c - 48)) cs)

-- a number that is above the limit before its last digit is above it
pub too_large : (low high : ℕ) (word : List ℕ) (n i : ℕ) → i < length word → value_after n (drop i word) ≡ value_after 0 word → high < 10 * n + (get_or word i 0 - 48) → None ≡ number_in low high word
too_large low high word n i within e above =
    let step : value_after n (drop i word) ≡ value_after (10 * n + (get_or word i 0 - 48)) (drop (suc i) word) = ap (value_after n) (drop-cons word i 0 within) in
    let larger : high < value_after 0 word = omega (arith, value_rises (10 * n + (get_or word i 0 - 48)) (drop (suc i) word)) in
    ap (λ b. cond b (Some (value_after 0 word)) None) (sym (and_right (is_number word && nat_le low (value_after 0 word)) _ (lt-leb _ _ larger)))
