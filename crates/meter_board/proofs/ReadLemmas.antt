-- A read of a piece of what is left.
use Rattle.std.proofs.Common.{◌≡◌, ◌↔◌, ℕ, ◌≤◌, ◌<◌, List, [], ◌++◌, length, take, drop, min, sym, ◌∙◌, ap, arith}
use Rattle.std.proofs.lemmas.List.{nil_from_length, take-append-drop, take_at, length-take-le}

-- the front of what is left stands at the front of the buffer
pub read_gives : (left front back rest : List ℕ) (n piece room : ℕ) → front ≡ take n left → back ≡ drop n left → n ≡ min (min piece room) (length left) → 1 ≤ piece → 0 < room → (left ≡ take n (front ++ rest) ++ back) × ((n ≡ 0) ↔ (left ≡ []))
read_gives left front back rest n piece room is is_back count some space =
    let within : n ≤ length left = omega arith in
    let len : length front ≡ n = ap length is ∙ length-take-le n left within in (
      sym (take-append-drop n left) ∙ (λ i. sym is i ++ sym is_back i) ∙ ap (λ (l : List ℕ). l ++ back) (sym (take_at front rest n len)),
      ((λ none. nil_from_length left (omega arith)), (λ end. let size : length left ≡ 0 = ap length end in omega arith)),
    )
