-- Sixteen bytes and the number that they spell.
use Rattle.std.proofs.Common.{◌≡◌, ℕ, ◌+◌, ◌*◌, ◌/◌, ◌%◌, ◌^◌, ◌<◌, List, [], ◌∷◌, ◌++◌, length, get_or, take, drop, inl, inr, refl, sym, ◌∙◌, ap, arith}
use Rattle.std.specs.Int.{w64, w128, from_le_bytes, to_le_bytes}
use Rattle.std.proofs.Math.Nat as nat
use Rattle.std.proofs.lemmas.List.{take-append-drop, length-take, length-drop, get_or-take, get_or-drop, get_or_past, take_all}
use Rattle.std.proofs.lemmas.Bool.{cases_lt}
use Rattle.std.proofs.lemmas.Nat.{le_bytes_8, from_le_bytes-to_le_bytes_8}

low_0 : (n : ℕ) → n % 256 ≡ (n % 18446744073709551616) % 256
low_0 n = omega arith

low_1 : (n : ℕ) → n / 256 % 256 ≡ (n % 18446744073709551616) / 256 % 256
low_1 n = omega arith

low_2 : (n : ℕ) → n / 65536 % 256 ≡ (n % 18446744073709551616) / 65536 % 256
low_2 n = omega arith

low_3 : (n : ℕ) → n / 16777216 % 256 ≡ (n % 18446744073709551616) / 16777216 % 256
low_3 n = omega arith

low_4 : (n : ℕ) → n / 4294967296 % 256 ≡ (n % 18446744073709551616) / 4294967296 % 256
low_4 n = omega arith

low_5 : (n : ℕ) → n / 1099511627776 % 256 ≡ (n % 18446744073709551616) / 1099511627776 % 256
low_5 n = omega arith

low_6 : (n : ℕ) → n / 281474976710656 % 256 ≡ (n % 18446744073709551616) / 281474976710656 % 256
low_6 n = omega arith

low_7 : (n : ℕ) → n / 72057594037927936 % 256 ≡ (n % 18446744073709551616) / 72057594037927936 % 256
low_7 n = omega arith

high_0 : (n : ℕ) → n / 18446744073709551616 % 256 ≡ (n / 18446744073709551616) % 256
high_0 n = refl

high_1 : (n : ℕ) → n / 4722366482869645213696 % 256 ≡ (n / 18446744073709551616) / 256 % 256
high_1 n = ap (λ (m : ℕ). m % 256) (sym (nat.div-div-eq-div-mul n 18446744073709551616 256))

high_2 : (n : ℕ) → n / 1208925819614629174706176 % 256 ≡ (n / 18446744073709551616) / 65536 % 256
high_2 n = ap (λ (m : ℕ). m % 256) (sym (nat.div-div-eq-div-mul n 18446744073709551616 65536))

high_3 : (n : ℕ) → n / 309485009821345068724781056 % 256 ≡ (n / 18446744073709551616) / 16777216 % 256
high_3 n = ap (λ (m : ℕ). m % 256) (sym (nat.div-div-eq-div-mul n 18446744073709551616 16777216))

high_4 : (n : ℕ) → n / 79228162514264337593543950336 % 256 ≡ (n / 18446744073709551616) / 4294967296 % 256
high_4 n = ap (λ (m : ℕ). m % 256) (sym (nat.div-div-eq-div-mul n 18446744073709551616 4294967296))

high_5 : (n : ℕ) → n / 20282409603651670423947251286016 % 256 ≡ (n / 18446744073709551616) / 1099511627776 % 256
high_5 n = ap (λ (m : ℕ). m % 256) (sym (nat.div-div-eq-div-mul n 18446744073709551616 1099511627776))

high_6 : (n : ℕ) → n / 5192296858534827628530496329220096 % 256 ≡ (n / 18446744073709551616) / 281474976710656 % 256
high_6 n = ap (λ (m : ℕ). m % 256) (sym (nat.div-div-eq-div-mul n 18446744073709551616 281474976710656))

high_7 : (n : ℕ) → n / 1329227995784915872903807060280344576 % 256 ≡ (n / 18446744073709551616) / 72057594037927936 % 256
high_7 n = ap (λ (m : ℕ). m % 256) (sym (nat.div-div-eq-div-mul n 18446744073709551616 72057594037927936))

-- the bytes of both halves
pub halves : (n : ℕ) → to_le_bytes w128 n ≡ to_le_bytes w64 (n % 18446744073709551616) ++ to_le_bytes w64 (n / 18446744073709551616)
halves n = λ i. low_0 n i ∷ low_1 n i ∷ low_2 n i ∷ low_3 n i ∷ low_4 n i ∷ low_5 n i ∷ low_6 n i ∷ low_7 n i ∷ high_0 n i ∷ high_1 n i ∷ high_2 n i ∷ high_3 n i ∷ high_4 n i ∷ high_5 n i ∷ high_6 n i ∷ high_7 n i ∷ []

-- the number of both halves
pub joined : (bs : List ℕ) → from_le_bytes w128 bs ≡ from_le_bytes w64 (take 8 bs) + 18446744073709551616 * from_le_bytes w64 (take 8 (drop 8 bs))
joined bs = omega (arith, get_or-take 8 bs 0 0 (omega arith), get_or-take 8 bs 1 0 (omega arith), get_or-take 8 bs 2 0 (omega arith), get_or-take 8 bs 3 0 (omega arith), get_or-take 8 bs 4 0 (omega arith), get_or-take 8 bs 5 0 (omega arith), get_or-take 8 bs 6 0 (omega arith), get_or-take 8 bs 7 0 (omega arith), get_or-take 8 (drop 8 bs) 0 0 (omega arith), get_or-drop 8 bs 0 0, get_or-take 8 (drop 8 bs) 1 0 (omega arith), get_or-drop 8 bs 1 0, get_or-take 8 (drop 8 bs) 2 0 (omega arith), get_or-drop 8 bs 2 0, get_or-take 8 (drop 8 bs) 3 0 (omega arith), get_or-drop 8 bs 3 0, get_or-take 8 (drop 8 bs) 4 0 (omega arith), get_or-drop 8 bs 4 0, get_or-take 8 (drop 8 bs) 5 0 (omega arith), get_or-drop 8 bs 5 0, get_or-take 8 (drop 8 bs) 6 0 (omega arith), get_or-drop 8 bs 6 0, get_or-take 8 (drop 8 bs) 7 0 (omega arith), get_or-drop 8 bs 7 0)

pub from_le_bytes-to_le_bytes_16 : (n : ℕ) → n < 2 ^ 128 → from_le_bytes w128 (to_le_bytes w128 n) ≡ n
from_le_bytes-to_le_bytes_16 n fits =
    let low = from_le_bytes-to_le_bytes_8 (n % 18446744073709551616) (omega arith) in
    let high = from_le_bytes-to_le_bytes_8 (n / 18446744073709551616) (omega arith) in
    ap (λ (l : List ℕ). from_le_bytes w128 l) (halves n) ∙ joined (to_le_bytes w64 (n % 18446744073709551616) ++ to_le_bytes w64 (n / 18446744073709551616)) ∙ omega (arith, low, high)

below_64 : (bs : List ℕ) → ((i : ℕ) → get_or bs i 0 < 256) → from_le_bytes w64 bs < 18446744073709551616
below_64 bs small = omega (arith, small 0, small 1, small 2, small 3, small 4, small 5, small 6, small 7)

split_low : (n a b : ℕ) → a < 18446744073709551616 → n ≡ a + 18446744073709551616 * b → n % 18446744073709551616 ≡ a
split_low n a b lt is = omega arith

split_high : (n a b : ℕ) → a < 18446744073709551616 → n ≡ a + 18446744073709551616 * b → n / 18446744073709551616 ≡ b
split_high n a b lt is = omega arith

taken : (bs : List ℕ) (n : ℕ) → ((i : ℕ) → get_or bs i 0 < 256) → (i : ℕ) → get_or (take n bs) i 0 < 256
taken bs n small i =
    elim (cases_lt i n) [
      | inl lt ↦ rw (get_or-take n bs i 0 lt) (small i)
      | inr le ↦ rw (get_or_past (take n bs) i 0 (omega (arith, length-take n bs))) (omega arith)
    ]

pub le_bytes_16 : (bs : List ℕ) (n : ℕ) → length bs ≡ 16 → ((i : ℕ) → get_or bs i 0 < 256) → n ≡ from_le_bytes w128 bs → to_le_bytes w128 n ≡ bs
le_bytes_16 bs n size small is =
    let front : (i : ℕ) → get_or (take 8 bs) i 0 < 256 = λ i. taken bs 8 small i in
    let back : (i : ℕ) → get_or (drop 8 bs) i 0 < 256 = λ i. rw get_or-drop (small (8 + i)) in
    let whole_back : take 8 (drop 8 bs) ≡ drop 8 bs = take_all 8 (drop 8 bs) (omega (arith, length-drop 8 bs)) in
    let parts : n ≡ from_le_bytes w64 (take 8 bs) + 18446744073709551616 * from_le_bytes w64 (drop 8 bs) = is ∙ joined bs ∙ ap (λ (l : List ℕ). from_le_bytes w64 (take 8 bs) + 18446744073709551616 * from_le_bytes w64 l) whole_back in
    let low_is : n % 18446744073709551616 ≡ from_le_bytes w64 (take 8 bs) = split_low n (from_le_bytes w64 (take 8 bs)) (from_le_bytes w64 (drop 8 bs)) (below_64 (take 8 bs) front) parts in
    let high_is : n / 18446744073709551616 ≡ from_le_bytes w64 (drop 8 bs) = split_high n (from_le_bytes w64 (take 8 bs)) (from_le_bytes w64 (drop 8 bs)) (below_64 (take 8 bs) front) parts in
    halves n
    ∙ (λ i. le_bytes_8 (take 8 bs) (n % 18446744073709551616) (omega (arith, length-take 8 bs)) front low_is i ++ le_bytes_8 (drop 8 bs) (n / 18446744073709551616) (omega (arith, length-drop 8 bs)) back high_is i)
    ∙ take-append-drop 8 bs
