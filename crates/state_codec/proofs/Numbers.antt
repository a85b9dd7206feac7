-- Numbers of bytes, as the standard library has them.
use Rattle.std.proofs.Common.{◌≡◌, ℕ, zero, suc, ◌+◌, ◌*◌, ◌≤◌, ◌<◌, List, [], ◌∷◌, length, get_or, take, drop, refl, ◌∙◌, ap, arith, length-drop, length-take}
use Rattle.std.specs.Int.{w16, w32, w64, w128, from_le_bytes}
use Rattle.std.proofs.lemmas.List.{drop_more}
use Rattle.memory_model.specs.Fields.{little_endian, part, number}

-- the number whose bytes f gives by their places
abbrev number_by : ℕ → (ℕ → ℕ) → ℕ
number_by zero f = 0
number_by (suc n) f = f 0 + 256 * number_by n (λ i. f (suc i))

by_places : (bs : List ℕ) → little_endian bs ≡ number_by (length bs) (λ i. get_or bs i 0)
by_places [] = refl
by_places (b ∷ bs) = ap (λ n. b + 256 * n) (by_places bs)

sized : (bs : List ℕ) (n : ℕ) → length bs ≡ n → little_endian bs ≡ number_by n (λ i. get_or bs i 0)
sized bs n size = by_places bs ∙ ap (λ m. number_by m (λ i. get_or bs i 0)) size

pub from_le_bytes_2 : (bs : List ℕ) → length bs ≡ 2 → from_le_bytes w16 bs ≡ little_endian bs
from_le_bytes_2 bs size = omega (arith, sized bs 2 size)

pub from_le_bytes_4 : (bs : List ℕ) → length bs ≡ 4 → from_le_bytes w32 bs ≡ little_endian bs
from_le_bytes_4 bs size = omega (arith, sized bs 4 size)

pub from_le_bytes_8 : (bs : List ℕ) → length bs ≡ 8 → from_le_bytes w64 bs ≡ little_endian bs
from_le_bytes_8 bs size = omega (arith, sized bs 8 size)

pub from_le_bytes_16 : (bs : List ℕ) → length bs ≡ 16 → from_le_bytes w128 bs ≡ little_endian bs
from_le_bytes_16 bs size = omega (arith, sized bs 16 size)

pub length-part : (at size : ℕ) (bytes : List ℕ) → at + size ≤ length bytes → length (part at size bytes) ≡ size
length-part at size bytes le = omega (arith, length-take size (drop at bytes), length-drop at bytes)

pub number_2 : (at : ℕ) (bytes : List ℕ) → at + 2 ≤ length bytes → from_le_bytes w16 (part at 2 bytes) ≡ number at 2 bytes
unfolding number
number_2 at bytes le = from_le_bytes_2 (part at 2 bytes) (length-part at 2 bytes le)

pub number_4 : (at : ℕ) (bytes : List ℕ) → at + 4 ≤ length bytes → from_le_bytes w32 (part at 4 bytes) ≡ number at 4 bytes
unfolding number
number_4 at bytes le = from_le_bytes_4 (part at 4 bytes) (length-part at 4 bytes le)

pub number_8 : (at : ℕ) (bytes : List ℕ) → at + 8 ≤ length bytes → from_le_bytes w64 (part at 8 bytes) ≡ number at 8 bytes
unfolding number
number_8 at bytes le = from_le_bytes_8 (part at 8 bytes) (length-part at 8 bytes le)

pub number_16 : (at : ℕ) (bytes : List ℕ) → at + 16 ≤ length bytes → from_le_bytes w128 (part at 16 bytes) ≡ number at 16 bytes
unfolding number
number_16 at bytes le = from_le_bytes_16 (part at 16 bytes) (length-part at 16 bytes le)

-- a number of one byte is the byte
pub number_1 : (at : ℕ) (bytes : List ℕ) → at + 1 ≤ length bytes → number at 1 bytes ≡ get_or bytes at 0
unfolding number
number_1 at bytes le =
    let lt : at < length bytes = omega arith in
    ap (λ l. little_endian (take 1 l)) (drop_more bytes at 0 lt) ∙ omega arith
