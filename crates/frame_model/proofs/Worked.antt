-- Frames and their bytes, worked by hand.
use Rattle.std.proofs.Common.{◌≡◌, ℕ, true, nat_lt, ◌<◌, List, [], ◌∷◌, length, get_or, refl, ap, arith}
use Rattle.std.specs.List.{list_all}
use Rattle.std.proofs.lemmas.List.Elements.{All-nil, All-cons}
use Rattle.frame_model.specs.Frames.{Frame, Ack, Short, Long, Spells, checksum, frame_bytes}
use Rattle.byte_model.specs.Bytes.{AreBytes}

acknowledgement : frame_bytes Ack ≡ 0xe5 ∷ []
acknowledgement = refl

-- a reset and a request of address 1
reset : frame_bytes (Short 0x40 1) ≡ 0x10 ∷ 0x40 ∷ 0x01 ∷ 0x41 ∷ 0x16 ∷ []
reset = refl

ask : frame_bytes (Short 0x7b 1) ≡ 0x10 ∷ 0x7b ∷ 0x01 ∷ 0x7c ∷ 0x16 ∷ []
ask = refl

-- 7B and FE are 179 together, of which 79 is kept
ask_whichever : frame_bytes (Short 0x7b 0xfe) ≡ 0x10 ∷ 0x7b ∷ 0xfe ∷ 0x79 ∷ 0x16 ∷ []
ask_whichever = refl

-- a long frame with an empty body, and one with two bytes
empty_body : frame_bytes (Long 0x08 0x01 0x72 []) ≡ 0x68 ∷ 0x03 ∷ 0x03 ∷ 0x68 ∷ 0x08 ∷ 0x01 ∷ 0x72 ∷ 0x7b ∷ 0x16 ∷ []
empty_body = refl

two_bytes : frame_bytes (Long 0x53 0xfd 0x52 (0xff ∷ 0x10 ∷ [])) ≡ 0x68 ∷ 0x05 ∷ 0x05 ∷ 0x68 ∷ 0x53 ∷ 0xfd ∷ 0x52 ∷ 0xff ∷ 0x10 ∷ 0xb1 ∷ 0x16 ∷ []
two_bytes = refl

pub are_bytes : (numbers : List ℕ) → list_all (λ n. nat_lt n 256) numbers ≡ true → AreBytes numbers
are_bytes [] h = All-nil (λ n. n < 256)
are_bytes (n ∷ ns) h = All-cons (λ n. n < 256) n ns (grind (arith, h)) (are_bytes ns (grind (arith, h)))

-- the bytes of a request are those of a frame
spelled : Spells (Short 0x7b 1) (0x10 ∷ 0x7b ∷ 0x01 ∷ 0x7c ∷ 0x16 ∷ [])
spelled = (are_bytes (0x7b ∷ 1 ∷ []) refl, refl)

-- ---- bytes that are no frame

pub wrong_checksum : (f : Frame) → Spells f (0x10 ∷ 0x40 ∷ 0x01 ∷ 0x42 ∷ 0x16 ∷ []) → ⊥
wrong_checksum Ack spells = cc
wrong_checksum (Short c a) spells =
    let control : 0x40 ≡ c = ap (λ l. get_or l 1 0) spells.1 in
    let address : 1 ≡ a = ap (λ l. get_or l 2 0) spells.1 in
    let sum_of_them : 0x42 ≡ checksum (c ∷ a ∷ []) = ap (λ l. get_or l 3 0) spells.1 in
    let right : 0x41 ≡ checksum (c ∷ a ∷ []) = λ i. checksum (control i ∷ address i ∷ []) in
    omega arith
wrong_checksum (Long c a ci body) spells = cc

byte_behind : (f : Frame) → Spells f (0x10 ∷ 0x40 ∷ 0x01 ∷ 0x41 ∷ 0x16 ∷ 0x00 ∷ []) → ⊥
byte_behind Ack spells = cc
byte_behind (Short c a) spells = cc
byte_behind (Long c a ci body) spells = cc

wrong_stop : (f : Frame) → Spells f (0x10 ∷ 0x40 ∷ 0x01 ∷ 0x41 ∷ 0x17 ∷ []) → ⊥
wrong_stop Ack spells = cc
wrong_stop (Short c a) spells = let stop : ◌≡◌ {A = ℕ} 0x17 0x16 = ap (λ l. get_or l 4 0) spells.1 in omega arith
wrong_stop (Long c a ci body) spells = cc

two_lengths : (f : Frame) → Spells f (0x68 ∷ 0x03 ∷ 0x04 ∷ 0x68 ∷ 0x08 ∷ 0x01 ∷ 0x72 ∷ 0x7b ∷ 0x16 ∷ []) → ⊥
two_lengths Ack spells = cc
two_lengths (Short c a) spells = cc
two_lengths (Long c a ci body) spells =
    let once : 3 ≡ length (c ∷ a ∷ ci ∷ body) = ap (λ l. get_or l 1 0) spells.1 in
    let again : 4 ≡ length (c ∷ a ∷ ci ∷ body) = ap (λ l. get_or l 2 0) spells.1 in
    omega arith

empty : (f : Frame) → Spells f [] → ⊥
empty Ack spells = cc
empty (Short c a) spells = cc
empty (Long c a ci body) spells = cc
