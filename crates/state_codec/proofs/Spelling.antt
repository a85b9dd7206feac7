-- Numbers that are written and read again, and parts that are spelled as what is read in them.
use Rattle.std.proofs.Common.{◌≡◌, ℕ, zero, suc, ◌+◌, ◌^◌, ◌≤◌, ◌<◌, true, cond, List, [], ◌∷◌, ◌++◌, length, get_or, take, drop, None, Some, inl, inr, refl, sym, ◌∙◌, ap, arith, length-take, ◌==◌}
use Rattle.std.specs.Prelude.{replicate}
use Rattle.std.specs.Int.{w16, w32, w64, w128, to_le_bytes}
use Rattle.std.proofs.lemmas.Bool.{cases_lt, eqb-true, and_parts}
use Rattle.std.proofs.lemmas.List.{drop_all, drop_more, drop-drop, take-append-drop, get_or-take, get_or-drop, get_or_past}
use Rattle.std.proofs.lemmas.List.Elements.{All-get_or}
use Rattle.std.proofs.lemmas.Nat.{le_bytes_2, le_bytes_4, le_bytes_8, from_le_bytes-to_le_bytes_2, from_le_bytes-to_le_bytes_4, from_le_bytes-to_le_bytes_8}
use Rattle.memory_model.specs.Fields.{little_endian, part, number, are_zero, first_broken, zero_byte, zero_bytes}
use Rattle.byte_model.specs.Bytes.{AreBytes}
use Rattle.state_codec.proofs.Checks.{first_broken-kept}
use Rattle.state_codec.proofs.Numbers.{from_le_bytes_2, from_le_bytes_4, from_le_bytes_8, from_le_bytes_16, length-part, number_1}
use Rattle.state_codec.proofs.Wide.{le_bytes_16, from_le_bytes-to_le_bytes_16}

-- ---- written numbers

pub written_1 : (n : ℕ) → little_endian (n ∷ []) ≡ n
written_1 n = omega arith

pub written_2 : (n : ℕ) → n < 2 ^ 16 → little_endian (to_le_bytes w16 n) ≡ n
written_2 n fits = sym (from_le_bytes_2 (to_le_bytes w16 n) refl) ∙ from_le_bytes-to_le_bytes_2 n fits

pub written_4 : (n : ℕ) → n < 2 ^ 32 → little_endian (to_le_bytes w32 n) ≡ n
written_4 n fits = sym (from_le_bytes_4 (to_le_bytes w32 n) refl) ∙ from_le_bytes-to_le_bytes_4 n fits

pub written_8 : (n : ℕ) → n < 2 ^ 64 → little_endian (to_le_bytes w64 n) ≡ n
written_8 n fits = sym (from_le_bytes_8 (to_le_bytes w64 n) refl) ∙ from_le_bytes-to_le_bytes_8 n fits

pub written_16 : (n : ℕ) → n < 2 ^ 128 → little_endian (to_le_bytes w128 n) ≡ n
written_16 n fits = sym (from_le_bytes_16 (to_le_bytes w128 n) refl) ∙ from_le_bytes-to_le_bytes_16 n fits

-- ---- parts that are spelled

-- a part that is known, and what is behind it
pub piece : (at size : ℕ) (bytes known : List ℕ) → part at size bytes ≡ known → drop at bytes ≡ known ++ drop (at + size) bytes
piece at size bytes known is =
    sym (take-append-drop size (drop at bytes)) ∙ (λ i. is i ++ drop-drop size at bytes i)

module _ (bytes : List ℕ) (fits : AreBytes bytes) where
  byte_fits : (i : ℕ) → get_or bytes i 0 < 256
  byte_fits i = elim (cases_lt i (length bytes)) [
    | inl lt ↦ All-get_or (λ b. b < 256) bytes i 0 lt fits
    | inr le ↦ rw (get_or_past bytes i 0 le) (omega arith)
  ]

  part_fits : (at size i : ℕ) → get_or (part at size bytes) i 0 < 256
  part_fits at size i = elim (cases_lt i size) [
    | inl lt ↦ rw (get_or-take size (drop at bytes) i 0 lt, get_or-drop at bytes i 0) (byte_fits (at + i))
    | inr le ↦ rw (get_or_past (part at size bytes) i 0 (omega (arith, length-take size (drop at bytes)))) (omega arith)
  ]

  pub spelled_1 : (at : ℕ) → at + 1 ≤ length bytes → part at 1 bytes ≡ number at 1 bytes ∷ []
  spelled_1 at le =
      let lt : at < length bytes = omega arith in
      ap (take 1) (drop_more bytes at 0 lt) ∙ ap (λ b. b ∷ []) (sym (number_1 at bytes le))

  pub spelled_2 : (at : ℕ) → at + 2 ≤ length bytes → part at 2 bytes ≡ to_le_bytes w16 (number at 2 bytes)
  unfolding number
  spelled_2 at le =
      let size = length-part at 2 bytes le in
      sym (le_bytes_2 (part at 2 bytes) (little_endian (part at 2 bytes)) size (part_fits at 2) (sym (from_le_bytes_2 (part at 2 bytes) size)))

  pub spelled_4 : (at : ℕ) → at + 4 ≤ length bytes → part at 4 bytes ≡ to_le_bytes w32 (number at 4 bytes)
  unfolding number
  spelled_4 at le =
      let size = length-part at 4 bytes le in
      sym (le_bytes_4 (part at 4 bytes) (little_endian (part at 4 bytes)) size (part_fits at 4) (sym (from_le_bytes_4 (part at 4 bytes) size)))

  pub spelled_8 : (at : ℕ) → at + 8 ≤ length bytes → part at 8 bytes ≡ to_le_bytes w64 (number at 8 bytes)
  unfolding number
  spelled_8 at le =
      let size = length-part at 8 bytes le in
      sym (le_bytes_8 (part at 8 bytes) (little_endian (part at 8 bytes)) size (part_fits at 8) (sym (from_le_bytes_8 (part at 8 bytes) size)))

  pub spelled_16 : (at : ℕ) → at + 16 ≤ length bytes → part at 16 bytes ≡ to_le_bytes w128 (number at 16 bytes)
  unfolding number
  spelled_16 at le =
      let size = length-part at 16 bytes le in
      sym (le_bytes_16 (part at 16 bytes) (little_endian (part at 16 bytes)) size (part_fits at 16) (sym (from_le_bytes_16 (part at 16 bytes) size)))

-- ---- zeros

zeros_are : (bytes : List ℕ) → are_zero bytes ≡ true → bytes ≡ replicate (length bytes) 0
zeros_are [] h = refl
zeros_are (b ∷ bs) h =
    let p = and_parts (b == 0) (are_zero bs) h in
    λ i. eqb-true b 0 p.0 i ∷ zeros_are bs p.1 i

pub spelled_blank : (at size : ℕ) (bytes : List ℕ) → at + size ≤ length bytes → are_zero (part at size bytes) ≡ true → part at size bytes ≡ replicate size 0
spelled_blank at size bytes le blank =
    zeros_are (part at size bytes) blank ∙ ap (λ n. replicate n 0) (length-part at size bytes le)

pub zeros-again : (n : ℕ) → are_zero (replicate n 0) ≡ true
zeros-again zero = refl
zeros-again (suc n) = zeros-again n

-- zeros that are read one by one
pub spelled_zeros : (n at : ℕ) (bytes : List ℕ) → at + n ≡ length bytes → first_broken (zero_bytes at n) bytes ≡ None → drop at bytes ≡ replicate n 0
unfolding zero_bytes
spelled_zeros zero at bytes le e = drop_all at bytes (omega arith)
spelled_zeros (suc n) at bytes le e =
    let p = first_broken-kept (zero_byte at) (zero_bytes (at + 1) n) bytes e in
    let lt : at < length bytes = omega arith in
    let is : get_or bytes at 0 ≡ 0 = sym (number_1 at bytes (omega arith)) ∙ eqb-true (number at 1 bytes) 0 p.0 in
    let later : drop (at + 1) bytes ≡ replicate n 0 = spelled_zeros n (at + 1) bytes (omega arith) p.1 in
    drop_more bytes at 0 lt ∙ (λ i. is i ∷ later i)

pub written_zeros : (n at : ℕ) (bytes : List ℕ) → drop at bytes ≡ replicate n 0 → first_broken (zero_bytes at n) bytes ≡ None
unfolding zero_bytes number
written_zeros zero at bytes is = refl
written_zeros (suc n) at bytes is =
    let here : (number at 1 bytes == 0) ≡ true = ap (λ l. little_endian (take 1 l) == 0) is in
    let later : drop (at + 1) bytes ≡ replicate n 0 = sym (drop-drop 1 at bytes) ∙ ap (drop 1) is in
    ap (λ b. cond b (first_broken (zero_bytes (at + 1) n) bytes) (Some at)) here ∙ written_zeros n (at + 1) bytes later
