-- Constants of calibrated sensors that are written are read again, and those that are read are spelled as they are written.
use Rattle.std.proofs.Common.{◌≡◌, ℕ, ◌+◌, ◌*◌, ◌^◌, ◌≤◌, ◌<◌, ◌==◌, ◌&&◌, true, false, List, [], ◌∷◌, ◌++◌, length, take, drop, Option, None, Some, inl, inr, refl, sym, ◌∙◌, ap, arith}
use Rattle.std.specs.Prelude.{if◌then◌else◌, nat_le}
use Rattle.std.specs.Int.{w16, w32, to_le_bytes}
use Rattle.std.proofs.lemmas.Bool.{and_parts, eqb-true, cases_eq}
use Rattle.std.proofs.lemmas.Bool.Decides.{nat_tests}
use Rattle.std.proofs.lemmas.List.{drop-drop}
use Rattle.platinum_model.specs.Element.{Element}
use Rattle.platinum_model.specs.Calibration.{fits, fits_r0, fits_a, fits_b}
use Rattle.config_model.specs.Configuration.{both, is_calibration}
use Rattle.memory_model.specs.Fields.{little_endian, number}
use Rattle.byte_model.specs.Bytes.{AreBytes}
use Rattle.memory_model.specs.Header.{calibration_fields, constants_of}
use Rattle.state_codec.specs.Header.{calibration_of, constants_bytes, calibration_bytes}
use Rattle.state_codec.proofs.Checks.{AllKeep}
use Rattle.state_codec.proofs.Spelling.{written_1, written_2, written_4, piece, spelled_1, spelled_2, spelled_4}

-- ---- one spelling for both cases: without a calibration all constants are 0

abbrev flag : Option (Element × Element) → ℕ
flag None = 0
flag (Some c) = 1

abbrev zeros : Element
zeros = record { r0_uohm = 0; a_e10 = 0; b_e10 = 0 }

abbrev flow_or_zeros : Option (Element × Element) → Element
flow_or_zeros None = zeros
flow_or_zeros (Some c) = c.0

abbrev ret_or_zeros : Option (Element × Element) → Element
ret_or_zeros None = zeros
ret_or_zeros (Some c) = c.1

abbrev pub spelled : Option (Element × Element) → List ℕ
spelled k = flag k ∷ 0 ∷ 0 ∷ 0 ∷ (constants_bytes (flow_or_zeros k) ++ constants_bytes (ret_or_zeros k))

pub spelled-is : (k : Option (Element × Element)) → calibration_bytes k ≡ spelled k
unfolding calibration_bytes constants_bytes
spelled-is None = refl
spelled-is (Some c) = refl

-- the constants of a sensor, where the flag is set
abbrev when_set : ℕ → Element → Option Element
when_set n e = if n == 1 then Some (record { r0_uohm = e.r0_uohm; a_e10 = e.a_e10; b_e10 = e.b_e10 }) else None

both-again : (k : Option (Element × Element)) → both (when_set (flag k) (flow_or_zeros k)) (when_set (flag k) (ret_or_zeros k)) ≡ k
both-again None = refl
both-again (Some c) = refl

-- ---- what is written is read again

record IsSmall (e : Element) : Type 0 where
  r0 : e.r0_uohm < 2 ^ 32
  a : e.a_e10 < 2 ^ 32
  b : e.b_e10 < 2 ^ 16

r0-small : (ohm n : ℕ) → ohm ≤ 1000 → fits_r0 (1000000 * ohm) n ≡ true → n < 2 ^ 32
r0-small ohm n few h = grind (arith, nat_tests)

a-small : (n : ℕ) → fits_a n ≡ true → n < 2 ^ 32
a-small n h = grind (arith, nat_tests)

b-small : (n : ℕ) → fits_b n ≡ true → n < 2 ^ 16
b-small n h = grind (arith, nat_tests)

-- what keeps the rules of one sensor's fields
record Keeps (set ohm : ℕ) (e : Element) : Type 0 where
  r0 : (if set == 1 then fits_r0 (1000000 * ohm) e.r0_uohm else e.r0_uohm == 0) ≡ true
  a : (if set == 1 then fits_a e.a_e10 else e.a_e10 == 0) ≡ true
  b : (if set == 1 then fits_b e.b_e10 else e.b_e10 == 0) ≡ true
  small : IsSmall e

fitting-keeps : (ohm : ℕ) (e : Element) → ohm ≤ 1000 → fits e (1000000 * ohm) ≡ true → Keeps 1 ohm e
fitting-keeps ohm e few h =
    let first = and_parts (fits_r0 (1000000 * ohm) e.r0_uohm && fits_a e.a_e10) (fits_b e.b_e10) h in
    let second = and_parts (fits_r0 (1000000 * ohm) e.r0_uohm) (fits_a e.a_e10) first.0 in
    record {
      r0 = second.0;
      a = second.1;
      b = first.1;
      small = record { r0 = r0-small ohm e.r0_uohm few second.0; a = a-small e.a_e10 second.1; b = b-small e.b_e10 first.1 };
    }

zeros-keep : (ohm : ℕ) → Keeps 0 ohm zeros
zeros-keep ohm = record { r0 = refl; a = refl; b = refl; small = record { r0 = omega arith; a = omega arith; b = omega arith } }

flow-keeps : (ohm : ℕ) (k : Option (Element × Element)) → ohm ≤ 1000 → is_calibration ohm k ≡ true → Keeps (flag k) ohm (flow_or_zeros k)
flow-keeps ohm None few h = zeros-keep ohm
flow-keeps ohm (Some c) few h = fitting-keeps ohm c.0 few (and_parts (fits c.0 (1000000 * ohm)) (fits c.1 (1000000 * ohm)) h).0

ret-keeps : (ohm : ℕ) (k : Option (Element × Element)) → ohm ≤ 1000 → is_calibration ohm k ≡ true → Keeps (flag k) ohm (ret_or_zeros k)
ret-keeps ohm None few h = zeros-keep ohm
ret-keeps ohm (Some c) few h = fitting-keeps ohm c.1 few (and_parts (fits c.0 (1000000 * ohm)) (fits c.1 (1000000 * ohm)) h).1

flag-keeps : (k : Option (Element × Element)) → nat_le (flag k) 1 ≡ true
flag-keeps None = refl
flag-keeps (Some c) = refl

module _ (text tail : List ℕ) (ohm : ℕ) (k : Option (Element × Element)) (is : drop 24 text ≡ spelled k ++ tail) (sensor : number 14 2 text ≡ ohm) (few : ohm ≤ 1000) (fit : is_calibration ohm k ≡ true) where
  flow : Keeps (flag k) ohm (flow_or_zeros k)
  flow = flow-keeps ohm k few fit

  ret : Keeps (flag k) ohm (ret_or_zeros k)
  ret = ret-keeps ohm k few fit

  behind : (at size : ℕ) → number (24 + at) size text ≡ little_endian (take size (drop at (spelled k ++ tail)))
  unfolding number
  behind at size = ap (λ l. little_endian (take size l)) (sym (drop-drop at 24 text) ∙ ap (drop at) is)

  flag_is : number 24 1 text ≡ flag k
  unfolding constants_bytes
  flag_is = behind 0 1 ∙ written_1 (flag k)

  flow_r0_is : number 28 4 text ≡ (flow_or_zeros k).r0_uohm
  unfolding constants_bytes
  flow_r0_is = behind 4 4 ∙ written_4 (flow_or_zeros k).r0_uohm flow.small.r0

  flow_a_is : number 32 4 text ≡ (flow_or_zeros k).a_e10
  unfolding constants_bytes
  flow_a_is = behind 8 4 ∙ written_4 (flow_or_zeros k).a_e10 flow.small.a

  flow_b_is : number 36 2 text ≡ (flow_or_zeros k).b_e10
  unfolding constants_bytes
  flow_b_is = behind 12 2 ∙ written_2 (flow_or_zeros k).b_e10 flow.small.b

  ret_r0_is : number 40 4 text ≡ (ret_or_zeros k).r0_uohm
  unfolding constants_bytes
  ret_r0_is = behind 16 4 ∙ written_4 (ret_or_zeros k).r0_uohm ret.small.r0

  ret_a_is : number 44 4 text ≡ (ret_or_zeros k).a_e10
  unfolding constants_bytes
  ret_a_is = behind 20 4 ∙ written_4 (ret_or_zeros k).a_e10 ret.small.a

  ret_b_is : number 48 2 text ≡ (ret_or_zeros k).b_e10
  unfolding constants_bytes
  ret_b_is = behind 24 2 ∙ written_2 (ret_or_zeros k).b_e10 ret.small.b

  zero_at : (at : ℕ) → little_endian (take 1 (drop at (spelled k ++ tail))) ≡ 0 → (number (24 + at) 1 text == 0) ≡ true
  zero_at at zero = ap (λ n. n == 0) (behind at 1 ∙ zero)

  flow_r0_same : (if number 24 1 text == 1 then fits_r0 (1000000 * number 14 2 text) (number 28 4 text) else number 28 4 text == 0) ≡ (if flag k == 1 then fits_r0 (1000000 * ohm) (flow_or_zeros k).r0_uohm else (flow_or_zeros k).r0_uohm == 0)
  flow_r0_same = λ i. if flag_is i == 1 then fits_r0 (1000000 * sensor i) (flow_r0_is i) else flow_r0_is i == 0

  flow_a_same : (if number 24 1 text == 1 then fits_a (number 32 4 text) else number 32 4 text == 0) ≡ (if flag k == 1 then fits_a (flow_or_zeros k).a_e10 else (flow_or_zeros k).a_e10 == 0)
  flow_a_same = λ i. if flag_is i == 1 then fits_a (flow_a_is i) else flow_a_is i == 0

  flow_b_same : (if number 24 1 text == 1 then fits_b (number 36 2 text) else number 36 2 text == 0) ≡ (if flag k == 1 then fits_b (flow_or_zeros k).b_e10 else (flow_or_zeros k).b_e10 == 0)
  flow_b_same = λ i. if flag_is i == 1 then fits_b (flow_b_is i) else flow_b_is i == 0

  ret_r0_same : (if number 24 1 text == 1 then fits_r0 (1000000 * number 14 2 text) (number 40 4 text) else number 40 4 text == 0) ≡ (if flag k == 1 then fits_r0 (1000000 * ohm) (ret_or_zeros k).r0_uohm else (ret_or_zeros k).r0_uohm == 0)
  ret_r0_same = λ i. if flag_is i == 1 then fits_r0 (1000000 * sensor i) (ret_r0_is i) else ret_r0_is i == 0

  ret_a_same : (if number 24 1 text == 1 then fits_a (number 44 4 text) else number 44 4 text == 0) ≡ (if flag k == 1 then fits_a (ret_or_zeros k).a_e10 else (ret_or_zeros k).a_e10 == 0)
  ret_a_same = λ i. if flag_is i == 1 then fits_a (ret_a_is i) else ret_a_is i == 0

  ret_b_same : (if number 24 1 text == 1 then fits_b (number 48 2 text) else number 48 2 text == 0) ≡ (if flag k == 1 then fits_b (ret_or_zeros k).b_e10 else (ret_or_zeros k).b_e10 == 0)
  ret_b_same = λ i. if flag_is i == 1 then fits_b (ret_b_is i) else ret_b_is i == 0

  pub calibration-keeps : AllKeep calibration_fields text
  unfolding constants_bytes
  calibration-keeps = (
    ap (λ n. nat_le n 1) flag_is ∙ flag-keeps k,
    (zero_at 1 refl, (zero_at 2 refl, (zero_at 3 refl, (flow_r0_same ∙ flow.r0, (flow_a_same ∙ flow.a, (flow_b_same ∙ flow.b, (zero_at 14 refl, (zero_at 15 refl, (ret_r0_same ∙ ret.r0, (ret_a_same ∙ ret.a, (ret_b_same ∙ ret.b, (zero_at 26 refl, (zero_at 27 refl, tt))))))))))))),
  )

  pub calibration-again : calibration_of text ≡ k
  unfolding constants_of
  calibration-again =
      (λ i. both
      (when_set (flag_is i) (record { r0_uohm = flow_r0_is i; a_e10 = flow_a_is i; b_e10 = flow_b_is i }))
      (when_set (flag_is i) (record { r0_uohm = ret_r0_is i; a_e10 = ret_a_is i; b_e10 = ret_b_is i })))
      ∙ both-again k

  pub tail-again : drop 52 text ≡ tail
  unfolding constants_bytes
  tail-again = sym (drop-drop 28 24 text) ∙ ap (drop 28) is

-- ---- what is read is spelled so

none_set : (n : ℕ) → nat_le n 1 ≡ true → (n == 1) ≡ false → n ≡ 0
none_set n h k = grind (arith, nat_tests)

respelled : (n ohm : ℕ) (e f : Element) → nat_le n 1 ≡ true
    → (if n == 1 then fits_r0 (1000000 * ohm) e.r0_uohm else e.r0_uohm == 0) ≡ true → (if n == 1 then fits_a e.a_e10 else e.a_e10 == 0) ≡ true → (if n == 1 then fits_b e.b_e10 else e.b_e10 == 0) ≡ true
    → (if n == 1 then fits_r0 (1000000 * ohm) f.r0_uohm else f.r0_uohm == 0) ≡ true → (if n == 1 then fits_a f.a_e10 else f.a_e10 == 0) ≡ true → (if n == 1 then fits_b f.b_e10 else f.b_e10 == 0) ≡ true
    → n ∷ 0 ∷ 0 ∷ 0 ∷ (constants_bytes e ++ constants_bytes f) ≡ calibration_bytes (both (when_set n e) (when_set n f))
unfolding calibration_bytes constants_bytes
respelled n ohm e f flag_ok = elim (cases_eq n 1) [
  | inl one ↦ λ h k l h' k' l'. rw one refl
  | inr other ↦ let zero : n ≡ 0 = grind (arith, nat_tests) in λ h k l h' k' l'.
      rw (zero, eqb-true e.r0_uohm 0 (rw zero at h), eqb-true e.a_e10 0 (rw zero at k), eqb-true e.b_e10 0 (rw zero at l), eqb-true f.r0_uohm 0 (rw zero at h'), eqb-true f.a_e10 0 (rw zero at k'), eqb-true f.b_e10 0 (rw zero at l')) refl
]

module _ (bytes : List ℕ) (fits : AreBytes bytes) (size : length bytes ≡ 256) where
  zero_piece : (at : ℕ) (l : List ℕ) → at + 1 ≤ 256 → (number at 1 bytes == 0) ≡ true → drop (at + 1) bytes ≡ l → drop at bytes ≡ 0 ∷ l
  zero_piece at l le zero later =
      piece at 1 bytes (0 ∷ []) (spelled_1 bytes fits at (omega (arith, size, le)) ∙ ap (λ (b : ℕ). b ∷ []) (eqb-true (number at 1 bytes) 0 zero)) ∙ ap (λ (m : List ℕ). 0 ∷ m) later

  four : (at : ℕ) (l : List ℕ) → at + 4 ≤ 256 → drop (at + 4) bytes ≡ l → drop at bytes ≡ to_le_bytes w32 (number at 4 bytes) ++ l
  four at l le later =
      piece at 4 bytes (to_le_bytes w32 (number at 4 bytes)) (spelled_4 bytes fits at (omega (arith, size, le))) ∙ ap (λ (m : List ℕ). to_le_bytes w32 (number at 4 bytes) ++ m) later

  two : (at : ℕ) (l : List ℕ) → at + 2 ≤ 256 → drop (at + 2) bytes ≡ l → drop at bytes ≡ to_le_bytes w16 (number at 2 bytes) ++ l
  two at l le later =
      piece at 2 bytes (to_le_bytes w16 (number at 2 bytes)) (spelled_2 bytes fits at (omega (arith, size, le))) ∙ ap (λ (m : List ℕ). to_le_bytes w16 (number at 2 bytes) ++ m) later

  one : (at : ℕ) (l : List ℕ) → at + 1 ≤ 256 → drop (at + 1) bytes ≡ l → drop at bytes ≡ number at 1 bytes ∷ l
  one at l le later =
      piece at 1 bytes (number at 1 bytes ∷ []) (spelled_1 bytes fits at (omega (arith, size, le))) ∙ ap (λ (m : List ℕ). number at 1 bytes ∷ m) later

  abbrev flow_read : Element
  flow_read = record { r0_uohm = number 28 4 bytes; a_e10 = number 32 4 bytes; b_e10 = number 36 2 bytes }

  abbrev ret_read : Element
  ret_read = record { r0_uohm = number 40 4 bytes; a_e10 = number 44 4 bytes; b_e10 = number 48 2 bytes }

  pub calibration-spelled : (tail : List ℕ) → AllKeep calibration_fields bytes → drop 52 bytes ≡ tail → drop 24 bytes ≡ calibration_bytes (calibration_of bytes) ++ tail
  unfolding constants_of constants_bytes
  calibration-spelled tail keep e52 =
      let e50 = zero_piece 50 _ (omega arith) keep.1.1.1.1.1.1.1.1.1.1.1.1.0 (zero_piece 51 _ (omega arith) keep.1.1.1.1.1.1.1.1.1.1.1.1.1.0 e52) in
      let e40 = four 40 _ (omega arith) (four 44 _ (omega arith) (two 48 _ (omega arith) e50)) in
      let e38 = zero_piece 38 _ (omega arith) keep.1.1.1.1.1.1.1.0 (zero_piece 39 _ (omega arith) keep.1.1.1.1.1.1.1.1.0 e40) in
      let e28 = four 28 _ (omega arith) (four 32 _ (omega arith) (two 36 _ (omega arith) e38)) in
      let e25 = zero_piece 25 _ (omega arith) keep.1.0 (zero_piece 26 _ (omega arith) keep.1.1.0 (zero_piece 27 _ (omega arith) keep.1.1.1.0 e28)) in
      one 24 _ (omega arith) e25
      ∙ ap (λ (l : List ℕ). l ++ tail)
      (respelled (number 24 1 bytes) (number 14 2 bytes) flow_read ret_read keep.0 keep.1.1.1.1.0 keep.1.1.1.1.1.0 keep.1.1.1.1.1.1.0 keep.1.1.1.1.1.1.1.1.1.0 keep.1.1.1.1.1.1.1.1.1.1.0 keep.1.1.1.1.1.1.1.1.1.1.1.0)
