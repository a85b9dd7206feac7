-- What the memory holds at each moment of a format.
use Rattle.std.proofs.Common.{◌≡◌, inl, inr, ◌≢◌, ℕ, ◌+◌, ◌<◌, eqb, false, List, [], ◌∷◌, ◌++◌, length, get_or, take, drop, refl, sym, ap, ◌∙◌, subst, arith, Ok}
use Rattle.std.proofs.lemmas.Bool.{cases_Bool, eqb-true, eqb-false}
use Rattle.std.proofs.lemmas.Bool.Decides.{nat_tests}
use Rattle.std.proofs.lemmas.List.{same_lists, get_or_default, get_or-drop, get_or-take, get_or_append_left, get_or-replicate, get_or-append-add, length-drop, length-take, length-replicate, take-append-le, drop-append-le, take_at, drop_at, take-take}
use Rattle.config_model.specs.Configuration.{Configuration}
use Rattle.metering_model.specs.Records.{MeterRecord}
use Rattle.memory_model.specs.Header.{header_in}
use Rattle.memory_model.specs.Slot.{record_in}
use Rattle.memory_model.specs.Stored.{A, stored_on, stored_from, side_of}
use Rattle.trace_model.specs.Trace.{Trace}
use Rattle.trace_model.specs.Images.{IsImage, SameOutside, NothingPending, is_within, replaced}
use Rattle.trace_model.specs.Moments.{Grew, Leaves}
use Rattle.trace_model.proofs.Images.{one_image, replaced_outside, length-replaced}
use Rattle.trace_model.proofs.Moments.{Grew-weaker}
use Rattle.register_store.specs.Formatted.{HoldsInA, UnformattedOr, Spells}
use Rattle.state_codec.specs.Slot.{zeros}

-- a memory that begins with the mark and bytes that spell it
spelled_holds : (c : Configuration) (r : MeterRecord) (bytes rest : List ℕ) → Spells c r bytes → HoldsInA c r (165 ∷ (bytes ++ rest))
spelled_holds c r bytes rest s =
    let front : take 255 (bytes ++ rest) ≡ take 255 bytes = take-append-le 255 bytes rest (omega (arith, s.size)) in
    let header : header_in (165 ∷ take 255 (bytes ++ rest)) ≡ Ok c = ap (λ (l : List ℕ). header_in (165 ∷ l)) front ∙ s.header in
    let gate : get_or (bytes ++ rest) 255 0 ≡ 0 = get_or_append_left bytes rest 0 255 (omega (arith, s.size)) ∙ s.gate in
    let size : length (drop 511 bytes) ≡ 1280 = omega (arith, length-drop 511 bytes, s.size) in
    let part : take 1280 (drop 511 (bytes ++ rest)) ≡ take 1280 (drop 511 bytes) = ap (λ (l : List ℕ). take 1280 l) (drop-append-le 511 bytes rest (omega (arith, s.size))) ∙ take-append-le 1280 (drop 511 bytes) rest (omega (arith, size)) in
    let slot : record_in (take 1280 (drop 511 (bytes ++ rest))) ≡ Ok r = ap record_in part ∙ s.slot in
    ap (λ (side : _). stored_on side (165 ∷ (bytes ++ rest))) (ap side_of gate) ∙ (λ i. stored_from 165 (header i) A (slot i))

-- bytes that stand behind one byte of any value
behind_first : (old m bytes : List ℕ) → length old ≡ 16384 → length bytes ≡ 1791 → SameOutside 0 1 (replaced old 1 bytes) m → drop 1 m ≡ bytes ++ drop 1792 old
behind_first old m bytes size count near =
    let whole : length (replaced old 1 bytes) ≡ 16384 = length-replaced old bytes 1 (omega (arith, size, count)) ∙ size in
    let alike : drop 1 m ≡ drop 1 (replaced old 1 bytes) =
    same_lists (drop 1 m) (drop 1 (replaced old 1 bytes)) (omega (arith, length-drop 1 m, length-drop 1 (replaced old 1 bytes), near.size)) (λ k d lt.
    let lt_m : 1 + k < length m = omega (arith, length-drop 1 m) in
    let lt_r : 1 + k < length (replaced old 1 bytes) = omega (arith, near.size) in
    let out : is_within 0 1 (1 + k) ≡ false = grind (arith, nat_tests) in
    get_or-drop 1 m k d ∙ get_or_default m (1 + k) d 0 lt_m ∙ near.same (1 + k) lt_r out ∙ sym (get_or_default (replaced old 1 bytes) (1 + k) d 0 lt_r) ∙ sym (get_or-drop 1 (replaced old 1 bytes) k d)) in
    alike ∙ drop_at (take 1 old) (bytes ++ drop (1 + length bytes) old) 1 (omega (arith, length-take 1 old, size)) ∙ ap (λ n. bytes ++ drop (1 + n) old) count

-- a list by its first and the others
parts_of : (m rest : List ℕ) (first : ℕ) → 0 < length m → get_or m 0 0 ≡ first → drop 1 m ≡ rest → m ≡ first ∷ rest
parts_of [] rest first some f r = absurd (omega (arith, some))
parts_of (x ∷ xs) rest first some f r = λ i. f i ∷ r i

marked_holds : (c : Configuration) (r : MeterRecord) (old m bytes : List ℕ) → length old ≡ 16384 → Spells c r bytes → SameOutside 0 1 (replaced old 1 bytes) m → get_or m 0 0 ≡ 165 → HoldsInA c r m
marked_holds c r old m bytes size s near marked =
    let whole : length m ≡ 16384 = near.size ∙ length-replaced old bytes 1 (omega (arith, size, s.size)) ∙ size in
    subst (HoldsInA c r) (sym (parts_of m (bytes ++ drop 1792 old) 165 (omega (arith, whole)) marked (behind_first old m bytes size s.size near))) (spelled_holds c r bytes (drop 1792 old) s)

-- the first byte that was read is not the mark
not_marked : (m into : List ℕ) → into ≡ take 1 m → get_or into 0 0 ≢ 165 → get_or m 0 0 ≢ 165
not_marked m into is other marked = other (ap (λ (l : List ℕ). get_or l 0 0) is ∙ get_or-take 1 m 0 0 (omega arith) ∙ marked)

-- while the bytes behind the mark are stored
before_mark : (c : Configuration) (r : MeterRecord) (old m bytes : List ℕ) → length old ≡ 16384 → get_or old 0 0 ≢ 165 → SameOutside 1 (length bytes) old m → UnformattedOr c r m
before_mark c r old m bytes size unformatted near = inl (λ is. unformatted (sym (near.same 0 (omega (arith, size)) refl) ∙ is))

-- while the mark is stored
at_mark : (c : Configuration) (r : MeterRecord) (old m bytes : List ℕ) → length old ≡ 16384 → Spells c r bytes → SameOutside 0 1 (replaced old 1 bytes) m → UnformattedOr c r m
at_mark c r old m bytes size s near =
    elim (cases_Bool (eqb (get_or m 0 0) 165)) [
      | inl marked ↦ inr (marked_holds c r old m bytes size s near (eqb-true (get_or m 0 0) 165 marked))
      | inr unmarked ↦ inl (eqb-false (get_or m 0 0) 165 unmarked)
    ]

-- the two of them
module _ (c : Configuration) (r : MeterRecord) (old bytes : List ℕ) (size : length old ≡ 16384) where
  first_moments : {t t' : Trace} → get_or old 0 0 ≢ 165 → Grew (Leaves (SameOutside 1 (length bytes) old)) t t' → Grew (Leaves (UnformattedOr c r)) t t'
  first_moments unformatted = Grew-weaker (λ s leaves image of. before_mark c r old image bytes size unformatted (leaves image of))

  pub second_moments : (mid : List ℕ) {t t' : Trace} → Spells c r bytes → mid ≡ replaced old 1 bytes → Grew (Leaves (SameOutside 0 1 mid)) t t' → Grew (Leaves (UnformattedOr c r)) t t'
  second_moments mid s is = Grew-weaker (λ u leaves image of. at_mark c r old image bytes size s (subst (λ (l : List ℕ). SameOutside 0 1 l image) is (leaves image of)))

  pub formatted_leaves : (mid new : List ℕ) (t : Trace) → Spells c r bytes → mid ≡ replaced old 1 bytes → new ≡ replaced mid 0 (165 ∷ []) → NothingPending t → IsImage t new → Leaves (HoldsInA c r) t
  formatted_leaves mid new t s is is' none possible image of =
      let whole : length mid ≡ 16384 = ap length is ∙ length-replaced old bytes 1 (omega (arith, size, s.size)) ∙ size in
      let near : SameOutside 0 1 mid new = subst (SameOutside 0 1 mid) (sym is') (replaced_outside mid (165 ∷ []) 0 (omega (arith, whole))) in
      let here : HoldsInA c r new = marked_holds c r old new bytes size s (subst (λ (l : List ℕ). SameOutside 0 1 l new) is near) (ap (λ (l : List ℕ). get_or l 0 0) is') in
      subst (HoldsInA c r) (one_image t new image none possible of) here

-- the first of them, behind a load that left all as it was
pub first_part : (c : Configuration) (r : MeterRecord) (before after into bytes : List ℕ) (t t' t'' : Trace) → length after ≡ 16384 → into ≡ take 1 before → after ≡ before → t' ≡ t → get_or into 0 0 ≢ 165
    → Grew (Leaves (SameOutside 1 (length bytes) after)) t' t'' → Grew (Leaves (UnformattedOr c r)) t t''
first_part c r before after into bytes t t' t'' size read same quiet other grew =
    let unformatted : get_or after 0 0 ≢ 165 = not_marked after into (read ∙ ap (λ (l : List ℕ). take 1 l) (sym same)) other in
    subst (λ (s : Trace). Grew (Leaves (UnformattedOr c r)) s t'') quiet (first_moments c r after bytes size unformatted grew)

-- the header at the front of zeros, and the slot behind the zeros that follow it
pub laid_spells : (c : Configuration) (r : MeterRecord) (blank first out header slot : List ℕ) → length header ≡ 255 → length slot ≡ 1280 → blank ≡ zeros 1791 → first ≡ replaced blank 0 header → out ≡ replaced first 511 slot
    → header_in (165 ∷ header) ≡ Ok c → record_in slot ≡ Ok r → Spells c r out
unfolding zeros
laid_spells c r blank first out header slot size size' empty is is' reads reads' =
    let blank_size : length blank ≡ 1791 = ap length empty ∙ length-replicate {A = ℕ} 1791 0 in
    let first_size : length first ≡ 1791 = ap length is ∙ length-replaced blank header 0 (omega (arith, size, blank_size)) ∙ blank_size in
    let front_size : length (take 511 first) ≡ 511 = omega (arith, length-take 511 first, first_size) in
    let end = slot ++ drop (511 + length slot) first in
    record {
      size = ap length is' ∙ length-replaced first slot 511 (omega (arith, size', first_size)) ∙ first_size;
      header = ap (λ (l : List ℕ). header_in (165 ∷ l))
          (ap (λ (l : List ℕ). take 255 l) is' ∙ take-append-le 255 (take 511 first) end (omega (arith, front_size)) ∙ take-take 255 511 first (omega arith)
          ∙ ap (λ (l : List ℕ). take 255 l) is ∙ take_at header (drop (0 + length header) blank) 255 size) ∙ reads;
      gate = ap (λ (l : List ℕ). get_or l 255 0) is' ∙ get_or_append_left (take 511 first) end 0 255 (omega (arith, front_size)) ∙ get_or-take 511 first 255 0 (omega arith)
          ∙ ap (λ (l : List ℕ). get_or l 255 0) is ∙ ap (λ n. get_or (header ++ drop (0 + length header) blank) n 0) (omega (arith, size)) ∙ get_or-append-add header (drop (0 + length header) blank) 0 0
          ∙ get_or-drop (0 + length header) blank 0 0 ∙ ap (λ n. get_or blank n 0) (omega (arith, size)) ∙ ap (λ (l : List ℕ). get_or l 255 0) empty ∙ get_or-replicate 1791 255 0 0 (omega arith);
      slot = ap record_in (ap (λ (l : List ℕ). take 1280 (drop 511 l)) is' ∙ ap (λ (l : List ℕ). take 1280 l) (drop_at (take 511 first) end 511 front_size) ∙ take_at slot (drop (511 + length slot) first) 1280 size') ∙ reads';
    }
