-- What the memory holds at each moment of a commit.
use Rattle.std.proofs.Common.{◌≡◌, inl, inr, ℕ, ◌+◌, ◌<◌, ◌≤◌, Bool, true, false, eqb, cond, List, [], ◌∷◌, ◌⊎◌, length, get_or, take, drop, refl, sym, ap, ◌∙◌, subst, arith, Result, Ok, Err}
use Rattle.std.specs.Prelude.{OnOk}
use Rattle.std.proofs.lemmas.Bool.{eqb-true}
use Rattle.std.proofs.lemmas.Bool.Decides.{nat_tests}
use Rattle.std.proofs.lemmas.List.{same_lists, get_or_default, get_or-drop, get_or-take, get_or_at, length-drop, length-take, length-take-le, take_at, drop_at}
use Rattle.config_model.specs.Configuration.{Configuration}
use Rattle.metering_model.specs.Records.{MeterRecord}
use Rattle.memory_model.specs.Header.{header_in}
use Rattle.memory_model.specs.Slot.{record_in}
use Rattle.memory_model.specs.Stored.{Side, A, B, Holds, Unformatted, stored, stored_on, stored_from, with_header, chosen, side_of, slot_at}
use Rattle.trace_model.specs.Trace.{Trace}
use Rattle.trace_model.specs.Images.{IsImage, NothingPending, SameOutside, is_within, replaced}
use Rattle.trace_model.specs.Moments.{Leaves}
use Rattle.meter_board.specs.declared.refusal.Refusal.{Refusal}
use Rattle.meter_board.proofs.Stretches.{settled_leaves}
use Rattle.trace_model.proofs.Images.{replaced_outside}
use Rattle.register_store.proofs.StoreMoments.{keeps_weaker}
use Rattle.register_store.specs.Works.{KeepsTo}
use Rattle.register_store.specs.Commits.{StandsFor, StandsOn, HoldsEither, SlotHolds, other, gate_of}

-- ---- a memory that stands for a configuration and a record, by its parts

record HoldsParts (c : Configuration) (r : MeterRecord) (side : Side) (m : List ℕ) : Type 0 where
  mark : get_or m 0 0 ≡ 165
  header : header_in (take 256 m) ≡ Ok c
  chooses : chosen m ≡ side
  slot : SlotHolds side r m

from_parts : (c : Configuration) (r : MeterRecord) (side : Side) (m : List ℕ) → HoldsParts c r side m → StandsFor (Holds c r side) m
from_parts c r side m p =
    ap (λ (s : Side). stored_on s m) p.chooses ∙ (λ i. stored_from (p.mark i) (p.header i) side (p.slot i))

-- what the parts are where they stand for that
record AreHeld (c : Configuration) (r : MeterRecord) (side : Side) (first : ℕ) (header : Result Configuration ℕ) (side' : Side) (slot : Result MeterRecord ℕ) : Type 0 where
  mark : first ≡ 165
  header_is : header ≡ Ok c
  side_is : side' ≡ side
  slot_is : slot ≡ Ok r

held_with : (c : Configuration) (r : MeterRecord) (side : Side) (first : ℕ) (header : Result Configuration ℕ) (side' : Side) (slot : Result MeterRecord ℕ)
    → first ≡ 165 → with_header header side' slot ≡ Holds c r side → AreHeld c r side first header side' slot
held_with c r side first (Ok c') side' (Ok r') marked is =
    let config : c' ≡ c = cc in
    let held : r' ≡ r = cc in
    let same : side' ≡ side = cc in
    record { mark = marked; header_is = ap (λ (x : Configuration). Ok x) config; side_is = same; slot_is = ap (λ (x : MeterRecord). Ok x) held }
held_with c r side first (Ok c') side' (Err at) marked is = absurd cc
held_with c r side first (Err at) side' slot marked is = absurd cc

held_by : (c : Configuration) (r : MeterRecord) (side : Side) (first : ℕ) (header : Result Configuration ℕ) (side' : Side) (slot : Result MeterRecord ℕ) (b : Bool)
    → (b ≡ true → first ≡ 165) → cond b (with_header header side' slot) (Unformatted first) ≡ Holds c r side → AreHeld c r side first header side' slot
held_by c r side first header side' slot true marked is = held_with c r side first header side' slot (marked refl) is
held_by c r side first header side' slot false marked is = absurd cc

to_parts : (c : Configuration) (r : MeterRecord) (side : Side) (m : List ℕ) → StandsFor (Holds c r side) m → HoldsParts c r side m
to_parts c r side m is =
    let parts : AreHeld c r side (get_or m 0 0) (header_in (take 256 m)) (chosen m) (record_in (take 1280 (drop (slot_at (chosen m)) m))) =
    held_by c r side (get_or m 0 0) (header_in (take 256 m)) (chosen m) (record_in (take 1280 (drop (slot_at (chosen m)) m))) (eqb (get_or m 0 0) 165) (eqb-true (get_or m 0 0) 165) is in
    record {
      mark = parts.mark;
      header = parts.header_is;
      chooses = parts.side_is;
      slot = subst (λ (s : Side). SlotHolds s r m) parts.side_is parts.slot_is;
    }

-- ---- memories that are alike but for a range

-- a part outside the range
part_same : (at size from count : ℕ) (m n : List ℕ) → SameOutside from count m n → at + size ≤ length m → ((k : ℕ) → k < size → is_within from count (at + k) ≡ false) → take size (drop at n) ≡ take size (drop at m)
part_same at size from count m n near fits out =
    let size_m : length (take size (drop at m)) ≡ size = omega (arith, length-take size (drop at m), length-drop at m) in
    let size_n : length (take size (drop at n)) ≡ size = omega (arith, length-take size (drop at n), length-drop at n, near.size) in
    same_lists (take size (drop at n)) (take size (drop at m)) (size_n ∙ sym size_m) (λ k d lt.
    let low : k < size = omega (arith, size_n) in
    let lt_m : at + k < length m = omega (arith, low) in
    let lt_n : at + k < length n = omega (arith, lt_m, near.size) in
    get_or-take size (drop at n) k d low ∙ get_or-drop at n k d ∙ get_or_default n (at + k) d 0 lt_n ∙ near.same (at + k) lt_m (out k low)
    ∙ get_or_default m (at + k) 0 d lt_m ∙ sym (get_or-drop at m k d) ∙ sym (get_or-take size (drop at m) k d low))

-- the range lies behind the gate
header_same : (from count : ℕ) (m n : List ℕ) → SameOutside from count m n → length m ≡ 16384 → 256 ≤ from → take 256 n ≡ take 256 m
header_same from count m n near size behind = part_same 0 256 from count m n near (omega (arith, size)) (λ k lt. grind (arith, nat_tests))

mark_same : (from count : ℕ) (m n : List ℕ) → SameOutside from count m n → length m ≡ 16384 → 256 ≤ from → get_or n 0 0 ≡ get_or m 0 0
mark_same from count m n near size behind = near.same 0 (omega (arith, size)) (grind (arith, nat_tests))

gate_same : (from count : ℕ) (m n : List ℕ) → SameOutside from count m n → length m ≡ 16384 → 257 ≤ from → chosen n ≡ chosen m
gate_same from count m n near size behind = ap side_of (near.same 256 (omega (arith, size)) (grind (arith, nat_tests)))

-- ---- while the other slot is filled

slot_beside_other : (side : Side) (m n : List ℕ) → SameOutside (slot_at (other side)) 1280 m n → length m ≡ 16384 → take 1280 (drop (slot_at side) n) ≡ take 1280 (drop (slot_at side) m)
slot_beside_other A m n near size = part_same 512 1280 2048 1280 m n near (omega (arith, size)) (λ k lt. grind (arith, nat_tests))
slot_beside_other B m n near size = part_same 2048 1280 512 1280 m n near (omega (arith, size)) (λ k lt. grind (arith, nat_tests))

slot_behind : (side : Side) → 512 ≤ slot_at side
slot_behind A = omega arith
slot_behind B = omega arith

filling_stands : (side : Side) (m n : List ℕ) → StandsOn side m → length m ≡ 16384 → SameOutside (slot_at (other side)) 1280 m n → StandsFor (stored m) n
filling_stands side m n s size near =
    let p = to_parts s.config s.held side m s.is in
    let behind = slot_behind (other side) in
    let far : 257 ≤ slot_at (other side) = omega (arith, behind) in
    from_parts s.config s.held side n (record {
      mark = mark_same (slot_at (other side)) 1280 m n near size (omega (arith, behind)) ∙ p.mark;
      header = ap header_in (header_same (slot_at (other side)) 1280 m n near size (omega (arith, behind))) ∙ p.header;
      chooses = gate_same (slot_at (other side)) 1280 m n near size far ∙ p.chooses;
      slot = ap record_in (slot_beside_other side m n near size) ∙ p.slot;
    }) ∙ sym s.is

-- the slot holds what was stored there
filled_slot : (side : Side) (m bytes : List ℕ) (r : MeterRecord) → length m ≡ 16384 → length bytes ≡ 1280 → record_in bytes ≡ Ok r → SlotHolds side r (replaced m (slot_at side) bytes)
filled_slot side m bytes r size count reads =
    let front : length (take (slot_at side) m) ≡ slot_at side = length-take-le (slot_at side) m (low side) in
    ap record_in (ap (λ (l : List ℕ). take 1280 l) (drop_at (take (slot_at side) m) _ (slot_at side) front) ∙ take_at bytes _ 1280 count) ∙ reads where
      low : (side : Side) → slot_at side ≤ length m
      low A = omega (arith, size)
      low B = omega (arith, size)

-- ---- while the gate is stored

slot_beside_gate : (side : Side) (m n : List ℕ) → SameOutside 256 1 m n → length m ≡ 16384 → take 1280 (drop (slot_at side) n) ≡ take 1280 (drop (slot_at side) m)
slot_beside_gate A m n near size = part_same 512 1280 256 1 m n near (omega (arith, size)) (λ k lt. grind (arith, nat_tests))
slot_beside_gate B m n near size = part_same 2048 1280 256 1 m n near (omega (arith, size)) (λ k lt. grind (arith, nat_tests))

one_of_two : (s side : Side) → (s ≡ side) ⊎ (s ≡ other side)
one_of_two A A = inl refl
one_of_two A B = inr refl
one_of_two B A = inr refl
one_of_two B B = inl refl

-- a memory whose gate alone differs holds the record of the slot that it chooses
gated_holds : (c : Configuration) (r r' : MeterRecord) (side side' : Side) (m n : List ℕ) → StandsFor (Holds c r side) m → SlotHolds side' r' m → length m ≡ 16384 → SameOutside 256 1 m n → chosen n ≡ side' → StandsFor (Holds c r' side') n
gated_holds c r r' side side' m n is held size near chooses =
    let p = to_parts c r side m is in
    from_parts c r' side' n (record {
      mark = mark_same 256 1 m n near size (omega arith) ∙ p.mark;
      header = ap header_in (header_same 256 1 m n near size (omega arith)) ∙ p.header;
      chooses = chooses;
      slot = ap record_in (slot_beside_gate side' m n near size) ∙ held;
    })

turning_holds : (c : Configuration) (r r' : MeterRecord) (side : Side) (m n : List ℕ) → StandsFor (Holds c r side) m → SlotHolds (other side) r' m → length m ≡ 16384 → SameOutside 256 1 m n → HoldsEither c side r r' n
turning_holds c r r' side m n is held size near =
    let p = to_parts c r side m is in
    elim (one_of_two (chosen n) side) [
      | inl same ↦ inl (gated_holds c r r side side m n is p.slot size near same)
      | inr turned ↦ inr (gated_holds c r r' side (other side) m n is held size near turned)
    ]

side_of_gate_of : (side : Side) → side_of (gate_of side) ≡ side
side_of_gate_of A = refl
side_of_gate_of B = refl

turned_holds : (c : Configuration) (r r' : MeterRecord) (side side' : Side) (m n : List ℕ) → StandsFor (Holds c r side) m → SlotHolds side' r' m → length m ≡ 16384 → n ≡ replaced m 256 (gate_of side' ∷ []) → StandsFor (Holds c r' side') n
turned_holds c r r' side side' m n is held size turned =
    let near : SameOutside 256 1 m n = subst (SameOutside 256 1 m) (sym turned) (replaced_outside m (gate_of side' ∷ []) 256 (omega (arith, size))) in
    let gate : get_or n 256 0 ≡ gate_of side' = ap (λ (l : List ℕ). get_or l 256 0) turned ∙ get_or_at (take 256 m) (gate_of side') (drop 257 m) 0 256 (length-take-le 256 m (omega (arith, size))) in
    gated_holds c r r' side side' m n is held size near (ap side_of gate ∙ side_of_gate_of side')

-- ---- the calls

-- a store of this many bytes into the slot that isn't chosen
module _ (side : Side) (m : List ℕ) (s : StandsOn side m) (size : length m ≡ 16384) (at : ℕ) (bytes : List ℕ) (place : at ≡ slot_at (other side)) (count : length bytes ≡ 1280) where
  near_slot : (image : List ℕ) → SameOutside at (length bytes) m image → SameOutside (slot_at (other side)) 1280 m image
  near_slot image near = subst (λ n. SameOutside (slot_at (other side)) n m image) count (subst (λ n. SameOutside n (length bytes) m image) place near)

  stands_near : (image : List ℕ) → SameOutside at (length bytes) m image → StandsFor (stored m) image
  stands_near image near = filling_stands side m image s size (near_slot image near)

  pub fill_keeps : {T : Type 0} {result : Result T Refusal} {t t' : Trace} {reads : List ℕ} → KeepsTo (SameOutside at (length bytes) m) result t t' reads → KeepsTo (StandsFor (stored m)) result t t' reads
  fill_keeps k = keeps_weaker stands_near k

  slot_fits : at + length bytes ≤ length m
  slot_fits = fits side place where
    fits : (side' : Side) → at ≡ slot_at (other side') → at + length bytes ≤ length m
    fits A is = omega (arith, is, size, count)
    fits B is = omega (arith, is, size, count)

  pub fill_outside : (new : List ℕ) → new ≡ replaced m at bytes → SameOutside (slot_at (other side)) 1280 m new
  fill_outside new is = near_slot new (subst (SameOutside at (length bytes) m) (sym is) (replaced_outside m bytes at slot_fits))

  pub fill_same : (new : List ℕ) → new ≡ replaced m at bytes → StandsFor (stored m) new
  fill_same new is = filling_stands side m new s size (fill_outside new is)

  pub fill_holds : (new : List ℕ) (r : MeterRecord) → record_in bytes ≡ Ok r → new ≡ replaced m at bytes → SlotHolds (other side) r new
  fill_holds new r reads is = subst (SlotHolds (other side) r) (sym (is ∙ ap (λ n. replaced m n bytes) place)) (filled_slot (other side) m bytes r size count reads)

-- a store of one byte as the gate
module _ (c : Configuration) (r r' : MeterRecord) (side : Side) (m : List ℕ) (is : StandsFor (Holds c r side) m) (held : SlotHolds (other side) r' m) (size : length m ≡ 16384) where
  pub turn_keeps : {T : Type 0} {result : Result T Refusal} {t t' : Trace} {reads : List ℕ} → KeepsTo (SameOutside 256 1 m) result t t' reads → KeepsTo (HoldsEither c side r r') result t t' reads
  turn_keeps k = keeps_weaker (λ image near. turning_holds c r r' side m image is held size near) k

  pub turn_holds : (new : List ℕ) → new ≡ replaced m 256 (gate_of (other side) ∷ []) → StandsFor (Holds c r' (other side)) new
  turn_holds new turned = turned_holds c r r' side (other side) m new is held size turned

-- what stands for the same holds the old record
module _ (c : Configuration) (r r' : MeterRecord) (side : Side) (m : List ℕ) (is : StandsFor (Holds c r side) m) where
  pub old_keeps : {T : Type 0} {result : Result T Refusal} {t t' : Trace} {reads : List ℕ} → KeepsTo (StandsFor (stored m)) result t t' reads → KeepsTo (HoldsEither c side r r') result t t' reads
  old_keeps k = keeps_weaker (λ image same. inl (same ∙ is)) k

-- on Ok, where nothing is pending, what is read is each image
pub ok_leaves : {T E : Type 0} (Q : List ℕ → Type 0) (result : Result T E) (t : Trace) (reads : List ℕ) → OnOk result (Q reads) → OnOk result (NothingPending t) → IsImage t reads → OnOk result (Leaves Q t)
ok_leaves Q (Ok x) t reads here none possible = settled_leaves Q t reads none possible here
ok_leaves Q (Err e) t reads here none possible = tt
