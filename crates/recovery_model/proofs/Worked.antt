-- A run of one line on a new meter of the standard configuration: what its memory holds before and after the output line.
use Rattle.std.proofs.Common.{◌≡◌, ℕ, ◌≤◌, lit<, lit≤, List, [], ◌∷◌, ◌++◌, replicate, pos, Some, refl, sym, ap, ◌∙◌, inl, inr, arith, codes}
use Rattle.metering_model.specs.Events.{Pulse}
use Rattle.metering_model.specs.Records.{MeterRecord}
use Rattle.trace_model.specs.Trace.{Trace, Start, ◌▷◌, Store, Sync, Put}
use Rattle.memory_model.specs.Fields.{number, zero_bytes}
use Rattle.memory_model.specs.Header.{header_fields, header_in, configuration_of, constants_of}
use Rattle.memory_model.specs.Slot.{record_in, record_of, record_fields, month_fields, month_keeps, set_day_keeps, months_of, samples_of, set_day_of}
use Rattle.memory_model.specs.Stored.{A, B, Holds, stored}
use Rattle.memory_model.proofs.Worked.{header, in_8, memory_of, slot_text}
use Rattle.optical_model.proofs.Worked.{after_three}
use Rattle.config_model.specs.Standard.{standard}
use Rattle.pairing_model.specs.Journal.{at_start}
use Rattle.pairing_model.proofs.Worked.{answer_to_pulses, kept, opening}
use Rattle.recovery_model.specs.Bounded.{held_events}
use Rattle.recovery_model.specs.Decided.{IsShort}
use Rattle.recovery_model.specs.Right.{IsRight, HoldsShown}
use Rattle.recovery_model.specs.Shown.{number_shown}

-- ---- the number of events that a line shows: its second word

of_ok : number_shown (codes "ok 12 1030 -5 7\n") ≡ Some 12
of_ok = refl

of_readout : number_shown (codes "mbus 0 -\n") ≡ Some 0
of_readout = refl

-- ---- the memory

-- the slot after three pulses
abbrev slot_text_3 : List ℕ
slot_text_3 = in_8 1 ++ 76 ∷ 34 ∷ replicate 22 0 ++ in_8 3 ++ replicate 1240 0

-- before the run, after the slot was stored, and after the gate was
abbrev new_memory : List ℕ
new_memory = memory_of header 0 (slot_text 76 34) (replicate 1280 0)

abbrev slot_stored : List ℕ
slot_stored = memory_of header 0 (slot_text 76 34) slot_text_3

abbrev gate_stored : List ℕ
gate_stored = memory_of header 1 (slot_text 76 34) slot_text_3

new_holds : stored new_memory ≡ Holds standard opening A
unfolding record_in record_fields record_of number month_fields month_keeps set_day_keeps months_of samples_of set_day_of header_in header_fields configuration_of constants_of zero_bytes
new_holds = refl

-- a slot that is not chosen yet changes nothing
slot_holds : stored slot_stored ≡ Holds standard opening A
unfolding record_in record_fields record_of number month_fields month_keeps set_day_keeps months_of samples_of set_day_of header_in header_fields configuration_of constants_of zero_bytes
slot_holds = refl

gate_holds : stored gate_stored ≡ Holds standard after_three B
unfolding record_in record_fields record_of number month_fields month_keeps set_day_keeps months_of samples_of set_day_of header_in header_fields configuration_of constants_of zero_bytes
gate_holds = refl

-- ---- the run

abbrev script : List (List ℕ)
script = codes "pulse 3" ∷ []

-- the moments: the slot is settled; the gate is, too; and the output line went out
abbrev slot_settled : Trace
slot_settled = Start new_memory ▷ Store 2048 slot_text_3 ▷ Sync

abbrev gate_settled : Trace
gate_settled = slot_settled ▷ Store 256 (1 ∷ []) ▷ Sync

abbrev acknowledged : Trace
acknowledged = gate_settled ▷ Put (codes "ok 1 30 0 0\n")

-- before the output line the memory may hold the record without the event that is under way, or with it
without_event : IsRight standard opening script slot_settled slot_stored
without_event = record {
  journal = at_start;
  pairs = refl;
  fits = tt;
  held = opening;
  side = A;
  holds = slot_holds;
  stands = inl (record { in_order = refl; is = refl });
  opening = lit≤ tt;
  acknowledged = tt;
}

with_event : IsRight standard opening script gate_settled gate_stored
with_event = record {
  journal = at_start;
  pairs = refl;
  fits = tt;
  held = after_three;
  side = B;
  holds = gate_holds;
  stands = inr (record {
    event = Pulse 3;
    next = record { line = codes "pulse 3"; place = refl; says = refl; taken = refl };
    energy_mj = pos 0;
    bound_mj = 0;
    fits = ((refl, refl), tt);
    stands = record { in_order = refl; is = refl };
  });
  opening = lit≤ tt;
  acknowledged = tt;
}

same_number : (a b : ℕ) → Some a ≡ Some b → a ≡ b
same_number a b e = cc

-- behind it the memory holds the event
after_line : IsRight standard opening script acknowledged gate_stored
after_line = record {
  journal = kept;
  pairs = (kept, answer_to_pulses slot_text_3, refl);
  fits = ((refl, refl), tt);
  held = after_three;
  side = B;
  holds = gate_holds;
  stands = inl (record { in_order = refl; is = refl });
  opening = lit≤ tt;
  acknowledged = ((λ k shows. let same : 1 ≡ k = same_number 1 k shows in omega arith), tt);
}

-- the events that the record stands for: none, the one under way, and the one kept
held_none : held_events without_event ≡ []
unfolding without_event
held_none = refl

held_next : held_events with_event ≡ record { event = Pulse 3; energy_mj = pos 0; bound_mj = 0 } ∷ []
unfolding with_event
held_next = refl

held_kept : held_events after_line ≡ record { event = Pulse 3; energy_mj = pos 0; bound_mj = 0 } ∷ []
unfolding after_line
held_kept = refl

-- the words of its line are short
short_line : IsShort (codes "ok 1 30 0 0\n")
short_line five = (lit< tt, (lit< tt, (lit< tt, (lit< tt, (lit< tt, tt)))))

line_of_held : HoldsShown standard opening script acknowledged (codes "ok 1 30 0 0\n") gate_stored
line_of_held = record {
  all = record {
    journal = kept;
    pairs = (kept, answer_to_pulses slot_text_3, refl);
    held = after_three;
    side = B;
    holds = gate_holds;
    stands = record { in_order = refl; is = refl };
  };
  shows = inl refl;
}

-- a memory without it is not right
record_of_holds : (c d : _) (r s : MeterRecord) (a b : _) → Holds c r a ≡ Holds d s b → r ≡ s
record_of_holds c d r s a b e = cc

lost_event : IsRight standard opening script acknowledged slot_stored → ⊥
lost_event right =
    let held : opening ≡ right.held = record_of_holds _ _ opening right.held _ _ (sym slot_holds ∙ right.holds) in
    let none : 0 ≡ right.held.seq = ap (λ (r : MeterRecord). r.seq) held in
    let shown : 1 ≤ right.held.seq = right.acknowledged.0 1 refl in
    omega arith
