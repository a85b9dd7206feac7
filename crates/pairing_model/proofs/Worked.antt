-- A script of six lines on a meter of the standard configuration, and the output lines that answer it, worked by hand.
use Rattle.std.proofs.Common.{◌≡◌, ℕ, List, [], ◌∷◌, ◌++◌, true, false, pos, Some, refl, inl, inr, codes}
use Rattle.std.specs.List.{list_all}
use Rattle.std.specs.Fmt.{digits}
use Rattle.hex.specs.Hex.{decode_pairs, encode_with}
use Rattle.metering_model.specs.Events.{Pulse, Kept}
use Rattle.metering_model.specs.Records.{MeterRecord, opening_record}
use Rattle.script_model.specs.Grammar as grammar
use Rattle.script_model.specs.Grammar.{Metering, Power, Opt, Mbus}
use Rattle.trace_model.specs.Trace.{Entry, Store, Sync, Arm, Cut}
use Rattle.trace_model.specs.Output.{OutputLine}
use Rattle.frame_model.specs.Frames.{Short}
use Rattle.frame_model.proofs.Worked.{are_bytes, wrong_checksum}
use Rattle.telegram_model.proofs.Worked.{without_months}
use Rattle.optical_model.proofs.Worked.{to_any, select, said, data_message, data_select}
use Rattle.config_model.specs.Standard.{standard}
use Rattle.pairing_model.specs.Setup.{Setup, on_memory}
use Rattle.pairing_model.specs.Journal.{Journal, at_start, in_force, started}
use Rattle.pairing_model.specs.Pairing.{Answers, IsCutWork, Pairs, is_work}

abbrev pub setup : Setup
setup = on_memory standard

abbrev pub opening : MeterRecord
opening = opening_record 8780

-- three pulses are kept first
abbrev pub pulses : Kept
pulses = record { event = Pulse 3; energy_mj = pos 0; bound_mj = 0 }

abbrev pub kept : Journal
kept = record at_start { kept = pulses ∷ [] }

-- the output line, with the bytes that were stored before it in one slot and in the gate
abbrev pub stored_and_said : (slot : List ℕ) → OutputLine
stored_and_said slot = record { segment = Store 2048 slot ∷ Sync ∷ Store 256 (1 ∷ []) ∷ Sync ∷ []; text = codes "ok 1 30 0 0\n" }

pub answer_to_pulses : (slot : List ℕ) → Answers setup opening 0 at_start (codes "pulse 3") (stored_and_said slot) kept
unfolding digits
answer_to_pulses slot = record {
  taken = refl;
  said = Metering (Pulse 3);
  says = refl;
  reply = inl (record { energy_mj = pos 0; bound_mj = 0; keeps = refl; shows = refl; worked = refl });
}

-- a reset on the bus, and the same with a wrong checksum
abbrev reset_heard : Journal
reset_heard = record kept { frames = record { frame = Short 0x40 1; in_force = in_force setup opening kept } ∷ [] }

abbrev said_alone : (text : List ℕ) → OutputLine
said_alone text = record { segment = []; text = text }

answer_to_reset : Answers setup opening 1 kept (codes "mbus 1040014116") (said_alone (codes "mbus 1 e5\n")) reset_heard
unfolding digits decode_pairs encode_with
answer_to_reset = record {
  taken = refl;
  said = Mbus (0x10 ∷ 0x40 ∷ 0x01 ∷ 0x41 ∷ 0x16 ∷ []);
  says = refl;
  reply = inl (record { frame = Short 0x40 1; spells = (are_bytes (0x40 ∷ 1 ∷ []) refl, refl); hears = refl; shows = refl; still = refl });
}

answer_to_no_frame : Answers setup opening 2 reset_heard (codes "mbus 1040014216") (said_alone (codes "mbus 1 -\n")) reset_heard
unfolding digits decode_pairs encode_with
answer_to_no_frame = record {
  taken = refl;
  said = Mbus (0x10 ∷ 0x40 ∷ 0x01 ∷ 0x42 ∷ 0x16 ∷ []);
  says = refl;
  reply = inr (record { no_frame = wrong_checksum; hears = refl; shows = refl; still = refl });
}

-- a request for data on the bus
abbrev asked : Journal
asked = record kept { frames = record { frame = Short 0x40 1; in_force = in_force setup opening kept } ∷ record { frame = Short 0x7b 1; in_force = in_force setup opening kept } ∷ [] }

answer_to_request : Answers setup opening 3 reset_heard (codes "mbus 107B017C16") (said_alone (codes "mbus 1 681f1f680801727856341243040104000000000c06000000000c1403000000026c0f31be16\n")) asked
unfolding digits decode_pairs encode_with
answer_to_request = record {
  taken = refl;
  said = Mbus (0x10 ∷ 0x7b ∷ 0x01 ∷ 0x7c ∷ 0x16 ∷ []);
  says = refl;
  reply = inl (record { frame = Short 0x7b 1; spells = (are_bytes (0x7b ∷ 1 ∷ []) refl, refl); hears = refl; shows = rw without_months refl; still = refl });
}

-- a request at the optical head, and the option select behind it
abbrev identified : Journal
identified = record asked { last_message = Some (codes "/?!\r\n") }

abbrev selected : Journal
selected = record asked { last_message = Some data_select }

answer_at_head : Answers setup opening 4 asked (codes "opt 2F3F210D0A") (said_alone (codes "opt 1 2f41424335484541540d0a\n")) identified
unfolding digits decode_pairs encode_with
answer_at_head = record {
  taken = refl;
  said = Opt (codes "/?!\r\n");
  says = refl;
  reply = record { reply = Some (codes "/ABC5HEAT\r\n"); replies = inl (to_any, refl); hears = refl; shows = refl; still = refl };
}

answer_to_select : Answers setup opening 5 identified (codes "opt 063035300D0A") (said_alone (codes "opt 1 02392e3231283132333435363738290d0a362e382830303030303030302a6b5768290d0a362e3236283030303030302e30332a6d33290d0a392e333628323032342d30312d3135290d0a210d0a0331\n")) selected
unfolding digits decode_pairs encode_with
answer_to_select = record {
  taken = refl;
  said = Opt data_select;
  says = refl;
  reply = record { reply = Some data_message; replies = inr (inl ((to_any, select), data_message, said, refl)); hears = refl; shows = refl; still = refl };
}

-- all of them pair with the script's first six lines; the seventh has no output line yet
six_lines : Pairs
    setup
    opening
    0
    at_start
    (codes "pulse 3" ∷ codes "mbus 1040014116" ∷ codes "mbus 1040014216" ∷ codes "mbus 107B017C16" ∷ codes "opt 2F3F210D0A" ∷ codes "opt 063035300D0A" ∷ codes "pulse 1" ∷ [])
    (stored_and_said (1 ∷ []) ∷ said_alone (codes "mbus 1 e5\n") ∷ said_alone (codes "mbus 1 -\n") ∷ said_alone (codes "mbus 1 681f1f680801727856341243040104000000000c06000000000c1403000000026c0f31be16\n") ∷ said_alone (codes "opt 1 2f41424335484541540d0a\n") ∷ said_alone (codes "opt 1 02392e3231283132333435363738290d0a362e382830303030303030302a6b5768290d0a362e3236283030303030302e30332a6d33290d0a392e333628323032342d30312d3135290d0a210d0a0331\n") ∷ [])
    selected
six_lines =
    (kept, answer_to_pulses (1 ∷ []), (reset_heard, answer_to_reset, (reset_heard, answer_to_no_frame, (asked, answer_to_request, (identified, answer_at_head, (selected, answer_to_select, refl))))))

-- ---- power failures

-- the power fails while the gate is stored, and the memory holds the event all the same
abbrev interrupted : Journal
interrupted = started (pulses ∷ []) 1

answer_after_cut : (slot image : List ℕ)
    → Answers setup opening 0 at_start (codes "pulse 3") (record { segment = Store 2048 slot ∷ Sync ∷ Store 256 (1 ∷ []) ∷ Cut true image ∷ []; text = codes "power 1 30 0 0\n" }) interrupted
unfolding digits
answer_after_cut slot image = record {
  taken = refl;
  said = Metering (Pulse 3);
  says = refl;
  reply = inr (record {
    held = pulses ∷ [];
    either = inr (record { energy_mj = pos 0; bound_mj = 0; is = refl });
    restarts = record { starts = refl; shows = refl };
    cut = record { work = Store 2048 slot ∷ Sync ∷ Store 256 (1 ∷ []) ∷ []; image = image; is = refl; worked = refl };
  });
}

-- or it is lost
answer_lost : (slot image : List ℕ) → Answers setup opening 0 at_start (codes "pulse 3") (record { segment = Store 2048 slot ∷ Cut true image ∷ []; text = codes "power 0 0 0 0\n" }) (started [] 1)
unfolding digits
answer_lost slot image = record {
  taken = refl;
  said = Metering (Pulse 3);
  says = refl;
  reply = inr (record { held = []; either = inl refl; restarts = record { starts = refl; shows = refl }; cut = record { work = Store 2048 slot ∷ []; image = image; is = refl; worked = refl } });
}

-- a cut is ordered; the power fails by itself; then nothing was heard
answer_to_order : Answers setup opening 1 interrupted (codes "cut 4 1 5A") (record { segment = Arm 4 1 0x5a ∷ []; text = codes "armed\n" }) interrupted
unfolding digits decode_pairs
answer_to_order = record { taken = refl; said = grammar.Cut 4 1 0x5a; says = refl; reply = record { stays = refl; says = refl; ordered = refl } }

answer_to_failure : (image : List ℕ) → Answers setup opening 6 selected (codes "power") (record { segment = Cut false image ∷ []; text = codes "power 1 30 0 0\n" }) (started (pulses ∷ []) 0)
unfolding digits
answer_to_failure image = record { taken = refl; said = Power; says = refl; reply = record { restarts = record { starts = refl; shows = refl }; cut = record { image = image; is = refl } } }

-- a failure that was asked for is none of the memory's, and orders no event's loss
not_asked : (image : List ℕ) → IsCutWork (Cut false image ∷ []) → ⊥
not_asked image cut = by_work cut.work cut.is where
  by_work : (work : List Entry) → Cut false image ∷ [] ≡ work ++ Cut true cut.image ∷ [] → ⊥
  by_work [] is = cc
  by_work (e ∷ []) is = cc
  by_work (e ∷ f ∷ es) is = cc

not_armed : (image : List ℕ) → list_all is_work (Arm 1 0 0 ∷ []) ≡ false
not_armed image = refl
