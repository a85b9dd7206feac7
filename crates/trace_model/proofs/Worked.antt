-- Traces of boards, worked by hand: what the memory may hold, and which output lines went out.
use Rattle.std.proofs.Common.{◌≡◌, ℕ, lit<, lit≤, true, false, List, [], ◌∷◌, replicate, refl, sym, ◌∙◌, eqb, eq-eqb, codes}
use Rattle.std.proofs.lemmas.Bool.{false≢true}
use Rattle.trace_model.specs.Trace.{Trace, Start, ◌▷◌, Store, Sync, Missed, Put, Cut}
use Rattle.trace_model.specs.Images.{IsImage, NothingPending, pending, replaced, settled, written}
use Rattle.trace_model.specs.Output.{ends_line, open_segment, output_lines, output_of}
use Rattle.trace_model.proofs.Images.{replaced_outside, settled_image, store_image}

-- ---- a memory of four bytes

abbrev four : Trace
four = Start (1 ∷ 2 ∷ 3 ∷ 4 ∷ [])

middle_replaced : replaced (1 ∷ 2 ∷ 3 ∷ 4 ∷ []) 1 (8 ∷ 9 ∷ []) ≡ 1 ∷ 8 ∷ 9 ∷ 4 ∷ []
middle_replaced = refl

-- what is stored is settled by a sync alone; a failed sync and an output line settle nothing
abbrev stored : Trace
stored = four ▷ Store 1 (8 ∷ []) ▷ Missed ▷ Store 2 (9 ∷ []) ▷ Put (codes "ok\n")

pending_twice : pending stored ≡ record { at = 2; bytes = 9 ∷ [] } ∷ record { at = 1; bytes = 8 ∷ [] } ∷ []
pending_twice = refl

not_settled : settled stored ≡ 1 ∷ 2 ∷ 3 ∷ 4 ∷ []
not_settled = refl

written_both : written stored ≡ 1 ∷ 8 ∷ 9 ∷ 4 ∷ []
written_both = refl

synced : settled (stored ▷ Sync) ≡ 1 ∷ 8 ∷ 9 ∷ 4 ∷ []
synced = refl

nothing_pending : NothingPending (stored ▷ Sync)
nothing_pending = refl

-- where two ranges overlap the later one counts
overlapping : settled (four ▷ Store 0 (5 ∷ 6 ∷ 7 ∷ []) ▷ Store 1 (9 ∷ []) ▷ Sync) ≡ 5 ∷ 9 ∷ 7 ∷ 4 ∷ []
overlapping = refl

other_way_round : settled (four ▷ Store 1 (9 ∷ []) ▷ Store 0 (5 ∷ 6 ∷ 7 ∷ []) ▷ Sync) ≡ 5 ∷ 6 ∷ 7 ∷ 4 ∷ []
other_way_round = refl

-- a cut settles its image, and what was pending is no more
cut : settled (stored ▷ Cut true (1 ∷ 0 ∷ 9 ∷ 4 ∷ []) ▷ Sync) ≡ 1 ∷ 0 ∷ 9 ∷ 4 ∷ []
cut = refl

-- ---- images of a memory of 16,384 bytes: of a byte that is stored and not settled any value, of another only its own

abbrev zeros : List ℕ
zeros = replicate 16384 0

abbrev gate_stored : Trace
gate_stored = Start zeros ▷ Store 256 (1 ∷ [])

any_gate : IsImage gate_stored (replaced zeros 256 (90 ∷ []))
any_gate = store_image (Start zeros) 256 (1 ∷ []) zeros (replaced zeros 256 (90 ∷ [])) (settled_image (Start zeros) refl) (replaced_outside zeros (90 ∷ []) 256 (lit≤ tt))

apart : (m n : ℕ) → eqb m n ≡ false → m ≡ n → ⊥
apart m n h e = false≢true (sym h ∙ eq-eqb m n e)

other_byte : IsImage gate_stored (replaced zeros 257 (90 ∷ [])) → ⊥
other_byte is = apart 90 0 refl (is.same 257 (lit< tt) refl)

settled_gate : IsImage (gate_stored ▷ Sync) (replaced zeros 256 (90 ∷ [])) → ⊥
settled_gate is = apart 90 1 refl (is.same 256 (lit< tt) refl)

-- ---- output lines, each with what happened since the one before

lf_last : ends_line (codes "ok 1\n") ≡ true
lf_last = refl

lf_within : ends_line (codes "ok\n1") ≡ false
lf_within = refl

two_lines : output_lines (four ▷ Store 1 (8 ∷ []) ▷ Sync ▷ Put (codes "a\n") ▷ Put (codes "b\n") ▷ Sync)
    ≡ record { segment = Store 1 (8 ∷ []) ∷ Sync ∷ []; text = codes "a\n" } ∷ record { segment = []; text = codes "b\n" } ∷ []
two_lines = refl

behind_the_last : open_segment (four ▷ Put (codes "a\n") ▷ Sync) ≡ Sync ∷ []
behind_the_last = refl

-- a piece of a line is none, and stands in the segment of the next one
in_pieces : output_lines (four ▷ Put (codes "a") ▷ Put (codes "b\n")) ≡ record { segment = Put (codes "a") ∷ []; text = codes "b\n" } ∷ []
in_pieces = refl

all_bytes : output_of (four ▷ Put (codes "a") ▷ Sync ▷ Put (codes "b\n")) ≡ codes "ab\n"
all_bytes = refl
