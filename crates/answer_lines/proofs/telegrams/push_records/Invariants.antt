use Rattle.std.proofs.Common.{◌≡◌, ◌+◌, List, ℕ, ◌++◌, length, drop}
use Rattle.readout_reader.specs.Views.{recs_view}
use Rattle.answer_lines.specs.ReadLines.{AreRecordLines}
use Rattle.answer_lines.specs.Texts.{NoneEmpty, bytes_of}
use Rattle.answer_lines.proofs.telegrams.push_records.Given as goal

-- these lines were added, and with those of the records that are left they are the lines of all
abbrev pub invariant-loop-reading : goal.invariant-loop-reading
invariant-loop-reading l = record {
  count : length l.lines.items ≡ length l.initial.lines.items + l.reading-index;
  some : NoneEmpty l.initial.lines.items → NoneEmpty l.lines.items;
  added : (shown : List (List ℕ)) × (bytes_of l.lines.items ≡ bytes_of l.initial.lines.items ++ shown)
      × ((rest : List (List ℕ)) → AreRecordLines (recs_view (drop l.reading-index l.records)) rest → AreRecordLines (recs_view l.records) (shown ++ rest));
}
