use Rattle.std.proofs.Common.{◌≡◌, ◌+◌, List, ℕ, ◌++◌, length, drop}
use Rattle.readout_reader.specs.Views.{shown_list}
use Rattle.answer_lines.specs.ReadLines.{AreShownLines}
use Rattle.answer_lines.specs.Texts.{NoneEmpty, bytes_of}
use Rattle.answer_lines.proofs.messages.push_entries.Given as goal

-- these lines were added, and with those of the entries that are left they are the lines of all
abbrev pub invariant-loop-entry : goal.invariant-loop-entry
invariant-loop-entry l = record {
  count : length l.lines.items ≡ length l.initial.lines.items + l.entry-index;
  some : NoneEmpty l.initial.lines.items → NoneEmpty l.lines.items;
  added : (shown : List (List ℕ)) × (bytes_of l.lines.items ≡ bytes_of l.initial.lines.items ++ shown)
      × ((rest : List (List ℕ)) → AreShownLines (shown_list (drop l.entry-index l.entries)) rest → AreShownLines (shown_list l.entries) (shown ++ rest));
}
