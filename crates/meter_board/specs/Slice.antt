-- What a contract sees of a source over a slice.
use Rattle.std.specs.Prelude.{◌≡◌, ℕ, List}
use Rattle.meter_board.specs.declared.slice_source.SliceSource.{SliceSource}

-- the bytes that are left
abbrev pub slice_left : SliceSource → List ℕ
slice_left s = s.rest.now

-- the most bytes of one read
abbrev pub slice_piece : SliceSource → ℕ
slice_piece s = s.piece

abbrev pub slice_faults : SliceSource → ℕ
slice_faults s = s.faults

-- how many reads there were
abbrev pub slice_reads : SliceSource → ℕ
slice_reads s = s.reads

-- the numbers of the reads that fail
abbrev pub slice_failing : SliceSource → List ℕ
slice_failing s = s.failing.items

-- all but the numbers of the reads that fail
pub record ReadsAsBefore (old new : SliceSource) : Type 0 where
  pub left : slice_left new ≡ slice_left old
  pub piece : slice_piece new ≡ slice_piece old
  pub faults : slice_faults new ≡ slice_faults old
  pub reads : slice_reads new ≡ slice_reads old
