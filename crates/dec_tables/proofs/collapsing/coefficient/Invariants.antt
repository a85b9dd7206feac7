use Rattle.std.proofs.Common.{take}
use Rattle.number_model.specs.Fraction.{Fraction}
use Rattle.number_model.specs.Enclosure.{Holds}
use Rattle.water_model.specs.Water.{sum_over}
use Rattle.table_model.specs.Tables.{eighth_of}
use Rattle.enclosure_sizes.specs.Size.{SizedBy}
use Rattle.dec_tables.specs.Parts.{share_of}
use Rattle.dec_tables.specs.Sizes.{share_size, total_size}
use Rattle.dec_tables.proofs.collapsing.coefficient.Given as goal

abbrev pub invariant-loop-term : goal.invariant-loop-term
invariant-loop-term g l = record {
  holds : (v : Fraction) → Holds 56 l.x.lo l.x.hi (eighth_of v) → Holds g.row.S l.sum.lo l.sum.hi (sum_over (share_of l.part v l.k) (take l.term-index l.term-items));
  size : SizedBy (total_size (share_size l.part l.k) (take l.term-index l.term-items)) 0 l.sum.lo l.sum.hi;
}
