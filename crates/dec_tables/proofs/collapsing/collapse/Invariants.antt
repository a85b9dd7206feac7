use Rattle.std.proofs.Common.{◌≡◌, ℕ, ◌<◌, length}
use Rattle.std.specs.Prelude.{slice_get, Some}
use Rattle.number_model.specs.Fraction.{Fraction}
use Rattle.number_model.specs.Enclosure.{Holds}
use Rattle.water_model.specs.Region1.{region1}
use Rattle.std.proofs.Common.{map}
use Rattle.table_model.specs.Tables.{eighth_of}
use Rattle.interval_num.specs.declared.enc.Enc.{Enc}
use Rattle.enclosure_sizes.specs.Size.{SizedBy}
use Rattle.dec_tables.specs.Coefficients.{term_of}
use Rattle.dec_tables.specs.Parts.{part_coefficient}
use Rattle.dec_tables.specs.Sizes.{share_size, total_size}
use Rattle.dec_tables.proofs.collapsing.collapse.Given as goal

abbrev pub invariant-loop-k : goal.invariant-loop-k
invariant-loop-k g l = record {
  size : length l.coef ≡ g.row.N;
  holds : (v : Fraction) → Holds 56 l.x.lo l.x.hi (eighth_of v) → (i : ℕ) (e : Enc g.row.S) → i < l.k → slice_get l.coef i ≡ Some e → Holds g.row.S e.lo e.hi (part_coefficient l.part v i);
  sized : (i : ℕ) (e : Enc g.row.S) → i < l.k → slice_get l.coef i ≡ Some e → SizedBy (total_size (share_size l.part i) (map term_of region1)) 0 e.lo e.hi;
}
