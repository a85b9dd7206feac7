use Rattle.std.proofs.Common.{◌≡◌, ◌≤◌, drop}
use Rattle.std.specs.List.{sum_by}
use Rattle.dec_tables.specs.Polynomials.{magnitude, horner_ends}
use Rattle.dec_tables.proofs.poly.Poly.horner.Given as goal

abbrev pub invariant-loop-k : goal.invariant-loop-k
invariant-loop-k g l = record {
  lo : l.sum.lo ≡ (horner_ends g.row.S l.z.lo l.z.hi (drop l.k l.self.coef)).0;
  hi : l.sum.hi ≡ (horner_ends g.row.S l.z.lo l.z.hi (drop l.k l.self.coef)).1;
  size : magnitude l.sum ≤ sum_by magnitude (drop l.k l.self.coef);
}
