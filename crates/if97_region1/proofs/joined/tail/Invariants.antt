use Rattle.std.proofs.Common.{◌≡◌, ℕ, suc, ◌<◌, length}
use Rattle.std.specs.Prelude.{slice_get}
use Rattle.if97_region1.proofs.joined.tail.Given as goal

abbrev pub invariant-loop-k : goal.invariant-loop-k
invariant-loop-k l = record {
  full : length l.coef ≡ 16;
  same : (j : ℕ) → j < l.k → slice_get l.coef j ≡ slice_get l.up.coef (suc (suc j));
}
