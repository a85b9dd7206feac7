use Rattle.std.proofs.Common.{◌≡◌, ◌≤◌, drop, length}
use Rattle.reading_model.specs.Messages as model
use Rattle.readout_reader.proofs.texts.behind.Given as goal

-- so far the bytes agree
abbrev pub invariant-loop-k : goal.invariant-loop-k
invariant-loop-k l = record {
  same : model.behind (drop l.k l.fixed) (drop l.k l.bytes) ≡ model.behind l.fixed l.bytes;
  there : l.k ≤ length l.bytes;
}
