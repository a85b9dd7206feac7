use Rattle.std.proofs.Common.{◌≡◌, ℕ, ◌-◌, ◌≤◌, ◌⊎◌, ◌++◌, false, true, List, length}
use Rattle.std.specs.Prelude.{MatchOption}
use Rattle.answer_model.specs.Faults.{is_open}
use Rattle.event_script.specs.Held.{held}
use Rattle.event_script.specs.Next.{AsksWhereOpen, Decides}
use Rattle.event_script.proofs.lines.Lines.next.Given as goal

-- what the bytes that were read so far decide
abbrev pub invariant-loop-decided : goal.invariant-loop-decided
invariant-loop-decided g l = record {
  decided : MatchOption l.decided (is_open l.fn.self.given (held l.self.buffer) ≡ true) (Decides l.fn.self.given (held l.self.buffer));
  given : l.self.given ≡ l.fn.self.given;
  fresh : l.self.has_ended ≡ false;
  delivered : g.S.Source.tells → (bytes : List ℕ) × (held l.self.buffer ≡ held l.fn.self.buffer ++ bytes) × (g.S.Source.left l.fn.source ≡ bytes ++ g.S.Source.left l.source);
  asks : (l.source ≡ l.fn.source) ⊎ (g.S.Source.tells → AsksWhereOpen l.fn.self.given (held l.fn.self.buffer) (g.S.Source.left l.fn.source) (g.S.Source.left l.source));
  later : g.S.Source.faults l.fn.source ≤ g.S.Source.faults l.source;
}

abbrev pub decreases-loop-decided : goal.decreases-loop-decided
decreases-loop-decided g l = 121 - length (held l.self.buffer)
