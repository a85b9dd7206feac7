-- Words on verdicts.
use Rattle.interval_num.specs.declared.span.Span.{Span}
use Rattle.sensor_pair.specs.declared.verdict.Verdict.{Verdict}
use Rattle.sensor_pair.specs.declared.verdict.Verdict.TheVariants.{Counts, FlowOut, ReturnOut, BothOut, Small}

abbrev pub IsCounts : Verdict → Type 0
IsCounts (Counts f r) = Unit {0}
IsCounts FlowOut = ⊥
IsCounts ReturnOut = ⊥
IsCounts BothOut = ⊥
IsCounts Small = ⊥

-- where energy counts, P holds of the spans of the flow and the return
abbrev pub IfCounts : Verdict → (Span → Span → Type 0) → Type 0
IfCounts (Counts f r) P = P f r
IfCounts FlowOut P = Unit {0}
IfCounts ReturnOut P = Unit {0}
IfCounts BothOut P = Unit {0}
IfCounts Small P = Unit {0}
