use Rattle.std.proofs.Common.{◌≡◌, ℕ, ◌+◌, ◌-◌, ◌≤◌, arith, rules, sym, Some, subst, ◌⊎◌, inl, inr}
use Rattle.interval_num.specs.declared.span.Span.{Span}
use Rattle.sensor_pair.specs.declared.verdict.Verdict.{Verdict}
use Rattle.sensor_pair.specs.Verdict.{IsCounts, IfCounts}
use Rattle.sensor_pair.specs.declared.verdict.Verdict.TheVariants.{Counts, FlowOut, ReturnOut, BothOut}
use Rattle.pulse_integrator.specs.Adds.{AddsLitre}
use Rattle.pulse_integrator.proofs.Litres.{adds_counted, adds_small, adds_flow_out, adds_return_out}
use Rattle.pulse_integrator.proofs.origin.Origin.litre.Goals as goal

-- the cells of the samples that count
cells : (P : Span → Span → Type 0) (v : Verdict) (f r : Span) → v ≡ Counts f r → IfCounts v P → P f r
cells P v f r is h = subst (λ w. IfCounts w P) is h

narrow_cell : (a b : ℕ) → b ≤ a + 2800 → b - a ≤ 2800
narrow_cell a b h = omega arith

pub of-requires-clause-flow_narrow : goal.of-requires-clause-flow_narrow
of-requires-clause-flow_narrow c = narrow_cell _ _ (cells _ c.judge.result c.in-Counts.f c.in-Counts.r c.in-Counts.is c.judge.ensures.cells).0.width

pub of-requires-clause-return_narrow : goal.of-requires-clause-return_narrow
of-requires-clause-return_narrow c = narrow_cell _ _ (cells _ c.judge.result c.in-Counts.f c.in-Counts.r c.in-Counts.is c.judge.ensures.cells).1.width

pub returns-in-Counts : goal.returns-in-Counts
returns-in-Counts c =
    let both = cells _ c.judge.result c.in-Counts.f c.in-Counts.r c.in-Counts.is c.judge.ensures.cells in
    let counting = subst IsCounts (sym c.in-Counts.is) tt in
    adds_counted c.args.self c.litre_energy.result.lo_mj c.litre_energy.result.hi_mj c.of.result (c.judge.ensures.counts.0 counting)
    (record {
      flow_cell = rw c.of.ensures.flow both.0;
      return_cell = rw c.of.ensures.ret both.1;
      holds = rw (c.of.ensures.flow, c.of.ensures.ret, ← c.requires) (search rules);
      low = c.of.ensures.low;
      high = c.of.ensures.high;
      closer = rw (c.of.ensures.flow, c.of.ensures.ret) c.of.ensures.closer;
    })
    c.of.ensures.size c.of.ensures.faulty

pub returns-in-Small : goal.returns-in-Small
returns-in-Small c = adds_small c.args.self c.none.result (c.judge.ensures.small.0 c.in-Small.is) c.none.ensures.energy c.none.ensures.bound (cc)

pub returns-in-FlowOut : goal.returns-in-FlowOut
returns-in-FlowOut c = by_sample c.in-FlowOut.is where
  by_sample : (c.judge.result ≡ FlowOut) ⊎ ((c.judge.result ≡ ReturnOut) ⊎ (c.judge.result ≡ BothOut)) → AddsLitre (Some c.args.self) c.none-in-FlowOut.result
  by_sample (inl is) = adds_flow_out c.args.self c.none-in-FlowOut.result (c.judge.ensures.flow_out.0 is).0 c.none-in-FlowOut.ensures.energy c.none-in-FlowOut.ensures.bound (cc)
  by_sample (inr (inl is)) = adds_return_out c.args.self c.none-in-FlowOut.result (c.judge.ensures.return_out.0 is).1 c.none-in-FlowOut.ensures.energy c.none-in-FlowOut.ensures.bound (cc)
  by_sample (inr (inr is)) = adds_flow_out c.args.self c.none-in-FlowOut.result (c.judge.ensures.both_out.0 is).0 c.none-in-FlowOut.ensures.energy c.none-in-FlowOut.ensures.bound (cc)
