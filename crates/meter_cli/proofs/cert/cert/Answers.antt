use Rattle.std.proofs.Common.{◌≡◌, ◌∙◌, subst, arith, pos, ◌≤ℤ◌}
use Rattle.std.proofs.lemmas.Int.{ints}
use Rattle.slope_model.specs.Slope.{SlopesLie}
use Rattle.slope_cert.proofs.Joining.{joins}
use Rattle.meter_cli.specs.Cert.{slope_text}
use Rattle.meter_cli.proofs.Certs.{one_further, segment_went, segment_stopped, segment_failed, segments_ended, all_rise}
use Rattle.meter_cli.proofs.cert.cert.Goals as goal

pub loop-segment-preserved : goal.loop-segment-preserved
loop-segment-preserved g c =
    let range = c.slope_at-range.result in
    let i = c.loop-segment.segment in
    let above : pos 1 ≤ℤ c.slope_at-range.result.lo = omega (arith, ints, c.if-range-le0.false) in
    let bytes : c.as_bytes.result.now ≡ slope_text c.loop-segment.segment c.slope_at-range.result.lo c.slope_at-range.result.hi = c.as_bytes.ensures.value ∙ c.as_str.ensures.value ∙ c.slope_line-line.ensures.text in
    record {
      goes_on = λ tells new status rest.
          c.loop-segment.invariant.goes_on tells new status
          (segment_went c.args.p_kpa i range.lo range.hi c.as_bytes.result.now (omega (arith, c.loop-segment-test.true)) bytes (subst (λ p. SlopesLie p c.loop-segment.segment range.lo range.hi) c.at-pressure.ensures c.slope_at-range.ensures.holds) c.slope_at-range.ensures.width _ _ new status above (c.in-Ok.ensures.gives tells) rest);
      rising = one_further c.args.p_kpa i range.lo range.hi above (subst (λ p. SlopesLie p c.loop-segment.segment range.lo range.hi) c.at-pressure.ensures c.slope_at-range.ensures.holds) c.loop-segment.invariant.rising;
      memory_untouched = c.put.ensures.memory_calls ∙ c.loop-segment.invariant.memory_untouched;
      later = omega (arith, c.loop-segment.invariant.later, c.put.ensures.cause.later);
    }

pub returns-in-Err-clause-leaves : goal.returns-in-Err-clause-leaves
returns-in-Err-clause-leaves g c = λ tells.
    let range = c.slope_at-range.result in
    let bytes : c.as_bytes.result.now ≡ slope_text c.loop-segment.segment c.slope_at-range.result.lo c.slope_at-range.result.hi = c.as_bytes.ensures.value ∙ c.as_str.ensures.value ∙ c.slope_line-line.ensures.text in
    c.loop-segment.invariant.goes_on tells _ _
    (segment_failed c.args.p_kpa c.loop-segment.segment range.lo range.hi c.as_bytes.result.now (omega (arith, c.loop-segment-test.true)) bytes (subst (λ p. SlopesLie p c.loop-segment.segment range.lo range.hi) c.at-pressure.ensures c.slope_at-range.ensures.holds) c.slope_at-range.ensures.width _ _ (c.in-Err.ensures.gives tells))

pub returns-then-range-le0-clause-leaves : goal.returns-then-range-le0-clause-leaves
returns-then-range-le0-clause-leaves g c = λ tells.
    let range = c.slope_at-range.result in
    let low : c.slope_at-range.result.lo ≤ℤ pos 0 = omega (arith, ints, c.if-range-le0.true) in
    let bytes : c.as_bytes.result.now ≡ slope_text c.loop-segment.segment c.slope_at-range.result.lo c.slope_at-range.result.hi = c.as_bytes.ensures.value ∙ c.as_str.ensures.value ∙ c.slope_line-line.ensures.text in
    c.loop-segment.invariant.goes_on tells _ _
    (segment_stopped c.args.p_kpa c.loop-segment.segment range.lo range.hi c.as_bytes.result.now (omega (arith, c.loop-segment-test.true)) bytes (subst (λ p. SlopesLie p c.loop-segment.segment range.lo range.hi) c.at-pressure.ensures c.slope_at-range.ensures.holds) c.slope_at-range.ensures.width _ _ low (c.in-Ok.ensures.gives tells))

pub returns-clause-leaves : goal.returns-clause-leaves
returns-clause-leaves g c = λ tells.
    c.loop-segment.invariant.goes_on tells _ _
    (segments_ended c.args.p_kpa c.loop-segment.segment _ _ _ (omega (arith, c.loop-segment-test.false, c.loop-segment.auto.segment-end)) (c.put_line.ensures.puts tells))

pub returns-clause-rises : goal.returns-clause-rises
returns-clause-rises g c = λ done. joins c.args.p_kpa (all_rise c.args.p_kpa c.loop-segment.segment c.loop-segment-test.false c.loop-segment.invariant.rising)
