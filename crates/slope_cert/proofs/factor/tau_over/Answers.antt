use Rattle.std.proofs.Common.{◌≡◌, ◌-◌, ◌^◌, ◌∙◌, rules, pos, lit≤, to_z-of_z}
use mir.Val.{SFits}
use mir.Syntax.{w128}
use Rattle.interval_num.specs.Ends.{quotient_floor, quotient_ceil}
use Rattle.region1_terms.specs.Variables.{nanokelvin_of}
use Rattle.enclosure_sizes.specs.Size.{SizedBy}
use Rattle.if97_region1.proofs.Facts.{within_most, most_within}
use Rattle.slope_cert.specs.Sizes.{tau_size}
use Rattle.region1_terms.proofs.Temperatures.{Sized-hull}
use Rattle.slope_cert.proofs.Quotients.{tau_holds, tau_spread}
use Rattle.slope_cert.proofs.factor.tau_over.Goals as goal

pub returns : goal.returns
returns c =
    let span = c.args.span in
    let fl : SFits w128 c.tau_at-least.result.lo = search rules in
    let fh : SFits w128 c.tau_at-most.result.hi = search rules in
    let end_lo : c.of_ends.result.lo ≡ c.tau_at-least.result.lo = (simp to_z-of_z at c.of_ends.ensures.lo) in
    let end_hi : c.of_ends.result.hi ≡ c.tau_at-most.result.hi = (simp to_z-of_z at c.of_ends.ensures.hi) in
    let lo : c.of_ends.result.lo ≡ quotient_floor 56 (pos 1386000000000) (pos (nanokelvin_of c.args.span.hi)) = end_lo ∙ c.tau_at-least.ensures.lo in
    let hi : c.of_ends.result.hi ≡ quotient_ceil 56 (pos 1386000000000) (pos (nanokelvin_of c.args.span.lo)) = end_hi ∙ c.tau_at-most.ensures.hi in
    let sized : SizedBy tau_size (c.args.span.hi - c.args.span.lo) c.of_ends.result.lo c.of_ends.result.hi =
    rw (lo, hi) (Sized-hull _ _ _ _ _ _ _ _ _ (tau_spread span.lo span.hi span.ordered span.in_range)) in
    record {
      holds = λ t s. rw (lo, hi) (tau_holds span.lo span.hi span.ordered span.in_range t s);
      sized = sized;
      low = within_most {m = tau_size.most} {n = 2 ^ 59} (lit≤ tt) sized.low;
      high = most_within {m = tau_size.most} {n = 2 ^ 59} (lit≤ tt) sized.high;
    }
