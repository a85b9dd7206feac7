use Rattle.std.proofs.Common.{◌∙◌, lit<}
use Rattle.region1_terms.proofs.Temperatures.{u_holds, r_holds, u_spread, r_spread, Sized-hull, hull_low}
use Rattle.region1_terms.proofs.tau.TauVariables.over.Goals as goal

pub invariant_of-result : goal.invariant_of-result
invariant_of-result c =
    let lo = c.args.span.lo in
    let hi = c.args.span.hi in
    let order = c.args.span.ordered in
    let top = c.args.span.in_range in
    let ul = c.hull.ensures.lo ∙ c.inverse_tau_at.ensures.lo in
    let uh = c.hull.ensures.hi ∙ c.inverse_tau_at-2.ensures.hi in
    let rl = c.hull-2.ensures.lo ∙ c.y_over_tau_at.ensures.lo in
    let rh = c.hull-2.ensures.hi ∙ c.y_over_tau_at-2.ensures.hi in
    record {
      holds = record {
        u = λ t s. rw (ul, uh) (u_holds lo hi order top t s);
        r = λ t s. rw (rl, rh) (r_holds lo hi order top t s);
      };
      sized = record {
        u = rw (ul, uh) (Sized-hull _ _ _ _ _ _ _ _ _ (u_spread lo hi order top));
        r = rw (rl, rh) (Sized-hull _ _ _ _ _ _ _ _ _ (r_spread lo hi order top));
        u_low = rw ul (hull_low _ _ (lit< tt));
        r_low = rw rl (hull_low _ _ (lit< tt));
      };
    }
