use Rattle.std.proofs.Common.{◌∙◌}
use Rattle.number_model.proofs.Ints.{recast}
use Rattle.region1_terms.proofs.Temperatures.{y_holds, z_holds, y_spread, z_spread, Sized-hull, hull_low, ordered_ends}
use Rattle.region1_terms.proofs.variables.Variables.over.Goals as goal

pub hull-requires : goal.hull-requires
hull-requires c =
    let w = y_spread c.args.span.lo c.args.span.hi c.args.span.ordered c.args.span.in_range in
    recast (ordered_ends _ _ _ _ w.low w.high w.order) c.y_quarter_at.ensures.lo c.y_quarter_at-2.ensures.hi

pub hull-requires-2 : goal.hull-requires-2
hull-requires-2 c =
    let w = z_spread c.args.span.lo c.args.span.hi c.args.span.ordered c.args.span.in_range in
    recast (ordered_ends _ _ _ _ w.low w.high w.order) c.inverse_y_at.ensures.lo c.inverse_y_at-2.ensures.hi

pub invariant_of-result : goal.invariant_of-result
invariant_of-result c =
    let lo = c.args.span.lo in
    let hi = c.args.span.hi in
    let order = c.args.span.ordered in
    let top = c.args.span.in_range in
    let yl = c.hull.ensures.lo ∙ c.y_quarter_at.ensures.lo in
    let yh = c.hull.ensures.hi ∙ c.y_quarter_at-2.ensures.hi in
    let zl = c.hull-2.ensures.lo ∙ c.inverse_y_at.ensures.lo in
    let zh = c.hull-2.ensures.hi ∙ c.inverse_y_at-2.ensures.hi in
    record {
      holds = record {
        y = λ t s. rw (yl, yh) (y_holds lo hi order top t s);
        z = λ t s. rw (zl, zh) (z_holds lo hi order top t s);
      };
      sized = record {
        y = rw (yl, yh) (Sized-hull _ _ _ _ _ _ _ _ _ (y_spread lo hi order top));
        z = rw (zl, zh) (Sized-hull _ _ _ _ _ _ _ _ _ (z_spread lo hi order top));
        y_low = rw yl (hull_low _ _ (y_spread lo hi order top).low);
        z_low = rw zl (hull_low _ _ (z_spread lo hi order top).low);
      };
    }
