use Rattle.std.proofs.Common.{lit<, ◌∙◌, ◌<◌, arith, map, length}
use Rattle.std.proofs.lemmas.List.{length-set}
use Rattle.std.proofs.lemmas.Option.{slice_get_within}
use Rattle.number_model.specs.Enclosure.{Holds}
use Rattle.water_model.specs.Region1.{region1}
use Rattle.enclosure_sizes.specs.Size.{SizedBy}
use Rattle.dec_tables.specs.Coefficients.{term_of}
use Rattle.dec_tables.specs.Parts.{part_coefficient}
use Rattle.dec_tables.specs.Sizes.{share_size, total_size}
use Rattle.dec_tables.proofs.Coefficients.{x_bounds, entry_set, narrow_width, stated_size, total_small}
use Rattle.dec_tables.proofs.collapsing.collapse.Goals as goal

pub loop-k-preserved : goal.loop-k-preserved
loop-k-preserved g c =
    let within : c.loop-k.k < length c.loop-k.coef = omega (arith, c.loop-k.invariant.size, c.loop-k-test.true) in
    record {
      size = length-set c.loop-k.coef c.loop-k.k c.coefficient.result ∙ c.loop-k.invariant.size;
      holds = λ v p. entry_set (λ i e. Holds g.row.S e.lo e.hi (part_coefficient c.args.part v i)) c.loop-k.coef c.loop-k.k c.coefficient.result within (c.coefficient.ensures.holds v p) (c.loop-k.invariant.holds v p);
      sized = entry_set (λ i e. SizedBy (total_size (share_size c.args.part i) (map term_of region1)) 0 e.lo e.hi) c.loop-k.coef c.loop-k.k c.coefficient.result within c.coefficient.ensures.size c.loop-k.invariant.sized;
    }

pub returns-clause-holds : goal.returns-clause-holds
returns-clause-holds g c = λ v p k e there.
    let inside = slice_get_within c.loop-k.coef k e there in
    c.loop-k.invariant.holds v p k e (omega (arith, inside, c.loop-k.invariant.size, c.loop-k-test.false)) there

pub returns-clause-widths : goal.returns-clause-widths
returns-clause-widths g c = λ k e there.
    let inside = slice_get_within c.loop-k.coef k e there in
    narrow_width c.args.part k e.lo e.hi (omega (arith, inside, c.loop-k.invariant.size, c.requires.count))
    (c.loop-k.invariant.sized k e (omega (arith, inside, c.loop-k.invariant.size, c.loop-k-test.false)) there)

pub returns-clause-sized : goal.returns-clause-sized
returns-clause-sized g c = λ k e there d.
    let inside = slice_get_within c.loop-k.coef k e there in
    stated_size c.args.part k d e.lo e.hi (omega (arith, inside, c.loop-k.invariant.size, c.requires.count))
    (c.loop-k.invariant.sized k e (omega (arith, inside, c.loop-k.invariant.size, c.loop-k-test.false)) there)

pub returns-clause-total : goal.returns-clause-total
returns-clause-total g c =
    total_small c.args.part g.row.S c.loop-k.coef (c.loop-k.invariant.size ∙ c.requires.count)
    (λ k e there.
    let inside = slice_get_within c.loop-k.coef k e there in
    c.loop-k.invariant.sized k e (omega (arith, inside, c.loop-k.invariant.size, c.loop-k-test.false)) there)

pub coefficient-requires : goal.coefficient-requires
coefficient-requires g c =
    let at = c.requires.pressure in
    let x = x_bounds at.0 c.args.x.lo c.args.x.hi at.1 at.2 c.args.x.ordered c.requires.width at.3 in
    (lit< tt, (c.requires.table, (omega (arith, c.loop-k-test.true, c.requires.count), (c.requires.scale, (x.0, x.1)))))
