use Rattle.std.proofs.Common.{◌≡◌, ◌+◌, ◌<◌, arith, lit<, length, take, take_all}
use Rattle.std.proofs.lemmas.Int.{ints}
use Rattle.number_model.proofs.Same.{Holds-same}
use Rattle.water_model.specs.Water.{sum_over}
use Rattle.dec_tables.specs.Parts.{share_of}
use Rattle.dec_tables.specs.Sizes.{share_size}
use Rattle.dec_tables.proofs.Tables.{term_fits, small_at, count_few}
use Rattle.dec_tables.proofs.Sums.{part_sum, size_none, size_more, size_most, sum_over_more}
use Rattle.dec_tables.proofs.collapsing.coefficient.Goals as goal

pub loop-term-init : goal.loop-term-init
unfolding sum_over
loop-term-init g c = record {
  holds = λ v p. rw (c.point-sum.ensures.lo, c.point-sum.ensures.hi) (record { low = record { crossed = omega (arith, ints) }; high = record { crossed = omega (arith, ints) } });
  size = size_none (share_size c.args.part c.args.k) 0 c.point-sum.result.lo c.point-sum.result.hi c.point-sum.ensures.lo c.point-sum.ensures.hi;
}

pub share-requires : goal.share-requires
share-requires g c =
    let few : c.loop-term.term-index < length c.args.t.now.terms = omega (arith, c.loop-term-test.true) in
    let fits = term_fits c.args.part c.args.k c.loop-term.term-index _ c.requires.few (rw c.requires.table at few) in
    (lit< tt, (omega (arith, c.requires.few, count_few c.args.part), (c.requires.scale, (rw c.requires.table fits, (c.requires.low, c.requires.size)))))

pub add-sum-requires : goal.add-sum-requires
add-sum-requires g c =
    let few : c.loop-term.term-index < length c.args.t.now.terms = omega (arith, c.loop-term-test.true) in
    let z = size_more (share_size c.args.part c.args.k) 0 c.args.t.now.terms c.loop-term.term-index _ _ _ _ _ few c.loop-term.invariant.size c.share.ensures.size in
    let most = size_most (share_size c.args.part c.args.k) c.args.t.now.terms (c.loop-term.term-index + 1) in
    let small = rw (← c.requires.table) at (small_at c.args.part c.args.k c.requires.few) in
    (lit< tt, (omega (arith, ints, z.low, most, small), omega (arith, ints, z.high, most, small)))

pub loop-term-preserved : goal.loop-term-preserved
loop-term-preserved g c =
    let few : c.loop-term.term-index < length c.args.t.now.terms = omega (arith, c.loop-term-test.true) in
    record {
      holds = λ v p.
          Holds-same (sum_over_more (share_of c.args.part v c.args.k) c.args.t.now.terms c.loop-term.term-index _ few)
          (c.add-sum.ensures.holds _ _ (c.loop-term.invariant.holds v p) (c.share.ensures.holds v p));
      size = rw (c.add-sum.ensures.lo, c.add-sum.ensures.hi) (size_more (share_size c.args.part c.args.k) 0 c.args.t.now.terms c.loop-term.term-index _ _ _ _ _ few c.loop-term.invariant.size c.share.ensures.size);
    }

pub returns-clause-holds : goal.returns-clause-holds
returns-clause-holds g c = λ v p.
    let all : take c.loop-term.term-index c.args.t.now.terms ≡ c.args.t.now.terms = take_all c.loop-term.term-index c.args.t.now.terms (omega (arith, c.loop-term-test.false)) in
    let h = rw (all, c.requires.table) at (c.loop-term.invariant.holds v p) in
    Holds-same (part_sum c.args.part v c.args.k) h
