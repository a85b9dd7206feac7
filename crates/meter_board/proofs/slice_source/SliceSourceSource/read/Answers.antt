use Rattle.std.proofs.Common.{◌≡◌, ◌∙◌, min, length, arith}
use Rattle.meter_board.proofs.ReadLemmas.{read_gives}
use Rattle.meter_board.proofs.slice_source.SliceSourceSource.read.Goals as goal

pub returns-clause-gives : goal.returns-clause-gives
returns-clause-gives c = λ _.
    let source = c.args.self.now in
    let count : c.min-count.result ≡ min (min source.piece (length c.args.into.now)) (length source.rest.now) = omega (arith, c.min.ensures, c.min-count.ensures) in
    read_gives source.rest.now _ _ _ _ source.piece (length c.args.into.now) (c.copy_from_slice.ensures.after ∙ c.split_at.ensures.front) c.split_at.ensures.back count source.some c.requires
