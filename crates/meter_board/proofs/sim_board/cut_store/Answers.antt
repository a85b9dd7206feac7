use Rattle.std.proofs.Common.{◌∙◌, length, take, drop, arith}
use Rattle.trace_model.specs.Images.{replaced}
use Rattle.meter_board.specs.Tears.{torn}
use Rattle.meter_board.proofs.TearLemmas.{torn_store}
use Rattle.meter_board.proofs.sim_board.cut_store.Goals as goal

pub returns-clause-torn : goal.returns-clause-torn
returns-clause-torn c = λ _.
    let memory = c.args.memory.now.items in
    let bytes = c.args.bytes.now in
    let armed = c.args.armed in
    c.tear_at.ensures
    ∙ (λ i. replaced (c.overwrite.ensures i) c.args.at (torn armed.keep armed.fill (take (length bytes) (drop c.args.at (c.overwrite.ensures i)))))
    ∙ torn_store memory bytes c.args.at armed.keep armed.fill (omega (arith, c.requires.whole, c.requires.fits))
