use Rattle.std.proofs.Common.{◌∙◌, sym, arith, drop, length-drop}
use Rattle.readout_reader.proofs.Sized.{ended}
use Rattle.readout_reader.proofs.texts.behind.Goals as goal

pub returns-then-k-bytes : goal.returns-then-k-bytes
returns-then-k-bytes c =
    let k = c.loop-k.k in
    sym c.loop-k.invariant.same
    ∙ ended (drop k c.args.fixed.now) (drop k c.args.bytes.now) (omega (arith, length-drop k c.args.fixed.now)) (omega (arith, length-drop k c.args.bytes.now))
