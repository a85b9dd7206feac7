use Rattle.std.proofs.Common.{◌∙◌, lit<, sym, subst}
use Rattle.std.specs.Prelude.{IsTrue}
use Rattle.dec_tables.specs.Sizes.{factor_fits}
use Rattle.dec_tables.proofs.Shares.{share_parts, there_held}
use Rattle.dec_tables.proofs.collapsing.share.Goals as goal

pub factor-requires : goal.factor-requires
factor-requires g c = (share_parts c.args.part c.args.k c.args.t.now (sym c.has.ensures ∙ c.if-has.true) c.requires.fits).0

pub standing-requires : goal.standing-requires
standing-requires g c =
    let parts = share_parts c.args.part c.args.k c.args.t.now (sym c.has.ensures ∙ c.if-has.true) c.requires.fits in
    let fits = subst (λ s. IsTrue (factor_fits s c.shift.result c.factor.result)) (sym c.requires.scale) (rw (c.shift.ensures, c.factor.ensures) parts.1) in
    (lit< tt, (fits, (c.requires.low, c.requires.size)))

pub returns-then-has-clause-holds : goal.returns-then-has-clause-holds
returns-then-has-clause-holds g c = λ v p.
    there_held c.args.part g.row.S c.args.k c.args.t.now v _ _ (sym c.has.ensures ∙ c.if-has.true) (rw (c.shift.ensures, c.factor.ensures) at (c.standing.ensures.holds v p))
