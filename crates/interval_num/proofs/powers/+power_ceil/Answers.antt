use Rattle.std.proofs.Common.{◌^◌, subst, sym}
use Rattle.std.proofs.lemmas.Nat.{pow_pos}
use Rattle.interval_num.proofs.PowerLemmas.{IsPowerAbove, IsPowerAbove-one, IsPowerAbove-even, IsPowerAbove-odd}
use Rattle.interval_num.proofs.powers.+power_ceil.Goals as goal

pub returns-then-n-eq1-clause-above : goal.returns-then-n-eq1-clause-above
returns-then-n-eq1-clause-above t c = (subst (λ i. IsPowerAbove (2 ^ c.args.s) c.args.l i c.args.l) (sym c.if-n-eq1.true) (IsPowerAbove-one (2 ^ c.args.s) c.args.l c.requires.base)).above

pub returns-then-n-eq0-clause-below : goal.returns-then-n-eq0-clause-below
returns-then-n-eq0-clause-below t c = (IsPowerAbove-even (2 ^ c.args.s) c.args.l c.args.n c.power_ceil-half.result c.ceil_product-square.result (pow_pos c.args.s) c.requires.base c.requires.exponent c.if-n-eq1.false c.if-n-eq0.true
    (record { range = c.power_ceil-half.ensures.range; below = c.power_ceil-half.ensures.below; above = c.power_ceil-half.ensures.above }) c.ceil_product-square.ensures).below

pub returns-then-n-eq0-clause-above : goal.returns-then-n-eq0-clause-above
returns-then-n-eq0-clause-above t c = (IsPowerAbove-even (2 ^ c.args.s) c.args.l c.args.n c.power_ceil-half.result c.ceil_product-square.result (pow_pos c.args.s) c.requires.base c.requires.exponent c.if-n-eq1.false c.if-n-eq0.true
    (record { range = c.power_ceil-half.ensures.range; below = c.power_ceil-half.ensures.below; above = c.power_ceil-half.ensures.above }) c.ceil_product-square.ensures).above

pub returns-else-n-eq0-clause-range : goal.returns-else-n-eq0-clause-range
returns-else-n-eq0-clause-range t c = (IsPowerAbove-odd (2 ^ c.args.s) c.args.l c.args.n c.power_ceil-half.result c.ceil_product-square.result c.ceil_product.result (pow_pos c.args.s) c.requires.base c.requires.exponent c.if-n-eq1.false c.if-n-eq0.false
    (record { range = c.power_ceil-half.ensures.range; below = c.power_ceil-half.ensures.below; above = c.power_ceil-half.ensures.above }) c.ceil_product-square.ensures c.ceil_product.ensures).range

pub returns-else-n-eq0-clause-below : goal.returns-else-n-eq0-clause-below
returns-else-n-eq0-clause-below t c = (IsPowerAbove-odd (2 ^ c.args.s) c.args.l c.args.n c.power_ceil-half.result c.ceil_product-square.result c.ceil_product.result (pow_pos c.args.s) c.requires.base c.requires.exponent c.if-n-eq1.false c.if-n-eq0.false
    (record { range = c.power_ceil-half.ensures.range; below = c.power_ceil-half.ensures.below; above = c.power_ceil-half.ensures.above }) c.ceil_product-square.ensures c.ceil_product.ensures).below

pub returns-else-n-eq0-clause-above : goal.returns-else-n-eq0-clause-above
returns-else-n-eq0-clause-above t c = (IsPowerAbove-odd (2 ^ c.args.s) c.args.l c.args.n c.power_ceil-half.result c.ceil_product-square.result c.ceil_product.result (pow_pos c.args.s) c.requires.base c.requires.exponent c.if-n-eq1.false c.if-n-eq0.false
    (record { range = c.power_ceil-half.ensures.range; below = c.power_ceil-half.ensures.below; above = c.power_ceil-half.ensures.above }) c.ceil_product-square.ensures c.ceil_product.ensures).above
