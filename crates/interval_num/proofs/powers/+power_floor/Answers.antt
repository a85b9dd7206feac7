use Rattle.std.proofs.Common.{◌^◌, subst, sym}
use Rattle.std.proofs.lemmas.Nat.{pow_pos}
use Rattle.interval_num.proofs.PowerLemmas.{IsPowerBelow, IsPowerBelow-one, IsPowerBelow-even, IsPowerBelow-odd}
use Rattle.interval_num.proofs.powers.+power_floor.Goals as goal

pub returns-then-n-eq1-clause-below : goal.returns-then-n-eq1-clause-below
returns-then-n-eq1-clause-below t c = (subst (λ i. IsPowerBelow (2 ^ c.args.s) c.args.l i c.args.l) (sym c.if-n-eq1.true) (IsPowerBelow-one (2 ^ c.args.s) c.args.l c.requires.base)).below

pub returns-then-n-eq1-clause-above : goal.returns-then-n-eq1-clause-above
returns-then-n-eq1-clause-above t c = (subst (λ i. IsPowerBelow (2 ^ c.args.s) c.args.l i c.args.l) (sym c.if-n-eq1.true) (IsPowerBelow-one (2 ^ c.args.s) c.args.l c.requires.base)).above

pub returns-then-n-eq0-clause-below : goal.returns-then-n-eq0-clause-below
returns-then-n-eq0-clause-below t c = (IsPowerBelow-even (2 ^ c.args.s) c.args.l c.args.n c.power_floor-half.result c.floor_product-square.result (pow_pos c.args.s) c.requires.base c.requires.exponent c.if-n-eq1.false c.if-n-eq0.true
    (record { range = c.power_floor-half.ensures.range; below = c.power_floor-half.ensures.below; above = c.power_floor-half.ensures.above }) c.floor_product-square.ensures).below

pub returns-then-n-eq0-clause-above : goal.returns-then-n-eq0-clause-above
returns-then-n-eq0-clause-above t c = (IsPowerBelow-even (2 ^ c.args.s) c.args.l c.args.n c.power_floor-half.result c.floor_product-square.result (pow_pos c.args.s) c.requires.base c.requires.exponent c.if-n-eq1.false c.if-n-eq0.true
    (record { range = c.power_floor-half.ensures.range; below = c.power_floor-half.ensures.below; above = c.power_floor-half.ensures.above }) c.floor_product-square.ensures).above

pub returns-else-n-eq0-clause-range : goal.returns-else-n-eq0-clause-range
returns-else-n-eq0-clause-range t c = (IsPowerBelow-odd (2 ^ c.args.s) c.args.l c.args.n c.power_floor-half.result c.floor_product-square.result c.floor_product.result (pow_pos c.args.s) c.requires.base c.requires.exponent c.if-n-eq1.false c.if-n-eq0.false
    (record { range = c.power_floor-half.ensures.range; below = c.power_floor-half.ensures.below; above = c.power_floor-half.ensures.above }) c.floor_product-square.ensures c.floor_product.ensures).range

pub returns-else-n-eq0-clause-below : goal.returns-else-n-eq0-clause-below
returns-else-n-eq0-clause-below t c = (IsPowerBelow-odd (2 ^ c.args.s) c.args.l c.args.n c.power_floor-half.result c.floor_product-square.result c.floor_product.result (pow_pos c.args.s) c.requires.base c.requires.exponent c.if-n-eq1.false c.if-n-eq0.false
    (record { range = c.power_floor-half.ensures.range; below = c.power_floor-half.ensures.below; above = c.power_floor-half.ensures.above }) c.floor_product-square.ensures c.floor_product.ensures).below

pub returns-else-n-eq0-clause-above : goal.returns-else-n-eq0-clause-above
returns-else-n-eq0-clause-above t c = (IsPowerBelow-odd (2 ^ c.args.s) c.args.l c.args.n c.power_floor-half.result c.floor_product-square.result c.floor_product.result (pow_pos c.args.s) c.requires.base c.requires.exponent c.if-n-eq1.false c.if-n-eq0.false
    (record { range = c.power_floor-half.ensures.range; below = c.power_floor-half.ensures.below; above = c.power_floor-half.ensures.above }) c.floor_product-square.ensures c.floor_product.ensures).above
