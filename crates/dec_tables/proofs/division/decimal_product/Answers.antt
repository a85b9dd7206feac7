use Rattle.std.proofs.Common.{arith}
use Rattle.dec_tables.proofs.Divisions.{product_parts}
use Rattle.dec_tables.proofs.division.decimal_product.Goals as goal

pub overflow_mul-result : goal.overflow_mul-result
overflow_mul-result c =
    let parts = product_parts c.args.m c.args.power c.args.shift (omega (arith, c.if-m-eq0.false)) c.requires.size in
    rw (c.from.ensures, c.pow.ensures) (omega (arith, parts.2))

pub pow-requires-else-m-eq0 : goal.pow-requires-else-m-eq0
pow-requires-else-m-eq0 c =
    let parts = product_parts c.args.m c.args.power c.args.shift (omega (arith, c.if-m-eq0.false)) c.requires.size in
    omega (arith, parts.1)
