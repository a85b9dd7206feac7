use Rattle.std.proofs.Common.{◌≤◌, ◌^◌, lit≤, arith}
use Rattle.std.proofs.Math.Nat.{pow-le-pow_right}
use Rattle.billing_memory.proofs.words.digits_word.Goals as goal

pub overflow_mul-value : goal.overflow_mul-value
overflow_mul-value c =
    let few : c.loop-c.c-index ≤ 7 = omega arith in
    let small : 10 ^ c.loop-c.c-index ≤ 10 ^ 7 = pow-le-pow_right (lit≤ tt) few in
    omega arith

pub overflow_add-value : goal.overflow_add-value
overflow_add-value c =
    let few : c.loop-c.c-index ≤ 7 = omega arith in
    let small : 10 ^ c.loop-c.c-index ≤ 10 ^ 7 = pow-le-pow_right (lit≤ tt) few in
    omega arith
