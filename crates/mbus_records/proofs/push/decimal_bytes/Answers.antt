use Rattle.std.proofs.Common.{◌≡◌, ◌∙◌, ◌+◌, ◌*◌, ◌/◌, ◌%◌, [], ◌∷◌, ap, arith}
use Rattle.telegram_model.specs.Values.{decimal_bytes}
use Rattle.mbus_records.proofs.push.decimal_bytes.Goals as goal

pub returns : goal.returns
unfolding decimal_bytes
returns c =
    let number = c.args.number in
    let all : number ≡ number / 1 = omega arith in
    let first : c.two_digits.result ≡ number / 1 % 10 + 16 * (number / 1 / 10 % 10) = c.two_digits.ensures ∙ ap (λ n. n % 10 + 16 * (n / 10 % 10)) all in
    λ i. first i ∷ c.two_digits-2.ensures i ∷ c.two_digits-3.ensures i ∷ c.two_digits-4.ensures i ∷ []
