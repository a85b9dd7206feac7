use Rattle.std.proofs.Common.{arith, ◌≡◌, ◌-◌, ◌^◌, ◌<◌, ◌∙◌, ap, ◌++◌, ◌∷◌, [], length, lit<, true, false, length-append, ℕ}
use Rattle.std.proofs.lemmas.Str.{encode_ascii}
use Rattle.energy_register.proofs.DisplayLemmas.{IsWritten-none, IsWritten-next, IsWritten-digit, IsWritten-point, digit_room, point_room, power_positive, digit_at, has_point, IsWritten-all}
use Rattle.energy_register.proofs.display.digits_text.Goals as goal
use Rattle.energy_register.proofs.display.digits_text.Goals.{else-place-gt0-via-then-place-gt0+else-place-decimals, else-place-gt0-via-else-place-gt0}

pub loop-place-init : goal.loop-place-init
loop-place-init c = IsWritten-none c.args.digits c.args.decimals c.new-text.result.bytes c.requires.few c.new-text.ensures

pub nonzero_div-digits : goal.nonzero_div-digits
nonzero_div-digits c = omega (arith, c.pow.ensures, power_positive c.from.result)

pub push-requires : goal.push-requires
push-requires c =
    let old = IsWritten-next _ _ _ _ c.loop-place-test.true c.loop-place.invariant in
    let ascii : c.from-in-loop-place.result < 128 = omega (arith, c.from-in-loop-place.ensures) in
    let one = ap length (encode_ascii c.from-in-loop-place.result ascii) in
    (lit< tt, omega (arith, one, digit_room _ _ _ _ old))

pub push-requires-then-place-decimals : goal.push-requires-then-place-decimals
push-requires-then-place-decimals c =
    let old = IsWritten-next _ _ _ _ c.loop-place-test.true c.loop-place.invariant in
    let ascii : c.from-in-loop-place.result < 128 = omega (arith, c.from-in-loop-place.ensures) in
    let point : has_point c.args.decimals (c.loop-place.place - 1) ≡ true = grind (arith, c.if-place-gt0.true, c.if-place-decimals.true) in
    let pushed = ap length (c.push.ensures.ascii ascii) in
    (lit< tt, omega (arith, pushed, ap length (encode_ascii 46 (lit< tt)), length-append {A = ℕ}, point_room _ _ _ _ old point))

pub loop-place-preserved-then-place-decimals : goal.loop-place-preserved-then-place-decimals
loop-place-preserved-then-place-decimals c =
    let old = IsWritten-next _ _ _ _ c.loop-place-test.true c.loop-place.invariant in
    let ascii : c.from-in-loop-place.result < 128 = omega (arith, c.from-in-loop-place.ensures) in
    let point : has_point c.args.decimals (c.loop-place.place - 1) ≡ true = grind (arith, c.if-place-gt0.true, c.if-place-decimals.true) in
    let power = c.pow.ensures ∙ ap (λ k. 10 ^ k) c.from.ensures in
    let value : c.from-in-loop-place.result ≡ digit_at c.args.digits (c.loop-place.place - 1) = grind (arith, c.from-in-loop-place.ensures, power) in
    let written = c.push-then-place-decimals.ensures.ascii (lit< tt) ∙ ap (λ bytes. bytes ++ 46 ∷ []) (c.push.ensures.ascii ascii ∙ ap (λ digit. c.loop-place.text.bytes ++ digit ∷ []) value) in
    IsWritten-point _ _ _ _ _ old point written

pub loop-place-preserved : goal.loop-place-preserved
loop-place-preserved c =
    let old = IsWritten-next _ _ _ _ c.loop-place-test.true c.loop-place.invariant in
    let ascii : c.from-in-loop-place.result < 128 = omega (arith, c.from-in-loop-place.ensures) in
    let plain : has_point c.args.decimals (c.loop-place.place - 1) ≡ false = elim c.else-place-gt0.branch [
      | else-place-gt0-via-then-place-gt0+else-place-decimals w ↦ grind (arith, w.if-place-decimals)
      | else-place-gt0-via-else-place-gt0 w ↦ grind (arith, w.if-place-gt0)
    ] in
    let power = c.pow.ensures ∙ ap (λ k. 10 ^ k) c.from.ensures in
    let value : c.from-in-loop-place.result ≡ digit_at c.args.digits (c.loop-place.place - 1) = grind (arith, c.from-in-loop-place.ensures, power) in
    let written = c.push.ensures.ascii ascii ∙ ap (λ digit. c.loop-place.text.bytes ++ digit ∷ []) value in
    IsWritten-digit _ _ _ _ _ old plain written

pub returns : goal.returns
returns c = IsWritten-all c.args.digits c.args.decimals c.loop-place.place c.loop-place.text.bytes (omega (arith, c.loop-place-test.false)) c.loop-place.invariant
