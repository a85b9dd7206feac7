-- Whole temperatures, in the words of the definitions.
use Rattle.std.proofs.Common.{◌≡◌, ◌∙◌, ℕ, ◌↔◌, Option, None, Some, refl, sym, ap}
use Rattle.std.specs.Prelude.{IsSome, IfSome, cond}
use Rattle.std.proofs.lemmas.Bool.{true≢false}
use Rattle.platinum_model.specs.Element.{Element}
use Rattle.platinum_model.specs.Sample.{IsInRange, IsWholeTemp}
use Rattle.platinum_model.proofs.Samples.{IsWholeTemp-unique}
use Rattle.metering_model.specs.Counting.{whole_temp}
use Rattle.metering_model.proofs.Counting.{in_range-true, in_range-false, whole_temp-is}
use Rattle.telegram_model.specs.Telegram.{temp_of}

pub temp_of-found : (e : Element) (sample : ℕ) (found : Option ℕ) → (IsSome found ↔ IsInRange e sample) → IfSome found (IsWholeTemp e sample) → found ≡ temp_of e sample
temp_of-found e sample None within whole =
    let out = in_range-false e sample (λ inside. true≢false (sym (within.1 inside))) in
    sym (ap (λ b. cond b (Some (whole_temp e sample)) None) out)
temp_of-found e sample (Some t) within whole =
    let inside = within.0 refl in
    let same : t ≡ whole_temp e sample = IsWholeTemp-unique e sample t (whole_temp e sample) whole (whole_temp-is e sample inside) in
    ap Some same ∙ sym (ap (λ b. cond b (Some (whole_temp e sample)) None) (in_range-true e sample inside))
