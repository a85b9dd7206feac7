-- The line of a sample, by the element of its sensor.
use Rattle.std.proofs.Common.{◌≡◌, ℕ, List, subst}
use Rattle.platinum_model.specs.Element.{Element}
use Rattle.answer_lines.specs.Temp.{IsTempText}

pub temp_of : (e f : Element) (r : ℕ) (text : List ℕ) → e ≡ f → IsTempText e r text → IsTempText f r text
temp_of e f r text same is = subst (λ g. IsTempText g r text) same is
