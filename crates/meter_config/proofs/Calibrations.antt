-- Constants that a text gives, and that fit.
use Rattle.std.proofs.Common.{◌≡◌, ◌*◌, Bool, true, false, cond, ◌&&◌, Option, None, Some, refl, subst, IsTrue, ℕ}
use Rattle.std.specs.Prelude.{IfSome, option_map}
use Rattle.platinum_model.specs.Element.{Element}
use Rattle.platinum_model.specs.Calibration.{fits}
use Rattle.config_model.specs.Configuration.{both}
use Rattle.meter_parts.specs.Views.{constants}
use Rattle.meter_parts.specs.declared.cal.Cal.{Cal}

pub both_fit : (n : ℕ) (x y : Option Cal) (flow ret : Cal) → IfSome x (λ c. IsTrue (fits (constants c) n)) → IfSome y (λ c. IsTrue (fits (constants c) n)) → x ≡ Some flow → y ≡ Some ret
    → IsTrue (fits (constants flow) n && fits (constants ret) n)
both_fit n x y flow ret h k x_is y_is =
    let first : fits (constants flow) n ≡ true = subst (λ (o : Option Cal). IfSome o (λ c. IsTrue (fits (constants c) n))) x_is h in
    let second : fits (constants ret) n ≡ true = subst (λ (o : Option Cal). IfSome o (λ c. IsTrue (fits (constants c) n))) y_is k in
    rw (first, second) refl

pub not_six : {A : Type 0} (six : Bool) (o : Option A) → six ≡ false → None ≡ cond six o None
not_six six o h = rw h refl

pub both_found : (six : Bool) (f r : Option Element) (x y : Option Cal) (flow ret : Cal) → six ≡ true → option_map constants x ≡ f → option_map constants y ≡ r → x ≡ Some flow → y ≡ Some ret
    → Some (constants flow, constants ret) ≡ cond six (both f r) None
both_found six f r x y flow ret h p q k l = rw (h, ← p, ← q, k, l) refl

no_flow : {A : Type 0} (six : Bool) (r : Option A) → None ≡ cond six (both None r) None
no_flow true None = refl
no_flow true (Some r) = refl
no_flow false r = refl

no_ret : {A : Type 0} (six : Bool) (f : Option A) → None ≡ cond six (both f None) None
no_ret true None = refl
no_ret true (Some f) = refl
no_ret false f = refl

pub no_flow_found : (six : Bool) (f r : Option Element) (x : Option Cal) → option_map constants x ≡ f → x ≡ None → None ≡ cond six (both f r) None
no_flow_found six f r x p k = rw (← p, k) (no_flow six r)

pub no_ret_found : (six : Bool) (f r : Option Element) (y : Option Cal) → option_map constants y ≡ r → y ≡ None → None ≡ cond six (both f r) None
no_ret_found six f r y p k = rw (← p, k) (no_ret six f)
