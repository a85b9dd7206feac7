-- Steps of temperature at which the resistance passes a target.
use Rattle.std.specs.Prelude.{ℕ, ◌+◌, ◌*◌, ◌<◌, ℤ, pos, ◌≤ℤ◌, ◌<ℤ◌}
use Rattle.platinum_model.specs.Element.{Element, scaled_resistance}

-- twice 10^28 R is at most the target after k steps of so many nanodegrees, and above it after one more
pub record IsLastStep (e : Element) (target : ℤ) (step most k : ℕ) : Type 0 where
  pub inside : k < most
  pub reached : pos (2 * scaled_resistance e (step * k)) ≤ℤ target
  pub passed : target <ℤ pos (2 * scaled_resistance e (step * (k + 1)))
