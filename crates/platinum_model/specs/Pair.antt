-- When a pair of samples, one in the flow and one in the return, counts energy.
use Rattle.std.specs.Prelude.{ℕ, ◌+◌, ◌<◌, ◌≤◌}
use Rattle.platinum_model.specs.Element.{Element}
use Rattle.platinum_model.specs.Sample.{IsInRange, IsWholeTemp}

-- both samples are in range, with these whole temperatures in microdegrees
pub record AreWholeTemps (flow ret : Element) (rf rr flow_udeg return_udeg : ℕ) : Type 0 where
  pub flow_in_range : IsInRange flow rf
  pub return_in_range : IsInRange ret rr
  pub flow_temp : IsWholeTemp flow rf flow_udeg
  pub return_temp : IsWholeTemp ret rr return_udeg

-- both samples are in range, and the flow is warmer by at least 10,000 microdegrees
pub record IsCountingPair (flow ret : Element) (rf rr : ℕ) : Type 0 where
  pub flow_udeg : ℕ
  pub return_udeg : ℕ
  pub temps : AreWholeTemps flow ret rf rr flow_udeg return_udeg
  pub apart : return_udeg + 10000 ≤ flow_udeg

-- both samples are in range, and the flow is not warmer by 10,000 microdegrees
pub record IsSmallPair (flow ret : Element) (rf rr : ℕ) : Type 0 where
  pub flow_udeg : ℕ
  pub return_udeg : ℕ
  pub temps : AreWholeTemps flow ret rf rr flow_udeg return_udeg
  pub close : flow_udeg < return_udeg + 10000
