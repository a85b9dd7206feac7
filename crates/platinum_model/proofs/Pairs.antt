-- A pair of samples does not both count and fall short of the difference.
use Rattle.std.proofs.Common.{ℕ, ◌+◌, ◌<◌, ◌≤◌, arith}
use Rattle.platinum_model.specs.Element.{Element}
use Rattle.platinum_model.specs.Pair.{AreWholeTemps, IsCountingPair, IsSmallPair}
use Rattle.platinum_model.proofs.Samples.{IsWholeTemp-unique}

pub counting-unique : (flow ret : Element) (rf rr tf tr : ℕ) → AreWholeTemps flow ret rf rr tf tr → IsCountingPair flow ret rf rr → tr + 10000 ≤ tf
counting-unique flow ret rf rr tf tr h pair =
    omega (arith, pair.apart, IsWholeTemp-unique flow rf tf pair.flow_udeg h.flow_temp pair.temps.flow_temp, IsWholeTemp-unique ret rr tr pair.return_udeg h.return_temp pair.temps.return_temp)

pub small-unique : (flow ret : Element) (rf rr tf tr : ℕ) → AreWholeTemps flow ret rf rr tf tr → IsSmallPair flow ret rf rr → tf < tr + 10000
small-unique flow ret rf rr tf tr h pair =
    omega (arith, pair.close, IsWholeTemp-unique flow rf tf pair.flow_udeg h.flow_temp pair.temps.flow_temp, IsWholeTemp-unique ret rr tr pair.return_udeg h.return_temp pair.temps.return_temp)
