-- Verdicts on what lies in the cells of samples.
use Rattle.std.proofs.Common.{◌≡◌, ℕ, ◌+◌, ◌-◌, ◌*◌, arith, ℤ, pos, ◌*ℤ◌, ◌≤ℤ◌}
use Rattle.std.specs.Prelude.{◌≢◌}
use Rattle.std.proofs.lemmas.Int.{ints}
use lib.IntN.{◌-ℤ◌}
use Rattle.number_model.specs.Fraction.{Fraction}
use Rattle.water_model.specs.Decimal.{integer}
use Rattle.platinum_model.specs.Element.{Element}
use Rattle.platinum_model.specs.Sample.{IsInRange, IsCellSpan}
use Rattle.heat_model.specs.Heat.{LiesBetween}
use Rattle.parts_model.specs.Place.{Place}
use Rattle.bench_model.specs.Verdicts as model
use Rattle.bench_model.specs.Verdicts.{calculator_verdict, pair_verdict}
use Rattle.bench_limits.specs.Judged.{IfDecided, IfUndecided, IsJudged}
use Rattle.bench_limits.specs.declared.judged.Judged.{Judged}
use Rattle.bench_limits.specs.declared.judged.Judged.TheVariants.{Pass, High, Low, Undecided}
use Rattle.answer_lines.specs.Bench.{AreLitreEnds, AreNear, AtEachLitre, IsCalculatorJudged, IsPairJudged, IsWholeDifference}

module _ (e : Element) (place : Place) (p rf rr : ℕ) (lo hi : ℤ) (verdict : Fraction → model.Verdict) (hold : AtEachLitre e place p rf rr (LiesBetween lo hi)) where
  -- a verdict between the ends is one at each energy of a litre
  decided : (judged : Judged) → IfDecided judged (λ v. (x : Fraction) → LiesBetween lo hi x → verdict x ≡ v) → IfDecided judged (λ v. AtEachLitre e place p rf rr (λ q. verdict q ≡ v))
  decided Pass sound = λ tf tr f r. sound _ (hold tf tr f r)
  decided High sound = λ tf tr f r. sound _ (hold tf tr f r)
  decided Low sound = λ tf tr f r. sound _ (hold tf tr f r)
  decided (Undecided l h) sound = tt

  undecided : (judged : Judged) → AreNear e rf rr lo hi → IfUndecided judged (λ l h. (l ≡ lo) × (h ≡ hi) × (verdict (integer lo) ≢ verdict (integer hi))) → IfUndecided judged (AreLitreEnds e place p rf rr verdict)
  undecided Pass near is = tt
  undecided High near is = tt
  undecided Low near is = tt
  undecided (Undecided l h) near is = rw (is.0, is.1) (record { hold = hold; near = near; differ = is.2 })

pub calculator_judged : (e : Element) (place : Place) (p dmin rf rr litres energy delta : ℕ) (lo hi : ℤ) (judged : Judged) → IsWholeDifference e rf rr delta → AtEachLitre e place p rf rr (LiesBetween lo hi) → AreNear e rf rr lo hi
    → IsJudged (calculator_verdict dmin delta litres energy) lo hi judged → IsCalculatorJudged e place p dmin rf rr litres energy judged
calculator_judged e place p dmin rf rr litres energy delta lo hi judged difference hold near is = record {
  delta = delta;
  difference = difference;
  decided = decided e place p rf rr lo hi (calculator_verdict dmin delta litres energy) hold judged is.sound;
  undecided = undecided e place p rf rr lo hi (calculator_verdict dmin delta litres energy) hold judged near is.undecided;
}

-- the energies of a litre between two cells are near
pub litre_near : (e : Element) (rf rr : ℕ) (lo hi : ℤ) (f_lo f_hi r_lo r_hi : ℕ) → IsCellSpan e rf f_lo f_hi → IsCellSpan e rr r_lo r_hi
    → (pos 15 *ℤ (hi -ℤ lo)) ≤ℤ pos (241 + 2 * ((f_hi - f_lo) + (r_hi - r_lo))) → AreNear e rf rr lo hi
litre_near e rf rr lo hi f_lo f_hi r_lo r_hi f r closer = record {
  near = omega (arith, ints, f.width, r.width);
  cells = record { f_lo = f_lo; f_hi = f_hi; r_lo = r_lo; r_hi = r_hi; flow_cell = f; return_cell = r };
  closer = closer;
}

pub pair_judged : (e : Element) (dmin tf tr rf rr f_lo f_hi r_lo r_hi : ℕ) (judged : Judged) → IsInRange e rf → IsInRange e rr → IsCellSpan e rf f_lo f_hi → IsCellSpan e rr r_lo r_hi
    → IsJudged (pair_verdict (1000 * dmin) (1000 * (tf - tr))) (pos f_lo -ℤ pos r_hi) (pos f_hi -ℤ pos r_lo) judged → IsPairJudged e dmin tf tr rf rr judged
pair_judged e dmin tf tr rf rr f_lo f_hi r_lo r_hi judged flow_in ret_in f r is = record {
  flow_in_range = flow_in;
  return_in_range = ret_in;
  cells = record { f_lo = f_lo; f_hi = f_hi; r_lo = r_lo; r_hi = r_hi; flow_cell = f; return_cell = r };
  near = omega (arith, ints, f.width, r.width);
  is = is;
}
