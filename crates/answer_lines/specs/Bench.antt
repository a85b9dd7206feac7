-- The output of `bench`.
use Rattle.std.specs.Prelude.{◌≡◌, ◌≢◌, ◌⊎◌, ℕ, ◌+◌, ◌-◌, ◌*◌, ◌≤◌, ℤ, pos, ◌+ℤ◌, ◌-ℤ◌, ◌*ℤ◌, ◌≤ℤ◌, List, ◌++◌, codes}
use Rattle.std.specs.Fmt.{signed_decimal}
use Rattle.number_model.specs.Fraction.{Fraction}
use Rattle.water_model.specs.Decimal.{integer}
use Rattle.platinum_model.specs.Element.{Element}
use Rattle.platinum_model.specs.Sample.{IsInRange, IsInCell, IsCellSpan}
use Rattle.platinum_model.specs.Pair.{AreWholeTemps, IsSmallPair}
use Rattle.parts_model.specs.Place as parts
use Rattle.heat_model.specs.Heat.{LiesBetween, litre_energy}
use Rattle.bench_model.specs.Verdicts as model
use Rattle.bench_model.specs.Verdicts.{calculator_verdict, pair_verdict, flow_verdict}
use Rattle.bench_limits.specs.Judged.{IfDecided, IfUndecided, IsJudged, judged_verdict}
use Rattle.bench_limits.specs.declared.judged.Judged.{Judged}
use Rattle.bench_limits.specs.declared.judged.Judged.TheVariants.{Pass, High, Low, Undecided}
use Rattle.meter_parts.specs.Views.{place_view}
use Rattle.answer_lines.specs.Temp.{element_of}
use Rattle.command_words.specs.declared.job.CalculatorTest.{CalculatorTest}
use Rattle.command_words.specs.declared.job.PairTest.{PairTest}
use Rattle.command_words.specs.declared.job.FlowTest.{FlowTest}

-- `pass`, `high`, `low` or `undecided LO HI`
abbrev pub judged_text : Judged → List ℕ
judged_text Pass = codes "pass"
judged_text High = codes "high"
judged_text Low = codes "low"
judged_text (Undecided lo hi) = codes "undecided " ++ signed_decimal lo ++ codes " " ++ signed_decimal hi

-- one of the samples is out of range, or both are
abbrev pub IsOut : Element → (rf rr : ℕ) → Type 0
IsOut e rf rr = (IsInRange e rf → ⊥) ⊎ (IsInRange e rr → ⊥)

-- this holds of the energy in millijoules that a litre gives off, whatever the temperatures in the cells of both samples
abbrev pub AtEachLitre : Element → parts.Place → (p rf rr : ℕ) → (Fraction → Type 0) → Type 0
AtEachLitre e place p rf rr P = (tf tr : Fraction) → IsInCell e rf tf → IsInCell e rr tr → P (litre_energy p place tf tr)

-- the cells of both samples, in nanodegrees
pub record HaveCells (e : Element) (rf rr : ℕ) : Type 0 where
  pub f_lo : ℕ
  pub f_hi : ℕ
  pub r_lo : ℕ
  pub r_hi : ℕ
  pub flow_cell : IsCellSpan e rf f_lo f_hi
  pub return_cell : IsCellSpan e rr r_lo r_hi

-- The ends of the energy of a litre are at most 1,200 mJ apart, and, in millijoules, at most a fifteenth of 241 and twice the
-- widths of both cells in nanodegrees.
pub record AreNear (e : Element) (rf rr : ℕ) (lo hi : ℤ) : Type 0 where
  pub near : hi ≤ℤ (lo +ℤ pos 1200)
  pub cells : HaveCells e rf rr
  pub closer : (pos 15 *ℤ (hi -ℤ lo)) ≤ℤ pos (241 + 2 * ((cells.f_hi - cells.f_lo) + (cells.r_hi - cells.r_lo)))

-- the ends hold that energy, are near, and have different verdicts
pub record AreLitreEnds (e : Element) (place : parts.Place) (p rf rr : ℕ) (verdict : Fraction → model.Verdict) (lo hi : ℤ) : Type 0 where
  pub hold : AtEachLitre e place p rf rr (LiesBetween lo hi)
  pub near : AreNear e rf rr lo hi
  pub differ : verdict (integer lo) ≢ verdict (integer hi)

-- the pair of samples counts, and so many microdegrees are the difference of its whole temperatures
pub record IsWholeDifference (e : Element) (rf rr delta : ℕ) : Type 0 where
  pub flow_udeg : ℕ
  pub return_udeg : ℕ
  pub temps : AreWholeTemps e e rf rr flow_udeg return_udeg
  pub apart : return_udeg + 10000 ≤ flow_udeg
  pub is : delta ≡ flow_udeg - return_udeg

-- The pair of samples counts. At the difference of its whole temperatures, the verdict is the calculator's at each energy
-- that a litre may have given off, or else there are ends of that energy with different verdicts.
pub record IsCalculatorJudged (e : Element) (place : parts.Place) (p dmin rf rr litres energy : ℕ) (judged : Judged) : Type 0 where
  pub delta : ℕ
  pub difference : IsWholeDifference e rf rr delta
  pub decided : IfDecided judged (λ v. AtEachLitre e place p rf rr (λ q. calculator_verdict dmin delta litres energy q ≡ v))
  pub undecided : IfUndecided judged (AreLitreEnds e place p rf rr (calculator_verdict dmin delta litres energy))

-- The pair of samples is in range. The verdict is that of the sensor pair at each difference from the lower end of the flow's
-- cell less the upper one of the return's to the upper less the lower, in nanodegrees, or else these ends, which are then at
-- most 5,600 apart, exactly where their verdicts differ.
pub record IsPairJudged (e : Element) (dmin tf tr rf rr : ℕ) (judged : Judged) : Type 0 where
  pub flow_in_range : IsInRange e rf
  pub return_in_range : IsInRange e rr
  pub cells : HaveCells e rf rr
  pub near : (pos cells.f_hi -ℤ pos cells.r_lo) ≤ℤ ((pos cells.f_lo -ℤ pos cells.r_hi) +ℤ pos 5600)
  pub is : IsJudged (pair_verdict (1000 * dmin) (1000 * (tf - tr))) (pos cells.f_lo -ℤ pos cells.r_hi) (pos cells.f_hi -ℤ pos cells.r_lo) judged

-- the line of `bench calc`
abbrev pub IsCalcText : CalculatorTest → List ℕ → Type 0
IsCalcText test text =
    let e = element_of test.sensor in
    (IsOut e test.rf test.rr × (text ≡ codes "out\n")) ⊎ (IsSmallPair e e test.rf test.rr × (text ≡ codes "small\n")) ⊎ ((judged : Judged) × IsCalculatorJudged e (place_view test.place) test.p_kpa test.dmin_udeg test.rf test.rr test.litres test.energy_mj judged × (text ≡ judged_text judged ++ codes "\n"))

-- the line of `bench pair`
abbrev pub IsPairText : PairTest → List ℕ → Type 0
IsPairText test text =
    let e = element_of test.sensor in
    (IsOut e test.rf test.rr × (text ≡ codes "out\n")) ⊎ ((judged : Judged) × IsPairJudged e test.dmin_udeg test.tf_udeg test.tr_udeg test.rf test.rr judged × (text ≡ judged_text judged ++ codes "\n"))

-- the line of `bench flow`
abbrev pub flow_text : FlowTest → List ℕ
flow_text test = judged_text (judged_verdict (flow_verdict test.class test.qp test.q test.reference test.indicated)) ++ codes "\n"
