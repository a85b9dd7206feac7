-- What it means to judge a value that lies between two ends.
use Rattle.std.specs.Prelude.{◌≡◌, ◌≢◌, ℤ}
use Rattle.number_model.specs.Fraction.{Fraction}
use Rattle.water_model.specs.Decimal.{integer}
use Rattle.heat_model.specs.Heat.{LiesBetween}
use Rattle.bench_model.specs.Verdicts as model
use Rattle.bench_limits.specs.declared.judged.Judged.{Judged}
use Rattle.bench_limits.specs.declared.judged.Judged.TheVariants.{Pass, High, Low, Undecided}

-- a verdict as a judgement
abbrev pub judged_verdict : model.Verdict → Judged
judged_verdict model.Pass = Pass
judged_verdict model.High = High
judged_verdict model.Low = Low

-- the verdict at both ends where it is the same, else the ends
abbrev pub judged_ends : (lo hi : ℤ) (at_lo at_hi : model.Verdict) → Judged
judged_ends lo hi model.Pass model.Pass = Pass
judged_ends lo hi model.Pass model.High = Undecided lo hi
judged_ends lo hi model.Pass model.Low = Undecided lo hi
judged_ends lo hi model.High model.Pass = Undecided lo hi
judged_ends lo hi model.High model.High = High
judged_ends lo hi model.High model.Low = Undecided lo hi
judged_ends lo hi model.Low model.Pass = Undecided lo hi
judged_ends lo hi model.Low model.High = Undecided lo hi
judged_ends lo hi model.Low model.Low = Low

-- where there is a verdict, P holds of it
abbrev pub IfDecided : Judged → (model.Verdict → Type 0) → Type 0
IfDecided Pass P = P model.Pass
IfDecided High P = P model.High
IfDecided Low P = P model.Low
IfDecided (Undecided lo hi) P = Unit {0}

-- where there is no verdict, P holds of the ends
abbrev pub IfUndecided : Judged → (ℤ → ℤ → Type 0) → Type 0
IfUndecided Pass P = Unit {0}
IfUndecided High P = Unit {0}
IfUndecided Low P = Unit {0}
IfUndecided (Undecided lo hi) P = P lo hi

-- The judgement of a value between two ends by its verdict: that verdict, at every fraction between the ends, or the ends,
-- exactly where the verdicts there differ.
pub record IsJudged (verdict : Fraction → model.Verdict) (lo hi : ℤ) (judged : Judged) : Type 0 where
  pub sound : IfDecided judged (λ v. (x : Fraction) → LiesBetween lo hi x → verdict x ≡ v)
  pub agreed : verdict (integer lo) ≡ verdict (integer hi) → judged ≡ judged_verdict (verdict (integer lo))
  pub apart : verdict (integer lo) ≢ verdict (integer hi) → judged ≡ Undecided lo hi
  pub undecided : IfUndecided judged (λ l h. (l ≡ lo) × (h ≡ hi) × (verdict (integer lo) ≢ verdict (integer hi)))
