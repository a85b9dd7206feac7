-- A judgement by the verdicts at the two ends.
use Rattle.std.proofs.Common.{◌≡◌, ◌≢◌, refl, sym, ap, ◌∙◌, ℤ}
use Rattle.number_model.specs.Fraction.{Fraction}
use Rattle.water_model.specs.Decimal.{integer}
use Rattle.heat_model.specs.Heat.{LiesBetween}
use Rattle.bench_model.specs.Verdicts.{Verdict, Pass, High, Low}
use Rattle.bench_limits.specs.declared.judged.Judged.{Judged}
use Rattle.bench_limits.specs.declared.judged.Judged.TheVariants.{Undecided}
use Rattle.bench_limits.specs.Judged.{judged_verdict, judged_ends, IfDecided, IfUndecided, IsJudged}

IfDecided-verdict : (v : Verdict) (P : Verdict → Type 0) → P v → IfDecided (judged_verdict v) P
IfDecided-verdict Pass P p = p
IfDecided-verdict High P p = p
IfDecided-verdict Low P p = p

IfUndecided-verdict : (v : Verdict) (P : ℤ → ℤ → Type 0) → IfUndecided (judged_verdict v) P
IfUndecided-verdict Pass P = tt
IfUndecided-verdict High P = tt
IfUndecided-verdict Low P = tt

IsJudged-verdict : (V : Fraction → Verdict) (lo hi : ℤ) (v : Verdict) → V (integer lo) ≡ v → V (integer hi) ≡ v
    → ((x : Fraction) → LiesBetween lo hi x → V x ≡ v) → IsJudged V lo hi (judged_verdict v)
IsJudged-verdict V lo hi v at_lo at_hi between = record {
  sound = IfDecided-verdict v _ between;
  agreed = λ same. ap judged_verdict (sym at_lo);
  apart = λ other. absurd (other (at_lo ∙ sym at_hi));
  undecided = IfUndecided-verdict v _;
}

IsJudged-ends : (V : Fraction → Verdict) (lo hi : ℤ) → V (integer lo) ≢ V (integer hi) → IsJudged V lo hi (Undecided lo hi)
IsJudged-ends V lo hi other = record {
  sound = tt;
  agreed = λ same. absurd (other same);
  apart = λ _. refl;
  undecided = (refl, refl, other);
}

IsJudged-by : (V : Fraction → Verdict) (lo hi : ℤ) (v w : Verdict) → V (integer lo) ≡ v → V (integer hi) ≡ w
    → ((x : Fraction) → LiesBetween lo hi x → v ≡ w → V x ≡ v) → IsJudged V lo hi (judged_ends lo hi v w)
IsJudged-by V lo hi Pass Pass at_lo at_hi steady = IsJudged-verdict V lo hi Pass at_lo at_hi (λ x b. steady x b refl)
IsJudged-by V lo hi High High at_lo at_hi steady = IsJudged-verdict V lo hi High at_lo at_hi (λ x b. steady x b refl)
IsJudged-by V lo hi Low Low at_lo at_hi steady = IsJudged-verdict V lo hi Low at_lo at_hi (λ x b. steady x b refl)
IsJudged-by V lo hi Pass High at_lo at_hi steady = IsJudged-ends V lo hi (λ same. cc)
IsJudged-by V lo hi Pass Low at_lo at_hi steady = IsJudged-ends V lo hi (λ same. cc)
IsJudged-by V lo hi High Pass at_lo at_hi steady = IsJudged-ends V lo hi (λ same. cc)
IsJudged-by V lo hi High Low at_lo at_hi steady = IsJudged-ends V lo hi (λ same. cc)
IsJudged-by V lo hi Low Pass at_lo at_hi steady = IsJudged-ends V lo hi (λ same. cc)
IsJudged-by V lo hi Low High at_lo at_hi steady = IsJudged-ends V lo hi (λ same. cc)

-- where a verdict that is the same at both ends is so between them
pub IsJudged-judged_ends : (V : Fraction → Verdict) (lo hi : ℤ) (v w : Verdict) (judged : Judged) → v ≡ V (integer lo) → w ≡ V (integer hi)
    → ((x : Fraction) → LiesBetween lo hi x → V (integer lo) ≡ V (integer hi) → V x ≡ V (integer lo))
    → judged ≡ judged_ends lo hi v w → IsJudged V lo hi judged
IsJudged-judged_ends V lo hi v w judged at_lo at_hi steady is =
    rw is (IsJudged-by V lo hi v w (sym at_lo) (sym at_hi) (λ x b same. steady x b (sym at_lo ∙ same ∙ at_hi) ∙ sym at_lo))
