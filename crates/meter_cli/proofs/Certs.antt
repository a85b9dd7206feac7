-- What a certificate says, and what it leaves.
use Rattle.std.proofs.Common.{◌≡◌, ◌⊎◌, inl, inr, ℕ, ◌+◌, ◌*◌, ◌^◌, ◌<◌, ◌≤◌, List, [], ◌∷◌, codes, arith, refl, sym, subst, ℤ, pos, ◌≤ℤ◌}
use lib.IntN.{◌-ℤ◌}
use Rattle.std.proofs.lemmas.Bool.{cases_eq}
use Rattle.slope_model.specs.Slope.{SlopesLie, EachSegmentRises}
use Rattle.trace_model.specs.Trace.{Trace, Put, ◌▷◌, base_of}
use Rattle.trace_model.specs.Output.{PutsAlone}
use Rattle.meter_board.specs.Puts.{PutsFront}
use Rattle.meter_cli.specs.Cert.{slope_text, IsSlopeText, CertFrom, last, failed, stopped, went_on}
use Rattle.meter_cli.specs.Ends.{EndsCert}
use Rattle.meter_cli.specs.Puts.{PutsLine}
use Rattle.meter_cli.specs.declared.status.Status.{Status}
use Rattle.meter_cli.specs.declared.status.Status.TheVariants.{Done, Write, NotRising}
use Rattle.meter_cli.proofs.Lines.{alone_front, alone_lines, front_base, lines_base}

-- the segments below n rise
abbrev pub RisesBelow : ℕ → ℕ → Type 0
RisesBelow p n = (i : ℕ) → i < n → (lo : ℤ) × (hi : ℤ) × (pos 1 ≤ℤ lo) × SlopesLie p i lo hi

pub none_below : (p : ℕ) → RisesBelow p 0
none_below p i h = absurd (none h)
  where
    none : {i : ℕ} → i < 0 → ⊥
    none h = omega arith

pub one_further : (p n : ℕ) (lo hi : ℤ) → pos 1 ≤ℤ lo → SlopesLie p n lo hi → RisesBelow p n → RisesBelow p (n + 1)
one_further p n lo hi above slopes below i h = by_place (cases_eq i n)
  where
    by_place : (i ≡ n) ⊎ (i ≡ n → ⊥) → (lo : ℤ) × (hi : ℤ) × (pos 1 ≤ℤ lo) × SlopesLie p i lo hi
    by_place (inl same) = (lo, hi, above, subst (λ k. SlopesLie p k lo hi) (sym same) slopes)
    by_place (inr differ) = below i (omega arith)

-- nothing but puts
pub cert_alone : (p i : ℕ) (old new : Trace) (status : Status) → CertFrom p i old new status → PutsAlone old → PutsAlone new
cert_alone p i old new status (last puts) alone = alone_lines (codes "yes\n" ∷ []) old new status puts alone
cert_alone p i old new status (failed {text = text} few is front) alone = alone_front old new text front alone
cert_alone p i old new status (stopped few is low) alone = alone
cert_alone p i old new status (went_on {text = text} few is above rest) alone = cert_alone p (i + 1) (old ▷ Put text) new status rest alone

pub cert_base : (p i : ℕ) (old new : Trace) (status : Status) → CertFrom p i old new status → base_of new ≡ base_of old
cert_base p i old new status (last puts) = lines_base (codes "yes\n" ∷ []) old new status puts
cert_base p i old new status (failed {text = text} few is front) = front_base old new text front
cert_base p i old new status (stopped few is low) = refl
cert_base p i old new status (went_on {text = text} few is above rest) = cert_base p (i + 1) (old ▷ Put text) new status rest

-- ---- one segment
module _ (p i : ℕ) (lo hi : ℤ) (text : List ℕ) (few : i < 180) (is : text ≡ slope_text i lo hi) (slopes : SlopesLie p i lo hi) (width : (hi -ℤ lo) ≤ℤ pos (4 * 10 ^ 9)) where
  says : IsSlopeText p i lo text
  says = record { hi = hi; is = is; slopes = slopes; width = width }

  pub segment_went : (t t' new : Trace) (status : Status) → pos 1 ≤ℤ lo → t' ≡ t ▷ Put text → CertFrom p (i + 1) t' new status → CertFrom p i t new status
  segment_went t t' new status above gives rest = went_on few says above (subst (λ s. CertFrom p (i + 1) s new status) gives rest)

  pub segment_stopped : (t t' : Trace) → lo ≤ℤ pos 0 → t' ≡ t ▷ Put text → CertFrom p i t t' (NotRising i)
  segment_stopped t t' low gives = subst (λ s. CertFrom p i t s (NotRising i)) (sym gives) (stopped few says low)

  pub segment_failed : (t t' : Trace) → PutsFront t text t' → CertFrom p i t t' Write
  segment_failed t t' front = failed few says front

pub segments_ended : (p i : ℕ) (t new : Trace) (status : Status) → i ≡ 180 → PutsLine (codes "yes\n") t new status → CertFrom p i t new status
segments_ended p i t new status e puts = subst (λ k. CertFrom p k t new status) (sym e) (last puts)

pub all_rise : (p i : ℕ) → 180 ≤ i → RisesBelow p i → EachSegmentRises p
all_rise p i past below k few = below k (omega arith)

pub cert_ends : {R : Type 0} (status : Status) → EndsCert status → (status ≡ Write → R) → (status ≡ Done) ⊎ ((segment : ℕ) × (status ≡ NotRising segment)) ⊎ R
cert_ends status (inl done) write = inl done
cert_ends status (inr (inl fault)) write = inr (inr (write fault))
cert_ends status (inr (inr place)) write = inr (inl place)
