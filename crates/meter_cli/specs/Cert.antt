-- The output of `cert`.
use Rattle.std.specs.Prelude.{◌≡◌, ℕ, ◌+◌, ◌*◌, ◌^◌, ◌<◌, ℤ, pos, ◌-ℤ◌, ◌≤ℤ◌, List, ◌++◌, codes}
use Rattle.std.specs.Fmt.{decimal, signed_decimal}
use Rattle.slope_model.specs.Slope.{SlopesLie}
use Rattle.trace_model.specs.Trace.{Trace, Put, ◌▷◌}
use Rattle.meter_board.specs.Puts.{PutsFront}
use Rattle.meter_cli.specs.Puts.{PutsLine}
use Rattle.meter_cli.specs.declared.status.Status.{Status}
use Rattle.meter_cli.specs.declared.status.Status.TheVariants.{Write, NotRising}

-- `slope I LO HI`
abbrev pub slope_text : ℕ → ℤ → ℤ → List ℕ
slope_text i lo hi = codes "slope " ++ decimal i ++ codes " " ++ signed_decimal lo ++ codes " " ++ signed_decimal hi ++ codes "\n"

-- the line of segment i at p kPa: 10^9 times each of its slopes lies from lo to hi, which are at most 4 * 10^9 apart
pub record IsSlopeText (p i : ℕ) (lo : ℤ) (text : List ℕ) : Type 0 where
  pub hi : ℤ
  pub is : text ≡ slope_text i lo hi
  pub slopes : SlopesLie p i lo hi
  pub width : (hi -ℤ lo) ≤ℤ pos (4 * 10 ^ 9)

-- What `cert` leaves from segment i on: the lines of the segments in order, up to the first that fails to go out or whose
-- LO is at or below 0, and `yes` after the last.
pub data CertFrom (p : ℕ) : ℕ → Trace → Trace → Status → Type 0 where
  last : {old new : Trace} {status : Status} → PutsLine (codes "yes\n") old new status → CertFrom p 180 old new status
  failed : {i : ℕ} {lo : ℤ} {text : List ℕ} {old new : Trace} → i < 180 → IsSlopeText p i lo text → PutsFront old text new → CertFrom p i old new Write
  stopped : {i : ℕ} {lo : ℤ} {text : List ℕ} {old : Trace} → i < 180 → IsSlopeText p i lo text → lo ≤ℤ pos 0 → CertFrom p i old (old ▷ Put text) (NotRising i)
  went_on : {i : ℕ} {lo : ℤ} {text : List ℕ} {old new : Trace} {status : Status} → i < 180 → IsSlopeText p i lo text → pos 1 ≤ℤ lo
      → CertFrom p (i + 1) (old ▷ Put text) new status → CertFrom p i old new status

-- what `cert` leaves at p kPa
abbrev pub CertLeaves : ℕ → Trace → Trace → Status → Type 0
CertLeaves p old new status = CertFrom p 0 old new status
