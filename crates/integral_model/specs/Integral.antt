-- The exact energy of the events kept, and when their energies and bounds fit it.
use Rattle.std.specs.Prelude.{◌≡◌, ℕ, ◌+◌, ◌-◌, ◌*◌, ◌≤◌, ℤ, pos, ◌+ℤ◌, ◌-ℤ◌, List, [], ◌∷◌, ◌++◌, length, sum_by, Option, None, Some}
use Rattle.std.specs.List.{AllByRecursion}
use Rattle.number_model.specs.Fraction.{Fraction, ◌*ℚ◌, whole}
use Rattle.platinum_model.specs.Sample.{IsInCell, AreCellEnds}
use Rattle.water_model.specs.Water.{sum_over}
use Rattle.heat_model.specs.Heat.{litre_energy, LiesBetween}
use Rattle.metering_model.specs.Events.{Event, Kept, placed}
use Rattle.metering_model.specs.Settings.{Settings}
use Rattle.metering_model.specs.Counting.{Counted, counted_by}
use Rattle.metering_model.specs.Records.{MeterRecord, StandsFor, counted_at, energy_in, bound_in}

-- temperatures in flow and return, in °C
pub record Temps : Type 0 where
  pub flow : Fraction
  pub ret : Fraction

-- the samples stand for these temperatures
pub record AreInCells (c : Settings) (k : Counted) (t : Temps) : Type 0 where
  pub flow : IsInCell c.flow k.flow t.flow
  pub ret : IsInCell c.ret k.ret t.ret

-- the energy in millijoules of what was counted, if these were the temperatures
abbrev pub energy_of : Settings → Counted → Temps → Fraction
energy_of c k t = whole k.litres *ℚ litre_energy c.pressure_kpa c.place t.flow t.ret

abbrev pub energy_or_none : Settings → Option Counted → Temps → Fraction
energy_or_none c None t = whole 0
energy_or_none c (Some k) t = energy_of c k t

-- A choice of temperatures for each event, by how many events stand before it.
-- It is a choice for these events where at each that counts the samples stand for the temperatures.
abbrev pub IsChoiceOf : Settings → Option Counted → Temps → Type 0
IsChoiceOf c None t = Unit {0}
IsChoiceOf c (Some k) t = AreInCells c k t

abbrev pub IsChoice : Settings → MeterRecord → (ℕ → Temps) → List Kept → Type 0
IsChoice c o choice ks = AllByRecursion (λ e. IsChoiceOf c (counted_at c o e) (choice (length e.before))) (placed ks)

-- the exact integral of the energy over the events, if these were the temperatures
abbrev pub exact_integral : Settings → MeterRecord → (ℕ → Temps) → List Kept → Fraction
exact_integral c o choice ks = sum_over (λ e. energy_or_none c (counted_at c o e) (choice (length e.before))) (placed ks)

abbrev pub litres_or_none : Option Counted → ℕ
litres_or_none None = 0
litres_or_none (Some k) = k.litres

-- the litres whose energy was counted
abbrev pub counted_litres : Settings → MeterRecord → List Kept → ℕ
counted_litres c o ks = sum_by (λ e. litres_or_none (counted_at c o e)) (placed ks)

-- the energy e differs from x by at most d
abbrev pub IsNear : (e d : ℤ) → Fraction → Type 0
IsNear e d x = LiesBetween (e -ℤ d) (e +ℤ d) x

-- the greatest bound of the error of a litre's energy, and of it the margin, in millijoules
abbrev pub max_bound_per_litre : ℕ
max_bound_per_litre = 2000

abbrev pub margin_per_litre : ℕ
margin_per_litre = 1200

-- The energy e and its bound b fit what was counted: e differs from the exact energy by at most b, whatever the
-- temperatures in the cells, and b is at most 2,000 mJ a litre.
pub record Fits (c : Settings) (k : Counted) (e : ℤ) (b : ℕ) : Type 0 where
  pub near : (t : Temps) → AreInCells c k t → IsNear e (pos b) (energy_of c k t)
  pub cap : b ≤ max_bound_per_litre * k.litres

-- They fit with margin: 1,200 mJ a litre are left in b, and b is at most what the widths of the cells ask for.
pub record FitsWithMargin (c : Settings) (k : Counted) (e : ℤ) (b : ℕ) : Type 0 where
  pub fits : Fits c k e b
  pub nearer : (t : Temps) → AreInCells c k t → IsNear e (pos b -ℤ pos (margin_per_litre * k.litres)) (energy_of c k t)
  pub flow_lo : ℕ
  pub flow_hi : ℕ
  pub return_lo : ℕ
  pub return_hi : ℕ
  pub flow_ends : AreCellEnds c.flow k.flow flow_lo flow_hi
  pub return_ends : AreCellEnds c.ret k.ret return_lo return_hi
  pub narrow : 12 * b ≤ k.litres * (15600 + (flow_hi - flow_lo) + (return_hi - return_lo))

-- fifteen times the greatest bound of a litre between two single temperatures, in millijoules: 18,000 for the margin, and 128
-- for the enclosure of its energy and the rounding of the middle
abbrev pub bound_at_points : ℕ
bound_at_points = 18128

-- They fit closely: they fit with margin, and what b has beyond the margin is, in millijoules a litre, at most a fifteenth of
-- 128 and the widths of the cells in nanodegrees. So e is as near to the exact energy, whatever the temperatures in the cells.
pub record FitsClosely (c : Settings) (k : Counted) (e : ℤ) (b : ℕ) : Type 0 where
  pub margin : FitsWithMargin c k e b
  pub closer : 15 * b ≤ k.litres * (bound_at_points + (margin.flow_hi - margin.flow_lo) + (margin.return_hi - margin.return_lo))

-- where an event counts energy, e and b are by this rule; where it counts none, both are 0
abbrev pub AddsBy : (Counted → ℤ → ℕ → Type 0) → Option Counted → ℤ → ℕ → Type 0
AddsBy Rule None e b = (e ≡ pos 0) × (b ≡ 0)
AddsBy Rule (Some k) e b = Rule k e b

-- the events fit
abbrev pub AllFit : Settings → MeterRecord → List Kept → Type 0
AllFit c o ks = AllByRecursion (λ e. AddsBy (Fits c) (counted_at c o e) e.kept.energy_mj e.kept.bound_mj) (placed ks)

-- the events fit with margin
abbrev pub AllFitWithMargin : Settings → MeterRecord → List Kept → Type 0
AllFitWithMargin c o ks = AllByRecursion (λ e. AddsBy (FitsWithMargin c) (counted_at c o e) e.kept.energy_mj e.kept.bound_mj) (placed ks)

-- the events fit closely
abbrev pub AllFitClosely : Settings → MeterRecord → List Kept → Type 0
AllFitClosely c o ks = AllByRecursion (λ e. AddsBy (FitsClosely c) (counted_at c o e) e.kept.energy_mj e.kept.bound_mj) (placed ks)

-- the energy of the events differs from the exact integral by at most their bound, which is at most 2,000 mJ a litre
pub record IsBounded (c : Settings) (o : MeterRecord) (choice : ℕ → Temps) (ks : List Kept) : Type 0 where
  pub near : IsNear (energy_in ks) (pos (bound_in ks)) (exact_integral c o choice ks)
  pub cap : bound_in ks ≤ max_bound_per_litre * counted_litres c o ks

-- The record takes one more event: what it adds fits closely, at the samples in force, and where the record stood for
-- some events, it then stands for these and the new one.
pub record TakesEvent (c : Settings) (old : MeterRecord) (event : Event) (new : MeterRecord) : Type 0 where
  pub energy_mj : ℤ
  pub bound_mj : ℕ
  pub fits : AddsBy (FitsClosely c) (counted_by c old.samples event) energy_mj bound_mj
  pub stands : (o : MeterRecord) (ks : List Kept) → StandsFor c o ks old
      → StandsFor c o (ks ++ record { event = event; energy_mj = energy_mj; bound_mj = bound_mj } ∷ []) new
