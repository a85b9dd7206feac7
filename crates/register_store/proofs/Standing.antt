-- A memory that stands for a record, from one call to the next.
use Rattle.std.proofs.Common.{◌≡◌, ℕ, List, sym, subst, ◌∙◌}
use Rattle.config_model.specs.Configuration.{Configuration}
use Rattle.metering_model.specs.Records.{MeterRecord}
use Rattle.memory_model.specs.Stored.{Side, A, Holds, stored}
use Rattle.trace_model.specs.Trace.{Trace}
use Rattle.trace_model.specs.Images.{IsImage}
use Rattle.trace_model.specs.Moments.{Leaves}
use Rattle.register_store.specs.Commits.{StandsFor, StandsOn}
use Rattle.register_store.specs.Formatted.{HoldsInA}

-- after a format
pub formatted_stands : {c : Configuration} {r : MeterRecord} {t : Trace} {m : List ℕ} → Leaves (HoldsInA c r) t → IsImage t m → StandsOn A m
formatted_stands {c} {r} {t} {m} leaves possible = record { config = c; held = r; is = leaves m possible }

-- where it stands for the same as before
pub same_stands : {side : Side} {m n : List ℕ} → StandsOn side m → StandsFor (stored m) n → StandsOn side n
same_stands s same = record { config = s.config; held = s.held; is = same ∙ s.is }

-- where it stands for this record
pub held_stands : {c : Configuration} {r : MeterRecord} {side side' : Side} {m : List ℕ} → StandsFor (Holds c r side) m → side' ≡ side → StandsOn side' m
held_stands {c} {r} {side} {side'} {m} is turned = subst (λ (s : Side). StandsOn s m) (sym turned) (record { config = c; held = r; is = is })

-- where it reads the same
pub read_stands : {side : Side} {m n : List ℕ} → StandsOn side m → n ≡ m → StandsOn side n
read_stands {side} {m} s is = subst (StandsOn side) (sym is) s
