-- How a run over the lines of a script ends.
use Rattle.std.specs.Prelude.{◌≡◌, ℕ, ◌+◌, ◌⊎◌, true, List, [], ◌++◌}
use Rattle.answer_model.specs.Faults.{is_open}
use Rattle.event_script.specs.declared.LineFault.{LineFault}
use Rattle.event_script.specs.Next.{RefusesNext}
use Rattle.run_engine.specs.declared.Ended.{Ended}
use Rattle.run_engine.specs.declared.Ended.TheVariants.{Done, Line, Read}
use Rattle.run_engine.specs.declared.stop.Stop.{Stop}
use Rattle.run_engine.specs.Stops.{ended_by}

-- what of a line was delivered before a read failed, which leaves it open what the line says, and what the source has left
pub record IsOpen (n : ℕ) (rest left : List ℕ) : Type 0 where
  pub front : List ℕ
  pub bytes : rest ≡ front ++ left
  pub undecided : is_open n front ≡ true

-- how the reading of the next line ended, where these bytes stand behind n lines, and what the source has left
abbrev pub StopsReading : ℕ → (rest left : List ℕ) → Ended → Type 0
StopsReading n rest left ended = ((ended ≡ Done) × (rest ≡ []) × (left ≡ []))
    ⊎ ((kind : LineFault) × (ended ≡ Line (n + 1) kind) × RefusesNext n rest kind)
    ⊎ ((ended ≡ Read) × IsOpen n rest left)

-- the answer to a line ended the run
pub record EndsAnswering (ended : Ended) : Type 0 where
  pub n : ℕ
  pub stop : Stop
  pub is : ended ≡ ended_by n stop

-- the answer to a line ended the run, or the reading of a line for which all was ready
abbrev pub IsOver : (ready : (rest : List ℕ) → ℕ → Type 0) → (leaves : Type 0) → (left : List ℕ) → Ended → Type 0
IsOver ready leaves left ended = (EndsAnswering ended × leaves) ⊎ ((rest : List ℕ) × (n : ℕ) × ready rest n × StopsReading n rest left ended)
