-- The statuses with which a command may end.
use Rattle.std.specs.Prelude.{◌≡◌, ◌≢◌, ◌⊎◌, ℕ}
use Rattle.meter_config.specs.declared.fault.ConfigFault.{ConfigFault}
use Rattle.meter_config.specs.declared.fault.ConfigFault.TheVariants as faults
use Rattle.run_engine.specs.declared.Ended.{Ended}
use Rattle.run_engine.specs.Dry.{EndsWithoutMemory}
use Rattle.meter_cli.specs.Status.{status_of}
use Rattle.command_words.specs.declared.job.Job.{Job}
use Rattle.command_words.specs.declared.job.Job.TheVariants.{Init, Run, Dry, Show, Slots, Ask, Cert, ReadMbus, ReadOptical}
use Rattle.meter_cli.specs.declared.status.Status.{Status}
use Rattle.meter_cli.specs.declared.status.Status.TheVariants.{Done, Config, Memory, Read, Write, Unformatted, Foreign, Formatted, OutOfMemory, Cut, NotRising, BadReadout}

-- the text was refused or not read, and nothing was done
abbrev pub EndsText : Status → Type 0
EndsText status = ((fault : ConfigFault) × (fault ≢ faults.OutOfMemory) × (status ≡ Config fault)) ⊎ (status ≡ Read) ⊎ (status ≡ OutOfMemory)

-- the memory was asked to hold a configuration
abbrev pub EndsFormat : Status → Type 0
EndsFormat status = (status ≡ Done) ⊎ (status ≡ Memory) ⊎ (status ≡ Write) ⊎ (status ≡ Formatted) ⊎ (status ≡ Cut)

-- the memory was asked what it holds
abbrev pub EndsShow : Status → Type 0
EndsShow status = (status ≡ Done) ⊎ (status ≡ Memory) ⊎ (status ≡ Write) ⊎ ((byte : ℕ) × (status ≡ Unformatted byte)) ⊎ ((at : ℕ) × (status ≡ Foreign at))

-- one line was put, or not
abbrev pub EndsLine : Status → Type 0
EndsLine status = (status ≡ Done) ⊎ (status ≡ Write)

-- a certificate was put, or it stopped at a segment, or the output failed
abbrev pub EndsCert : Status → Type 0
EndsCert status = (status ≡ Done) ⊎ (status ≡ Write) ⊎ ((segment : ℕ) × (status ≡ NotRising segment))

-- the bytes were not read, or are no such readout, and nothing was put
abbrev pub EndsUnread : Status → Type 0
EndsUnread status = (status ≡ Read) ⊎ ((at : ℕ) × (status ≡ BadReadout at))

-- a readout was read, or not
abbrev pub EndsRead : Status → Type 0
EndsRead status = EndsUnread status ⊎ EndsLine status

abbrev pub EndsBy : Job → Status → Type 0
EndsBy Init status = EndsText status ⊎ EndsFormat status
EndsBy Run status = (ended : Ended) × (status ≡ status_of ended)
EndsBy Dry status = (ended : Ended) × EndsWithoutMemory ended × (status ≡ status_of ended)
EndsBy Show status = EndsShow status
EndsBy Slots status = EndsShow status
EndsBy (Ask query) status = EndsLine status
EndsBy (Cert p) status = EndsCert status
EndsBy ReadMbus status = EndsRead status
EndsBy ReadOptical status = EndsRead status
