-- The meter of a run without a memory.
use Rattle.metering_model.specs.Settings.{Settings}
use Rattle.metering_model.specs.Records.{MeterRecord, opening_record}
use Rattle.config_model.specs.Configuration.{Configuration}
use Rattle.config_model.specs.Standard.{standard}
use Rattle.answer_model.specs.Faults.{Dry}
use Rattle.pairing_model.specs.Settings.{settings_for}
use Rattle.pairing_model.specs.Setup.{Setup}
use Rattle.run_engine.specs.declared.Ended.{Ended}
use Rattle.run_engine.specs.declared.Ended.TheVariants.{Done, Line, Memory, Read, Write, Unformatted, Foreign}

abbrev pub dry_configuration : Configuration
dry_configuration = standard

abbrev pub dry_setup : Setup
dry_setup = record { command = Dry; configuration = dry_configuration }

abbrev pub dry_settings : Settings
dry_settings = settings_for dry_configuration

-- a record that has counted nothing, on 2024-01-15
abbrev pub dry_opening : MeterRecord
dry_opening = opening_record 8780

-- no answer that speaks of a memory
abbrev pub EndsWithoutMemory : Ended → Type 0
EndsWithoutMemory Done = Unit {0}
EndsWithoutMemory (Line n kind) = Unit {0}
EndsWithoutMemory Read = Unit {0}
EndsWithoutMemory Write = Unit {0}
EndsWithoutMemory Memory = ⊥
EndsWithoutMemory (Unformatted byte) = ⊥
EndsWithoutMemory (Foreign at) = ⊥
