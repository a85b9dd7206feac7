-- A meter that takes a script.
use Rattle.metering_model.specs.Settings.{Settings}
use Rattle.config_model.specs.Configuration.{Configuration}
use Rattle.answer_model.specs.Faults.{Command, Run}
use Rattle.pairing_model.specs.Settings.{settings_for}

-- the command that it takes it by, and its configuration
pub record Setup : Type 0 where
  pub command : Command
  pub configuration : Configuration

-- a run over a memory that holds this configuration
abbrev pub on_memory : Configuration → Setup
on_memory c = record { command = Run; configuration = c }

abbrev pub settings_in : Setup → Settings
settings_in s = settings_for s.configuration
