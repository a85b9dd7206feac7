-- What a meter answers to the messages that its optical head hears.
use Rattle.std.specs.Prelude.{◌≡◌, ◌⊎◌, List, ℕ, Option, None, Some, IsSomeAnd}
use Rattle.metering_model.specs.Records.{MeterRecord}
use Rattle.config_model.specs.Configuration.{Configuration}
use Rattle.optical_model.specs.Requests.{IsRequest, IsDataSelect}
use Rattle.optical_model.specs.Messages.{identification, IsDataMessage}

-- the meter is selected: the last message since the start, where there is one, is a request to it
abbrev pub IsSelected : Configuration → (last : Option (List ℕ)) → Type 0
IsSelected c last = IsSomeAnd last (IsRequest c)

-- the data message is asked for, where `before` is the message directly before this one since the start
abbrev pub AsksData : Configuration → (before : Option (List ℕ)) → (message : List ℕ) → Type 0
AsksData c before message = IsSelected c before × IsDataSelect message

-- the reply to a message: the identification, the data message of the record in force, or none
abbrev pub Replies : Configuration → MeterRecord → (before : Option (List ℕ)) → (message : List ℕ) → (reply : Option (List ℕ)) → Type 0
Replies c r before message reply =
    (IsRequest c message × (reply ≡ Some (identification c)))
    ⊎ (AsksData c before message × (text : List ℕ) × IsDataMessage c r text × (reply ≡ Some text))
    ⊎ ((IsRequest c message → ⊥) × (AsksData c before message → ⊥) × (reply ≡ None))
