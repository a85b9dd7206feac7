-- What a refusal says, in the words of the definitions.
use Rattle.std.specs.Prelude.{◌≡◌, Result, Ok, Err, MatchResult}
use Rattle.accept_model.specs.Accepted.{Fault}
use Rattle.accept_model.specs.Accepted as model
use Rattle.meter_config.specs.declared.fault.ConfigFault.{ConfigFault}
use Rattle.meter_config.specs.declared.fault.ConfigFault.TheVariants.{TooLong, Text, NotObject, Missing, Wrong, Unknown, OutOfMemory}

-- what the definitions give is a refusal with this fault; want of memory isn't one of theirs
abbrev pub Refuses : {B : Type 0} → ConfigFault → Result B Fault → Type 0
Refuses TooLong said = said ≡ Err model.TooLong
Refuses Text said = said ≡ Err model.Text
Refuses NotObject said = said ≡ Err model.NotObject
Refuses (Missing key) said = said ≡ Err (model.Missing key)
Refuses (Wrong key) said = said ≡ Err (model.Wrong key)
Refuses (Unknown place) said = said ≡ Err (model.Unknown place)
Refuses OutOfMemory said = ⊥

-- the result is what the definitions give
abbrev pub Answers : {A B : Type 0} → (A → B) → Result A ConfigFault → Result B Fault → Type 0
Answers view result said = MatchResult result (λ x. said ≡ Ok (view x)) (λ e. Refuses e said)
