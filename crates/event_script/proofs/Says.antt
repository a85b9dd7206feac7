-- A line that says something is refused for what it says or not at all.
use Rattle.std.proofs.Common.{◌≡◌, ℕ, false, nat_le, nat_lt, List, length, Ok, ap}
use Rattle.std.proofs.lemmas.Bool.{lt-leb, le-ltb}
use Rattle.metering_model.specs.Records.{MeterRecord}
use Rattle.script_model.specs.Grammar as grammar
use Rattle.script_model.specs.Grammar.{line_of}
use Rattle.answer_model.specs.Faults.{Command, fault_of, said_fault}
use Rattle.event_script.specs.Next.{SaysAt}

pub decides : {n : ℕ} {line : List ℕ} {said : grammar.Line} → SaysAt n line said → (command : Command) (r : MeterRecord) → fault_of command r n line ≡ said_fault command r (Ok said)
decides {n} {line} says command r =
    let few : nat_le 1000000 n ≡ false = lt-leb _ _ says.few in
    let short : nat_lt 120 (length line) ≡ false = le-ltb _ _ says.short in
    rw few (rw short (ap (said_fault command r) says.says))
