use Rattle.energy_register.proofs.DisplayLemmas.{IsWritten}
use Rattle.energy_register.proofs.display.digits_text.Given as goal

abbrev pub invariant-loop-place : goal.invariant-loop-place
invariant-loop-place l = IsWritten l.digits l.decimals l.place l.text.bytes
