use Rattle.std.proofs.Common.{◌≡◌, ◌<◌, ◌^◌, drop}
use Rattle.script_model.specs.Numbers.{value_after, all_digits}
use Rattle.billing_memory.proofs.words.digits_word.Given as goal

-- what is read so far and what is left say the whole
abbrev pub invariant-loop-c : goal.invariant-loop-c
invariant-loop-c l = record {
  value : value_after l.value (drop l.c-index l.word) ≡ value_after 0 l.word;
  digits : all_digits (drop l.c-index l.word) ≡ all_digits l.word;
  small : l.value < 10 ^ l.c-index;
}
