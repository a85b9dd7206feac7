use Rattle.std.proofs.Common.{◌≡◌, bit_xor, drop, fold}
use Rattle.readout_reader.proofs.message.check_character.Given as goal

-- what is taken so far and what is left give the whole
abbrev pub invariant-loop-byte : goal.invariant-loop-byte
invariant-loop-byte l = fold bit_xor l.check (drop l.byte-index l.bytes) ≡ fold bit_xor 0 l.bytes
