-- The bytes that are held.
use Rattle.std.specs.Prelude.{ℕ, List}
use Rattle.std.specs.List.{between}
use Rattle.event_script.specs.declared.buffer.Buffer.{Buffer}

-- the bytes that were read and belong to no line that was given
abbrev pub held : Buffer → List ℕ
held b = between b.begin b.end b.bytes
