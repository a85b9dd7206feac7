-- The bytes of a line's text.
use Rattle.std.specs.Prelude.{ℕ, List, drop}
use Rattle.line_text.specs.declared.LineText.{LineText}

abbrev pub text_of : LineText → List ℕ
text_of t = drop t.start t.bytes
