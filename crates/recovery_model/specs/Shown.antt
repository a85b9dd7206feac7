-- The number of events that an output line shows.
use Rattle.std.specs.Prelude.{◌≡◌, ℕ, ◌≤◌, cond, List, Option, None, Some, option_and_then, slice_get}
use Rattle.std.specs.List.{AllByRecursion}
use Rattle.script_model.specs.Lines.{words_of}
use Rattle.script_model.specs.Numbers.{is_number, value_after}
use Rattle.trace_model.specs.Output.{OutputLine}

-- the number that a word says
abbrev pub number_of : List ℕ → Option ℕ
number_of word = cond (is_number word) (Some (value_after 0 word)) None

-- the number of events that an output line shows: its second word
abbrev pub number_shown : List ℕ → Option ℕ
number_shown text = option_and_then number_of (slice_get (words_of text) 1)

-- none of the output lines shows more events than these
abbrev pub ShowAtMost : ℕ → List OutputLine → Type 0
ShowAtMost events outputs = AllByRecursion (λ a. (k : ℕ) → number_shown a.text ≡ Some k → k ≤ events) outputs
