-- The lines of a script and the words of a line, as bytes.
use Rattle.std.specs.Prelude.{ℕ, zero, suc, cond, ◌==◌, List, [], ◌∷◌}
use Rattle.std.specs.List.{slice_split, onto_first}

-- A line ends with LF (10). A last line without LF counts where it is not empty.
abbrev pub lines_of : List ℕ → List (List ℕ)
lines_of [] = []
lines_of (c ∷ cs) = cond (c == 10) ([] ∷ lines_of cs) (onto_first c (lines_of cs))

-- the bytes behind the first line's end, where there is one
abbrev pub after_line : List ℕ → List ℕ
after_line [] = []
after_line (c ∷ cs) = cond (c == 10) cs (after_line cs)

-- the bytes behind the first n lines
abbrev pub after_lines : ℕ → List ℕ → List ℕ
after_lines zero bytes = bytes
after_lines (suc n) bytes = after_lines n (after_line bytes)

-- The words of a line are its pieces between single spaces (32).
abbrev pub words_of : List ℕ → List (List ℕ)
words_of line = slice_split (λ c. c == 32) line
