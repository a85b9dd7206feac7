-- What a line of a script says, or the place of its first wrong, missing or extra word, from 0.
use Rattle.std.specs.Prelude.{ℕ, cond, nat_eq, List, [], ◌∷◌, codes, Option, None, Some, Result, Ok, Err}
use Rattle.std.specs.Cmp.Lexicographic.{pointwise}
use Rattle.trace_model.specs.Images.{memory_size}
use Rattle.metering_model.specs.Events.{Event, Sample, Pulse, Date}
use Rattle.metering_model.specs.Limits.{max_pulses}
use Rattle.script_model.specs.Lines.{words_of}
use Rattle.script_model.specs.Numbers.{number_in}
use Rattle.script_model.specs.Dates.{date_in}
use Rattle.script_model.specs.Hex.{byte_in, hex_in}

pub data Line : Type 0 where
  Metering : (event : Event) → Line
  -- the power fails
  Power : Line
  -- a cut of the power is ordered: within the n-th store or sync from now on; that store's first bytes, so many, are
  -- written, and this byte in the place of the others
  Cut : (n keep fill : ℕ) → Line
  -- a message to the optical head
  Opt : (message : List ℕ) → Line
  -- bytes on the M-Bus
  Mbus : (bytes : List ℕ) → Line

-- what is read first, and then the rest
infixl 10 ◌>>=◌
abbrev pub ◌>>=◌ : {A B : Type 0} → Result A ℕ → (A → Result B ℕ) → Result B ℕ
(Ok x) >>= f = f x
(Err place) >>= f = Err place

-- what a word says, where it says something, with the words after it
abbrev pub said_by : {A : Type 0} → Option A → ℕ → List (List ℕ) → Result (A × List (List ℕ)) ℕ
said_by None place words = Err place
said_by (Some x) place words = Ok (x, words)

-- the word at this place, by its rule
abbrev pub word_at : {A : Type 0} → ℕ → (List ℕ → Option A) → List (List ℕ) → Result (A × List (List ℕ)) ℕ
word_at place rule [] = Err place
word_at place rule (word ∷ words) = said_by (rule word) place words

-- no word stands at this place
abbrev pub end_at : {A : Type 0} → ℕ → A → List (List ℕ) → Result A ℕ
end_at place x [] = Ok x
end_at place x (word ∷ words) = Err place

-- the greatest sample, in microohms
abbrev pub max_sample : ℕ
max_sample = 4294967295

-- the latest store or sync, counted from a `cut` line on, that it can name
abbrev pub max_calls : ℕ
max_calls = 65535

-- `sample RF RR`
abbrev pub sample_line : List (List ℕ) → Result Line ℕ
sample_line words =
    word_at 1 (number_in 0 max_sample) words >>= λ rf. word_at 2 (number_in 0 max_sample) rf.1 >>= λ rr. end_at 3 (Metering (Sample rf.0 rr.0)) rr.1

-- `pulse N`, at most as many as a register counts
abbrev pub pulse_line : List (List ℕ) → Result Line ℕ
pulse_line words = word_at 1 (number_in 1 max_pulses) words >>= λ n. end_at 2 (Metering (Pulse n.0)) n.1

-- `date YYYY-MM-DD`
abbrev pub date_line : List (List ℕ) → Result Line ℕ
date_line words = word_at 1 date_in words >>= λ day. end_at 2 (Metering (Date day.0)) day.1

-- `power`
abbrev pub power_line : List (List ℕ) → Result Line ℕ
power_line words = end_at 1 Power words

-- `cut N KEEP FILL`
abbrev pub cut_line : List (List ℕ) → Result Line ℕ
cut_line words =
    word_at 1 (number_in 1 max_calls) words >>= λ n. word_at 2 (number_in 0 memory_size) n.1 >>= λ keep. word_at 3 byte_in keep.1 >>= λ fill. end_at 4 (Cut n.0 keep.0 fill.0) fill.1

-- `opt HEX`
abbrev pub opt_line : List (List ℕ) → Result Line ℕ
opt_line words = word_at 1 hex_in words >>= λ message. end_at 2 (Opt message.0) message.1

-- `mbus HEX`
abbrev pub mbus_line : List (List ℕ) → Result Line ℕ
mbus_line words = word_at 1 hex_in words >>= λ bytes. end_at 2 (Mbus bytes.0) bytes.1

-- by the first word
abbrev pub line_named : List ℕ → List (List ℕ) → Result Line ℕ
line_named name words =
    cond (pointwise nat_eq name (codes "sample")) (sample_line words)
    (cond (pointwise nat_eq name (codes "pulse")) (pulse_line words)
    (cond (pointwise nat_eq name (codes "date")) (date_line words)
    (cond (pointwise nat_eq name (codes "power")) (power_line words)
    (cond (pointwise nat_eq name (codes "cut")) (cut_line words)
    (cond (pointwise nat_eq name (codes "opt")) (opt_line words)
    (cond (pointwise nat_eq name (codes "mbus")) (mbus_line words) (Err 0)))))))

abbrev pub line_of_words : List (List ℕ) → Result Line ℕ
line_of_words [] = Err 0
line_of_words (name ∷ words) = line_named name words

abbrev pub line_of : List ℕ → Result Line ℕ
line_of line = line_of_words (words_of line)
