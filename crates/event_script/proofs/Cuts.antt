-- A text at its first space.
use Rattle.std.proofs.Common.{◌≡◌, ℕ, ◌+◌, ◌-◌, ◌<◌, ◌≤◌, ◌==◌, nat_lt, not, Bool, true, false, cond, List, [], ◌∷◌, Some, None, Err, take, drop, length, refl, arith, sym, subst}
use Rattle.std.specs.List.{position, position_or_len, slice_split, onto_first}
use Rattle.std.proofs.lemmas.List.Splits.{slice_split_first}
use Rattle.std.proofs.lemmas.List.{length-drop}
use Rattle.std.proofs.Math.Seq.{take-length}
use Rattle.std.proofs.lemmas.Bool.{ltb-true, ltb-false}
use Rattle.script_model.specs.Lines.{words_of}
use Rattle.script_model.specs.Grammar.{end_at}

-- what `position` says of the first place
pub some_step : (b : Bool) (n at : ℕ) → cond b (Some n) None ≡ Some at → (b ≡ true) × (n ≡ at)
some_step true n at e = (refl, cc)
some_step false n at e = cc

none_step : (b : Bool) (n : ℕ) → cond b (Some n) None ≡ None → b ≡ false
none_step true n e = cc
none_step false n e = refl

pub place : (p : ℕ → Bool) (xs : List ℕ) (at : ℕ) → position p xs ≡ Some at → (position_or_len p xs ≡ at) × (position_or_len p xs < length xs)
place p xs at e = let h = some_step (nat_lt (position_or_len p xs) (length xs)) (position_or_len p xs) at e in (h.1, ltb-true _ _ h.0)

pub no_place : (p : ℕ → Bool) (xs : List ℕ) → position p xs ≡ None → length xs ≤ position_or_len p xs
no_place p xs e = ltb-false _ _ (none_step (nat_lt (position_or_len p xs) (length xs)) (position_or_len p xs) e)

-- what `&xs[n..]` has
tail : (xs : List ℕ) (n : ℕ) → drop n xs ≡ take (length xs - n) (drop n xs)
tail xs n = sym (subst (λ k. take k (drop n xs) ≡ drop n xs) (length-drop n xs) (take-length (drop n xs)))

pub words_at : (line : List ℕ) (at : ℕ) → position (λ c. c == 32) line ≡ Some at → words_of line ≡ take at line ∷ words_of (take (length line - (at + 1)) (drop (at + 1) line))
words_at line at e =
    let h = place (λ c. c == 32) line at e in
    subst (λ n. words_of line ≡ take n line ∷ words_of (take (length line - (n + 1)) (drop (n + 1) line))) h.0
    (subst (λ xs. words_of line ≡ take (position_or_len (λ c. c == 32) line) line ∷ words_of xs) (tail line _) (slice_split_first (λ c. c == 32) line 0 h.1))

word_step : (b : Bool) (c : ℕ) (cs : List ℕ) → (length cs ≤ position_or_len (λ d. d == 32) cs → words_of cs ≡ cs ∷ []) → length (c ∷ cs) ≤ cond (not b) (1 + position_or_len (λ d. d == 32) cs) 0 → cond b ([] ∷ words_of cs) (onto_first c (words_of cs)) ≡ (c ∷ cs) ∷ []
word_step true c cs ih h = absurd (omega arith)
word_step false c cs ih h = rw (ih (omega arith)) refl

whole_word : (line : List ℕ) → length line ≤ position_or_len (λ d. d == 32) line → words_of line ≡ line ∷ []
whole_word [] h = refl
whole_word (c ∷ cs) h = word_step (c == 32) c cs (whole_word cs) h

pub one_word : (line : List ℕ) → position (λ c. c == 32) line ≡ None → words_of line ≡ line ∷ []
one_word line e = whole_word line (no_place (λ c. c == 32) line e)

some_part : (b : Bool) (x : ℕ) (parts : List (List ℕ)) → 0 < length (cond b ([] ∷ parts) (onto_first x parts))
some_part true x parts = omega arith
some_part false x [] = omega arith
some_part false x (p ∷ ps) = omega arith

not_end : {A : Type 0} (place : ℕ) (x : A) (ws : List (List ℕ)) → 0 < length ws → end_at place x ws ≡ Err place
not_end place x [] h = absurd (omega arith)
not_end place x (w ∷ ws) h = refl

split_some : (p : ℕ → Bool) (xs : List ℕ) → 0 < length (slice_split p xs)
split_some p [] = omega arith
split_some p (x ∷ xs) = some_part (p x) x (slice_split p xs)

-- a text has a word, so it is no end
pub no_end : {A : Type 0} (line : List ℕ) (place : ℕ) (x : A) → end_at place x (words_of line) ≡ Err place
no_end line place x = not_end place x (words_of line) (split_some (λ c. c == 32) line)
