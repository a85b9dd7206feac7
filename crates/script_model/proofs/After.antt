-- The bytes behind the first lines of a script.
use Rattle.std.proofs.Common.{◌≡◌, ℕ, ◌+◌, ◌==◌, suc, zero, Bool, true, false, cond, List, [], ◌∷◌, drop, refl, sym, ap, ◌∙◌, subst, arith}
use Rattle.std.specs.List.{onto_first}
use Rattle.std.proofs.lemmas.List.{drop-drop}
use Rattle.script_model.specs.Lines.{lines_of, after_line, after_lines}

but_first : (c : ℕ) (lines : List (List ℕ)) → drop 1 (onto_first c lines) ≡ drop 1 lines
but_first c [] = refl
but_first c (l ∷ ls) = refl

after_step : (b : Bool) (c : ℕ) (cs : List ℕ) → lines_of (after_line cs) ≡ drop 1 (lines_of cs) → lines_of (cond b cs (after_line cs)) ≡ drop 1 (cond b ([] ∷ lines_of cs) (onto_first c (lines_of cs)))
after_step true c cs ih = refl
after_step false c cs ih = ih ∙ sym (but_first c (lines_of cs))

pub lines_of-after_line : (bytes : List ℕ) → lines_of (after_line bytes) ≡ drop 1 (lines_of bytes)
lines_of-after_line [] = refl
lines_of-after_line (c ∷ cs) = after_step (c == 10) c cs (lines_of-after_line cs)

pub lines_of-after_lines : (n : ℕ) (bytes : List ℕ) → lines_of (after_lines n bytes) ≡ drop n (lines_of bytes)
lines_of-after_lines zero bytes = refl
lines_of-after_lines (suc n) bytes =
    let next : 1 + n ≡ suc n = omega arith in
    lines_of-after_lines n (after_line bytes) ∙ ap (drop n) (lines_of-after_line bytes) ∙ drop-drop n 1 (lines_of bytes) ∙ ap (λ k. drop k (lines_of bytes)) next

pub after_lines-next : (n : ℕ) (bytes : List ℕ) → after_lines (n + 1) bytes ≡ after_line (after_lines n bytes)
after_lines-next zero bytes = refl
after_lines-next (suc n) bytes =
    let next : suc (n + 1) ≡ suc n + 1 = omega arith in
    subst (λ k. after_lines k bytes ≡ after_line (after_lines (suc n) bytes)) next (after_lines-next n (after_line bytes))
