-- What one more put does to the output lines, and texts whose LF stands at their end alone.
use Rattle.std.proofs.Common.{◌≡◌, ℕ, ◌<◌, ◌==◌, ◌&&◌, Bool, true, false, not, suc, zero, List, [], ◌∷◌, ◌++◌, take, refl, ap, arith}
use Rattle.std.proofs.lemmas.Bool.{and_from, and_parts, ne_eqb, not-true, both_ways}
use Rattle.trace_model.specs.Trace.{Trace, Put, ◌▷◌}
use Rattle.trace_model.specs.Output.{ends_line, output_lines, open_segment}

-- a put of an output line
pub output_lines-line : (t : Trace) (text : List ℕ) → ends_line text ≡ true → output_lines (t ▷ Put text) ≡ output_lines t ++ record { segment = open_segment t; text = text } ∷ []
output_lines-line t text ends = rw ends refl

pub open_segment-line : (t : Trace) (text : List ℕ) → ends_line text ≡ true → open_segment (t ▷ Put text) ≡ []
open_segment-line t text ends = rw ends refl

-- a put of other bytes
pub output_lines-piece : (t : Trace) (piece : List ℕ) → ends_line piece ≡ false → output_lines (t ▷ Put piece) ≡ output_lines t
output_lines-piece t piece part = rw part refl

pub open_segment-piece : (t : Trace) (piece : List ℕ) → ends_line piece ≡ false → open_segment (t ▷ Put piece) ≡ open_segment t ++ Put piece ∷ []
open_segment-piece t piece part = rw part refl

-- no byte is LF
abbrev pub no_lf : List ℕ → Bool
no_lf [] = true
no_lf (c ∷ cs) = not (c == 10) && no_lf cs

pub no_lf-append : (xs ys : List ℕ) → no_lf (xs ++ ys) ≡ (no_lf xs && no_lf ys)
no_lf-append [] ys = refl
no_lf-append (c ∷ cs) ys = rw (no_lf-append cs ys) (assoc (not (c == 10)) (no_lf cs) (no_lf ys)) where
  assoc : (a b d : Bool) → (a && (b && d)) ≡ (a && b && d)
  assoc true b d = refl
  assoc false b d = refl

pub no_lf_above : (c : ℕ) → 10 < c → no_lf (c ∷ []) ≡ true
no_lf_above c h = and_from _ _ (ap not (ne_eqb c 10 (λ e. absurd (omega arith)))) refl

pub no_lf_both : (xs ys : List ℕ) → no_lf xs ≡ true → no_lf ys ≡ true → no_lf (xs ++ ys) ≡ true
no_lf_both [] ys p q = q
no_lf_both (c ∷ cs) ys p q = let h = and_parts _ _ p in and_from _ _ h.0 (no_lf_both cs ys h.1 q)

pub ends_line-append_lf : (xs : List ℕ) → ends_line (xs ++ 10 ∷ []) ≡ true
ends_line-append_lf [] = refl
ends_line-append_lf (c ∷ []) = refl
ends_line-append_lf (c ∷ d ∷ ds) = ends_line-append_lf (d ∷ ds)

tail_ends : (c : ℕ) (ys : List ℕ) → not (c == 10) ≡ true → ends_line (c ∷ ys) ≡ true → ends_line ys ≡ true
tail_ends c [] p q = absurd (both_ways (c == 10) (not-true _ p) q)
tail_ends c (d ∷ ds) p q = q

-- a front of a text with its LF at the end alone is no output line, but where it is the whole
pub front_of_line : (xs : List ℕ) (n : ℕ) → no_lf xs ≡ true → ends_line (take n (xs ++ 10 ∷ [])) ≡ true → take n (xs ++ 10 ∷ []) ≡ xs ++ 10 ∷ []
front_of_line [] zero p q = absurd cc
front_of_line [] (suc zero) p q = refl
front_of_line [] (suc (suc n)) p q = refl
front_of_line (c ∷ cs) zero p q = absurd cc
front_of_line (c ∷ cs) (suc n) p q = let h = and_parts _ _ p in ap (λ t. c ∷ t) (front_of_line cs n h.1 (tail_ends c (take n (cs ++ 10 ∷ [])) h.0 q))
