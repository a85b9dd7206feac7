-- A part of a list, of which the front is given away, and behind which more is written.
use Rattle.std.proofs.Common.{◌≡◌, ℕ, ◌+◌, ◌≤◌, List, ◌++◌, take, drop, length, sym, ap, ◌∙◌, subst, arith}
use Rattle.std.specs.List.{between}
use Rattle.std.proofs.lemmas.List.{drop-drop, drop-append-le, take-append-le, length-take-le}
use Rattle.std.proofs.lemmas.Slice.{between_is, take-put_mid_below}
use Rattle.std.proofs.Math.Seq.{take-append-add}
use borrow.Rule.Slice.PartMut.{put_mid, post_of}

pub later_part : (xs : List ℕ) (b e n : ℕ) → between (b + n) e xs ≡ drop n (between b e xs)
later_part xs b e n = between_is xs (b + n) e ∙ sym (drop-drop n b (take e xs)) ∙ ap (drop n) (sym (between_is xs b e))

pub untouched_part : (xs ys : List ℕ) (b e k : ℕ) → e ≤ length xs → between b e (put_mid e k xs ys) ≡ between b e xs
untouched_part xs ys b e k within = between_is (put_mid e k xs ys) b e ∙ ap (drop b) (take-put_mid_below e k xs ys e (omega arith) within) ∙ sym (between_is xs b e)

front : (xs ys : List ℕ) (e k n : ℕ) → e ≤ length xs → n ≤ length ys → take (e + n) (put_mid e k xs ys) ≡ take e xs ++ take n ys
front xs ys e k n within most =
    let len : length (take e xs) ≡ e = length-take-le e xs within in
    subst (λ m. take (m + n) (put_mid e k xs ys) ≡ take e xs ++ take n ys) len
    (take-append-add (take e xs) (ys ++ post_of e k xs) n ∙ ap (λ zs. take e xs ++ zs) (take-append-le n ys (post_of e k xs) most))

pub longer_part : (xs ys : List ℕ) (b e k n : ℕ) → b ≤ e → e ≤ length xs → n ≤ length ys → between b (e + n) (put_mid e k xs ys) ≡ between b e xs ++ take n ys
longer_part xs ys b e k n ordered within most =
    let len : length (take e xs) ≡ e = length-take-le e xs within in
    between_is (put_mid e k xs ys) b (e + n) ∙ ap (drop b) (front xs ys e k n within most) ∙ drop-append-le b (take e xs) (take n ys) (omega (arith, len)) ∙ ap (λ zs. zs ++ take n ys) (sym (between_is xs b e))
