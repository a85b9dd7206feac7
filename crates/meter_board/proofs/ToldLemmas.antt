-- One more mark, and the output of all.
use Rattle.std.proofs.Common.{◌≡◌, ℕ, ◌≤◌, List, [], ◌∷◌, ◌++◌, length, take, drop, refl, sym, ◌∙◌, ap, arith, append_assoc}
use Rattle.std.proofs.Math.Seq.{take-nil}
use Rattle.std.proofs.lemmas.List.{nil_from_length, take_all, take-append-le, drop-append-le, take-append-drop, append-nil, length-drop}
use Rattle.std.proofs.lemmas.List.Sums.{sum_by-cons}
use Rattle.trace_model.specs.Trace.{Store, Sync, Missed, Put, Arm, Cut, Trace, ◌▷◌}
use Rattle.trace_model.specs.Output.{output_of}
use Rattle.meter_board.specs.declared.mark.Mark.{Mark}
use Rattle.meter_board.specs.declared.mark.Mark.TheVariants as marks
use Rattle.meter_board.specs.Told.{size_of, stored_of, put_of, stored_by, put_by, entry_with, entry_of, told}

entry_from : (m : Mark) (stored output more more' : List ℕ) → stored_of m ≤ length stored → put_of m ≤ length output → entry_of m (stored ++ more) (output ++ more') ≡ entry_of m stored output
entry_from (marks.Store at len) stored output more more' le le' = ap (λ (l : List ℕ). Store at l) (take-append-le len stored more le)
entry_from marks.Sync stored output more more' le le' = refl
entry_from marks.Missed stored output more more' le le' = refl
entry_from (marks.Put len) stored output more more' le le' = ap (λ (l : List ℕ). Put l) (take-append-le len output more' le')
entry_from (marks.Arm n keep fill) stored output more more' le le' = refl
entry_from (marks.Cut forced len) stored output more more' le le' = ap (λ (l : List ℕ). Cut forced l) (take-append-le len stored more le)

pub told-push : (t : Trace) (ms : List Mark) (stored output : List ℕ) (m : Mark) (more more' : List ℕ) → stored_by ms ≡ length stored → put_by ms ≡ length output → told t (ms ++ m ∷ []) (stored ++ more) (output ++ more') ≡ told t ms stored output ▷ entry_of m more more'
told-push t [] stored output m more more' whole whole' =
    let none : stored ≡ [] = nil_from_length stored (sym whole) in
    let none' : output ≡ [] = nil_from_length output (sym whole') in
    (λ i. t ▷ entry_of m (none i ++ more) (none' i ++ more'))
told-push t (x ∷ ms) stored output m more more' whole whole' =
    let le : stored_of x ≤ length stored = omega (arith, whole, sum_by-cons stored_of x ms) in
    let le' : put_of x ≤ length output = omega (arith, whole', sum_by-cons put_of x ms) in
    (λ i. told (t ▷ entry_from x stored output more more' le le' i) (ms ++ m ∷ []) (drop-append-le (stored_of x) stored more le i) (drop-append-le (put_of x) output more' le' i))
    ∙ told-push (t ▷ entry_of x stored output) ms (drop (stored_of x) stored) (drop (put_of x) output) m more more'
    (omega (arith, whole, sum_by-cons stored_of x ms, length-drop (stored_of x) stored))
    (omega (arith, whole', sum_by-cons put_of x ms, length-drop (put_of x) output))

-- what went out by a trace and the marks after it
pub output_of-told : (t : Trace) (ms : List Mark) (stored output : List ℕ) → put_by ms ≡ length output → output_of (told t ms stored output) ≡ output_of t ++ output
output_of-told t [] stored output whole = let none : output ≡ [] = nil_from_length output (sym whole) in rw none (sym (append-nil (output_of t)))
output_of-told t (marks.Put n ∷ ms) stored output whole =
    output_of-told (t ▷ Put (take n output)) ms stored (drop n output) (omega (arith, whole, sum_by-cons put_of (marks.Put n) ms, length-drop n output))
    ∙ append_assoc (output_of t) (take n output) (drop n output) ∙ ap (λ l. output_of t ++ l) (take-append-drop n output)
output_of-told t (marks.Store at n ∷ ms) stored output whole =
    output_of-told (t ▷ Store at (take n stored)) ms (drop n stored) output (omega (arith, whole, sum_by-cons put_of (marks.Store at n) ms)) ∙ ap (λ l. l ++ output) (append-nil (output_of t))
output_of-told t (marks.Sync ∷ ms) stored output whole =
    output_of-told (t ▷ Sync) ms stored output (omega (arith, whole, sum_by-cons put_of marks.Sync ms)) ∙ ap (λ l. l ++ output) (append-nil (output_of t))
output_of-told t (marks.Missed ∷ ms) stored output whole =
    output_of-told (t ▷ Missed) ms stored output (omega (arith, whole, sum_by-cons put_of marks.Missed ms)) ∙ ap (λ l. l ++ output) (append-nil (output_of t))
output_of-told t (marks.Arm n keep fill ∷ ms) stored output whole =
    output_of-told (t ▷ Arm n keep fill) ms stored output (omega (arith, whole, sum_by-cons put_of (marks.Arm n keep fill) ms)) ∙ ap (λ l. l ++ output) (append-nil (output_of t))
output_of-told t (marks.Cut forced n ∷ ms) stored output whole =
    output_of-told (t ▷ Cut forced (take n stored)) ms (drop n stored) output (omega (arith, whole, sum_by-cons put_of (marks.Cut forced n) ms)) ∙ ap (λ l. l ++ output) (append-nil (output_of t))

-- a put, and any other entry
pub put_told : (t : Trace) (ms : List Mark) (stored output : List ℕ) (len : ℕ) (bytes : List ℕ) → stored_by ms ≡ length stored → put_by ms ≡ length output → len ≡ length bytes → told t (ms ++ marks.Put len ∷ []) stored (output ++ bytes) ≡ told t ms stored output ▷ Put bytes
put_told t ms stored output len bytes whole whole' size =
    (λ i. told t (ms ++ marks.Put len ∷ []) (sym (append-nil stored) i) (output ++ bytes))
    ∙ told-push t ms stored output (marks.Put len) [] bytes whole whole'
    ∙ ap (λ (l : List ℕ). told t ms stored output ▷ Put l) (take_all len bytes (omega (arith, size)))

kept_with : (m : Mark) (bytes : List ℕ) → put_of m ≡ 0 → size_of m ≡ length bytes → entry_of m bytes [] ≡ entry_with m bytes
kept_with (marks.Store at len) bytes kept size = ap (λ (l : List ℕ). Store at l) (take_all len bytes (omega (arith, size)))
kept_with marks.Sync bytes kept size = refl
kept_with marks.Missed bytes kept size = refl
kept_with (marks.Arm n keep fill) bytes kept size = refl
kept_with (marks.Cut forced len) bytes kept size = ap (λ (l : List ℕ). Cut forced l) (take_all len bytes (omega (arith, size)))
kept_with (marks.Put len) bytes kept size = ap (λ (l : List ℕ). Put l) (take-nil len ∙ sym (nil_from_length bytes (omega (arith, kept, size))))

pub kept_told : (t : Trace) (ms : List Mark) (stored output : List ℕ) (m : Mark) (bytes : List ℕ) → stored_by ms ≡ length stored → put_by ms ≡ length output → put_of m ≡ 0 → size_of m ≡ length bytes → told t (ms ++ m ∷ []) (stored ++ bytes) output ≡ told t ms stored output ▷ entry_with m bytes
kept_told t ms stored output m bytes whole whole' kept size =
    (λ i. told t (ms ++ m ∷ []) (stored ++ bytes) (sym (append-nil output) i))
    ∙ told-push t ms stored output m bytes [] whole whole'
    ∙ ap (λ e. told t ms stored output ▷ e) (kept_with m bytes kept size)
