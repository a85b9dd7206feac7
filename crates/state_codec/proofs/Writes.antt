-- One part more behind those that are written.
use Rattle.std.proofs.Common.{◌≡◌, ℕ, ◌+◌, ◌*◌, ◌≤◌, ◌<◌, List, [], ◌∷◌, ◌++◌, length, get_or, take, drop, map, refl, sym, ◌∙◌, ap, arith, append_assoc, append-nil}
use Rattle.std.specs.List.{flat_map}
use Rattle.std.specs.Prelude.{replicate, ◌-◌, Option, Some, None}
use Rattle.std.proofs.lemmas.List.{take_at, drop_at, drop-drop, length-append, length-take, length-map, map_push, take_more, drop-replicate}
use Rattle.std.proofs.lemmas.List.Concat.{flat_map-append}
use Rattle.billing_memory.specs.declared.entry.Entry.{Entry}
use Rattle.metering_model.specs.Records as records
use Rattle.calendar_model.specs.Entries.{MonthEntry}
use Rattle.billing_memory.specs.Entries.{entry_view}
use Rattle.state_codec.specs.Slot.{entry_bytes, zeros, head_bytes, sum_bytes, set_day_bytes}

pub length-entry_bytes : (e : MonthEntry records.Register) → length (entry_bytes e) ≡ 48
unfolding entry_bytes
length-entry_bytes e = refl

pub length-entries : (es : List (MonthEntry records.Register)) → length (flat_map entry_bytes es) ≡ 48 * length es
length-entries [] = refl
length-entries (e ∷ es) = omega (arith, length-append (entry_bytes e) (flat_map entry_bytes es), length-entry_bytes e, length-entries es)

put_next : (o f b : List ℕ) (at n : ℕ) → length f ≡ n → at + n ≤ length o → take (at + n) (take at o ++ (f ++ drop (at + n) o)) ++ (b ++ drop (at + n + 48) (take at o ++ (f ++ drop (at + n) o))) ≡ take at o ++ ((f ++ b) ++ drop (at + n + 48) o)
put_next o f b at n size fits =
    let front = take at o ++ f in
    let long : length front ≡ at + n = omega (arith, length-append (take at o) f, length-take at o) in
    let grouped : take at o ++ (f ++ drop (at + n) o) ≡ front ++ drop (at + n) o = sym (append_assoc (take at o) f (drop (at + n) o)) in
    let head : take (at + n) (take at o ++ (f ++ drop (at + n) o)) ≡ front = ap (λ (l : List ℕ). take (at + n) l) grouped ∙ take_at front (drop (at + n) o) (at + n) long in
    let tail : drop (at + n + 48) (take at o ++ (f ++ drop (at + n) o)) ≡ drop (at + n + 48) o =
    ap (λ (l : List ℕ). drop (at + n + 48) l) grouped ∙ sym (drop-drop 48 (at + n) (front ++ drop (at + n) o)) ∙ ap (λ (l : List ℕ). drop 48 l) (drop_at front (drop (at + n) o) (at + n) long) ∙ drop-drop 48 (at + n) o in
    (λ i. head i ++ (b ++ tail i)) ∙ append_assoc (take at o) f (b ++ drop (at + n + 48) o) ∙ ap (λ (l : List ℕ). take at o ++ l) (sym (append_assoc f b (drop (at + n + 48) o)))

pub put_entry : (o : List ℕ) (at k : ℕ) (es : List Entry) (d : Entry) (out new b : List ℕ) → k < length es → at + 48 * length es ≤ length o → b ≡ entry_bytes (entry_view (get_or es k d))
    → out ≡ take at o ++ (flat_map entry_bytes (map entry_view (take k es)) ++ drop (at + 48 * k) o)
    → new ≡ take (at + 48 * k) out ++ (b ++ drop (at + 48 * k + length b) out)
    → new ≡ take at o ++ (flat_map entry_bytes (map entry_view (take (k + 1) es)) ++ drop (at + 48 * (k + 1)) o)
put_entry o at k es d out new b lt fits b-is so_far now =
    let e = get_or es k d in
    let f = flat_map entry_bytes (map entry_view (take k es)) in
    let size : length f ≡ 48 * k = omega (arith, length-entries (map entry_view (take k es)), length-map (take k es) entry_view, length-take k es) in
    let lines : flat_map entry_bytes (map entry_view (take (k + 1) es)) ≡ f ++ entry_bytes (entry_view e) =
    ap (λ (l : List Entry). flat_map entry_bytes (map entry_view l)) (take_more es k d lt)
    ∙ ap (λ (l : List (MonthEntry records.Register)). flat_map entry_bytes l) (map_push entry_view (take k es) e) ∙ flat_map-append entry_bytes (map entry_view (take k es)) (entry_view e ∷ []) ∙ ap (λ (l : List ℕ). f ++ l) (append-nil (entry_bytes (entry_view e))) in
    let place : at + 48 * (k + 1) ≡ at + 48 * k + 48 = omega arith in
    let full : length b ≡ 48 = ap length b-is ∙ length-entry_bytes (entry_view e) in
    now ∙ (λ i. take (at + 48 * k) (so_far i) ++ (b-is i ++ drop (at + 48 * k + full i) (so_far i))) ∙ put_next o f (entry_bytes (entry_view e)) at (48 * k) size (omega arith)
    ∙ (λ i. take at o ++ (sym lines i ++ drop (sym place i) o))

-- the three parts in front, the entries, and zeros behind them
pub whole_record : (h s d entries : List ℕ) (n : ℕ) → length h ≡ 16 → length s ≡ 56 → length d ≡ 48 → n ≤ 1160
    → take 120 (h ++ (s ++ (d ++ drop 120 (zeros 1280)))) ++ (entries ++ drop (120 + n) (h ++ (s ++ (d ++ drop 120 (zeros 1280))))) ≡ h ++ (s ++ (d ++ (entries ++ zeros (1160 - n))))
unfolding zeros
whole_record h s d entries n lh ls ld le =
    let front = (h ++ s) ++ d in
    let long : length front ≡ 120 = omega (arith, length-append (h ++ s) d, length-append h s) in
    let grouped : (x : List ℕ) → h ++ (s ++ (d ++ x)) ≡ front ++ x = λ x. sym (append_assoc (h ++ s) d x ∙ append_assoc h s (d ++ x)) in
    let rest = drop 120 (replicate 1280 0) in
    let head : take 120 (h ++ (s ++ (d ++ rest))) ≡ front = ap (λ (l : List ℕ). take 120 l) (grouped rest) ∙ take_at front rest 120 long in
    let blank : drop n rest ≡ replicate (1160 - n) 0 = drop-drop n 120 (replicate 1280 0) ∙ drop-replicate (120 + n) 1280 0 ∙ ap (λ (m : ℕ). replicate m 0) (omega arith) in
    let tail : drop (120 + n) (h ++ (s ++ (d ++ rest))) ≡ replicate (1160 - n) 0 = ap (λ (l : List ℕ). drop (120 + n) l) (grouped rest) ∙ sym (drop-drop n 120 (front ++ rest)) ∙ ap (λ (l : List ℕ). drop n l) (drop_at front rest 120 long) ∙ blank in
    (λ i. head i ++ (entries ++ tail i)) ∙ sym (grouped (entries ++ replicate (1160 - n) 0))

pub length-head : (r : records.MeterRecord) → length (head_bytes r) ≡ 16
unfolding head_bytes
length-head r = refl

pub length-sums : (r : records.MeterRecord) → length (sum_bytes r) ≡ 56
unfolding sum_bytes
length-sums r = refl

pub length-set_day : (e : Option (MonthEntry records.Register)) → length (set_day_bytes e) ≡ 48
unfolding set_day_bytes zeros entry_bytes
length-set_day None = refl
length-set_day (Some e) = refl
