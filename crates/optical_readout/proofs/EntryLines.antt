-- The lines of entries, one entry after the other.
use Rattle.std.proofs.Common.{◌≡◌, ℕ, ◌+◌, ◌*◌, ◌≤◌, List, [], ◌∷◌, ◌++◌, reverse, length, refl, arith, sym, ap, ◌∙◌, subst, append_assoc, append-nil, length-append}
use Rattle.std.proofs.lemmas.List.{length-map, length-reverse, reverse-append}
use Rattle.calendar_model.specs.Entries.{MonthEntry}
use Rattle.metering_model.specs.Records.{Register}
use Rattle.config_model.specs.Configuration.{Configuration}
use Rattle.optical_model.specs.Messages.{AreEntryLines, entry_lines}
use Rattle.billing_memory.specs.Entries.{entry_view, entries_view}
use Rattle.billing_memory.specs.declared.entry.Entry.{Entry}
use Rattle.optical_readout.specs.Appends.{Appends, IsDated}

-- the lines of one entry
pub one_entry : (c : Configuration) (e : MonthEntry Register) (mark : ℕ) (text : List ℕ) → IsDated (entry_lines c e.register mark) e.day text → AreEntryLines c mark (e ∷ []) text
one_entry c e mark text h = (h.day, [], h.dated, refl, h.is ∙ sym (append-nil (entry_lines c e.register mark h.day)))

-- one entry more at the end
pub entry_behind : (c : Configuration) (mark : ℕ) (es : List (MonthEntry Register)) (e : MonthEntry Register) (text last : List ℕ) → AreEntryLines c mark es text → AreEntryLines c (mark + length es) (e ∷ []) last → AreEntryLines c mark (es ++ e ∷ []) (text ++ last)
entry_behind c mark [] e text last none more =
    let here : mark + 0 ≡ mark = omega arith in
    let same : last ≡ text ++ last = ap (λ t. t ++ last) (sym none) in
    subst (λ t. AreEntryLines c mark (e ∷ []) t) same (subst (λ m. AreEntryLines c m (e ∷ []) last) here more)
entry_behind c mark (x ∷ es) e text last lines more =
    let next : mark + length (x ∷ es) ≡ (mark + 1) + length es = omega arith in
    let rest = entry_behind c (mark + 1) es e lines.1 last lines.3 (subst (λ m. AreEntryLines c m (e ∷ []) last) next more) in
    (lines.0, lines.1 ++ last, lines.2, rest, ap (λ t. t ++ last) lines.4 ∙ append_assoc (entry_lines c x.register mark lines.0) lines.1 last)

-- the last entries are written, the newest first, and these are left
pub record Written (c : Configuration) (months left : List Entry) (old new : List ℕ) (mark : ℕ) : Type 0 where
  pub done : List Entry
  pub joined : left ++ done ≡ months
  pub marks : mark ≡ 2 + length done
  pub lines : Appends (AreEntryLines c 2 (reverse (entries_view done))) (70 * length done) old new

pub Written-none : (c : Configuration) (months left : List Entry) (bytes : List ℕ) → left ≡ months → Written c months left bytes bytes 2
Written-none c months left bytes all = record {
  done = [];
  joined = append-nil left ∙ all;
  marks = refl;
  lines = record { text = []; kind = refl; is = sym (append-nil bytes); short = omega arith };
}

length_view : (es : List Entry) → length (reverse (entries_view es)) ≡ length es
length_view es = length-reverse (entries_view es) ∙ length-map es entry_view

pub Written-more : (c : Configuration) (months left rest : List Entry) (e : Entry) (old new next : List ℕ) (mark : ℕ) → Written c months left old new mark → left ≡ rest ++ e ∷ [] → Appends (IsDated (entry_lines c (entry_view e).register mark) (entry_view e).day) 70 new next → Written c months rest old next (mark + 1)
Written-more c months left rest e old new next mark w split h = record {
  done = e ∷ w.done;
  joined = sym (append_assoc rest (e ∷ []) w.done) ∙ ap (λ l. l ++ w.done) (sym split) ∙ w.joined;
  marks = omega (arith, w.marks);
  lines = record {
    text = w.lines.text ++ h.text;
    kind =
        let mark_is : mark ≡ 2 + length (reverse (entries_view w.done)) = w.marks ∙ ap (λ n. 2 + n) (sym (length_view w.done)) in
        subst (λ es. AreEntryLines c 2 es (w.lines.text ++ h.text)) (sym (reverse-append (entry_view e ∷ []) (entries_view w.done)))
        (entry_behind c 2 (reverse (entries_view w.done)) (entry_view e) w.lines.text h.text w.lines.kind (subst (λ m. AreEntryLines c m (entry_view e ∷ []) h.text) mark_is (one_entry c (entry_view e) mark h.text h.kind)));
    is = h.is ∙ ap (λ t. t ++ h.text) w.lines.is ∙ append_assoc old w.lines.text h.text;
    short = omega (arith, w.lines.short, h.short, length-append w.lines.text h.text);
  };
}

pub Written-all : (c : Configuration) (months left : List Entry) (old new : List ℕ) (mark : ℕ) → Written c months left old new mark → left ≡ [] → length months ≤ 24 → Appends (AreEntryLines c 2 (reverse (entries_view months))) 1680 old new
Written-all c months left old new mark w none few =
    let all : w.done ≡ months = ap (λ l. l ++ w.done) (sym none) ∙ w.joined in
    record {
      text = w.lines.text;
      kind = subst (λ es. AreEntryLines c 2 (reverse (entries_view es)) w.lines.text) all w.lines.kind;
      is = w.lines.is;
      short = omega (arith, w.lines.short, ap length all);
    }
