use Rattle.std.proofs.Common.{◌≡◌, ◌∙◌, inl, inr, ◌++◌, ◌∷◌, [], refl, sym, ap, rules, is_ok, if◌then◌else◌}
use Rattle.trace_model.specs.Trace.{Start, ◌▷◌}
use Rattle.meter_board.specs.Told.{put_of, size_of, entry_with, told}
use Rattle.meter_board.proofs.ToldLemmas.{put_told, kept_told}
use Rattle.meter_board.proofs.history.History.add.Goals as goal

pub returns-in-Put-clause-added : goal.returns-in-Put-clause-added
returns-in-Put-clause-added c = λ _.
    let h = c.args.self.now in
    let bytes = c.args.bytes.now in
    let pushed : c.push.new.self.items ≡ h.marks.items ++ c.args.mark ∷ [] = c.push.ensures.items ∙ ap (λ r. if is_ok r then h.marks.items ++ c.args.mark ∷ [] else h.marks.items) c.unwrap.ensures in
    let put : c.extend_from_slice.new.self.items ≡ h.output.items ++ bytes = c.extend_from_slice.ensures.items ∙ ap (λ r. if is_ok r then h.output.items ++ bytes else h.output.items) c.unwrap-in-Put.ensures in
    (λ i. told (Start h.base.items) (pushed i) h.stored.items (put i))
    ∙ (λ i. told (Start h.base.items) (h.marks.items ++ c.in-Put.is i ∷ []) h.stored.items (h.output.items ++ bytes))
    ∙ put_told (Start h.base.items) h.marks.items h.stored.items h.output.items c.in-Put.len bytes h.stored_whole h.output_whole (ap size_of (sym c.in-Put.is) ∙ c.requires)
    ∙ ap (λ m. told (Start h.base.items) h.marks.items h.stored.items h.output.items ▷ entry_with m bytes) (sym c.in-Put.is)

pub returns-in-Store : goal.returns-in-Store
returns-in-Store c =
    let h = c.args.self.now in
    let bytes = c.args.bytes.now in
    let pushed : c.push.new.self.items ≡ h.marks.items ++ c.args.mark ∷ [] = c.push.ensures.items ∙ ap (λ r. if is_ok r then h.marks.items ++ c.args.mark ∷ [] else h.marks.items) c.unwrap.ensures in
    let stored : c.extend_from_slice-in-Store.new.self.items ≡ h.stored.items ++ bytes = c.extend_from_slice-in-Store.ensures.items ∙ ap (λ r. if is_ok r then h.stored.items ++ bytes else h.stored.items) c.unwrap-in-Store.ensures in
    let kept : put_of c.args.mark ≡ 0 = elim c.in-Store.is [ inl store ↦ ap put_of store.2 | inr other ↦ elim other [ inl sync ↦ ap put_of sync | inr later ↦ elim later [ inl missed ↦ ap put_of missed | inr last ↦ elim last [ inl arm ↦ ap put_of arm.3 | inr cut ↦ ap put_of cut.2 ] ] ] ] in
    record {
      room = search rules;
      added = λ _. (λ i. told (Start h.base.items) (pushed i) (stored i) h.output.items) ∙ kept_told (Start h.base.items) h.marks.items h.stored.items h.output.items c.args.mark bytes h.stored_whole h.output_whole kept c.requires;
      full = λ e. absurd cc;
      entries = search rules;
      bytes = search rules;
      entry_room = refl;
      byte_room = refl;
    }
