use Rattle.std.proofs.Common.{◌∙◌, ◌-◌, sym, ap, [], ◌∷◌, ◌+◌, arith, rules, length}
use Rattle.std.proofs.lemmas.Result.{err_from_is_err_and}
use Rattle.std.proofs.lemmas.List.{map-append}
use Rattle.reading_model.specs.Messages.{entries_of}
use Rattle.readout_reader.specs.Views.{shown_list, shown_view}
use Rattle.readout_reader.proofs.Entering.{with_front, begun, one_more_marked, broken_marked, stopped}
use Rattle.readout_reader.proofs.entries.read_entries.Goals as goal

pub loop-mark-init : goal.loop-mark-init
loop-mark-init c = record {
  said = begun _ _ _ c.first_mark-mark.ensures.said ∙ ap (λ l. with_front (shown_list l) (entries_of (26 - c.first_mark-mark.result) c.args.bytes.now)) (sym c.new-entries.ensures);
  room = omega (arith, ap length c.new-entries.ensures, c.first_mark-mark.ensures.some);
}

pub returns-then-is_end : goal.returns-then-is_end
returns-then-is_end c = c.loop-mark.invariant.said ∙ stopped (shown_list c.loop-mark.entries.items) (26 - c.loop-mark.mark) c.loop-mark.rest.now (search rules)

pub returns-in_err-entry : goal.returns-in_err-entry
returns-in_err-entry c =
    let p = err_from_is_err_and c.from_residual.result c.from_residual.ensures.1 in
    rw (p.1, p.2) (c.loop-mark.invariant.said ∙ broken_marked (shown_list c.loop-mark.entries.items) c.loop-mark.mark c.loop-mark.rest.now _ (omega arith) (search rules) c.in_err-entry.ensures)

pub loop-mark-preserved : goal.loop-mark-preserved
loop-mark-preserved c = record {
  said = c.loop-mark.invariant.said
      ∙ one_more_marked (shown_list c.loop-mark.entries.items) (shown_view c.in_ok-entry.entry) c.loop-mark.mark c.loop-mark.rest.now c.in_ok-entry.behind.now (omega arith) (search rules) c.in_ok-entry.ensures
      ∙ ap (λ l. with_front l (entries_of (26 - (c.loop-mark.mark + 1)) c.in_ok-entry.behind.now)) (sym (ap shown_list c.push.ensures.items ∙ map-append shown_view c.loop-mark.entries.items (c.in_ok-entry.entry ∷ [])));
  room = omega (arith, c.push.ensures.len);
}
