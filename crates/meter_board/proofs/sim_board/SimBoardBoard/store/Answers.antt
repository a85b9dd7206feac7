use Rattle.std.proofs.Common.{◌≡◌, refl, sym, ◌∙◌, ap, subst}
use Rattle.trace_model.specs.Trace.{Trace, Store, ◌▷◌}
use Rattle.trace_model.specs.Images.{IsImage, pending, replaced, written}
use Rattle.trace_model.proofs.Images.{stored_image}
use Rattle.meter_board.specs.Tears.{last_at, last_len}
use Rattle.meter_board.specs.Histories.{history_trace}
use Rattle.meter_board.proofs.TearLemmas.{torn_store_image}
use Rattle.meter_board.proofs.sim_board.SimBoardBoard.store.Goals as goal

pub invariant_of-self-2 : goal.invariant_of-self-2
invariant_of-self-2 c =
    let before = c.args.self.now in
    let bytes = c.args.bytes.now in
    let t = history_trace before.history in
    let trace_is : history_trace c.add.new.self ≡ t ▷ Store c.args.at bytes = c.if-not-add.ensures.added refl in
    record {
      newest = c.overwrite.ensures ∙ ap (λ m. replaced m c.args.at bytes) before.newest ∙ sym (ap written trace_is);
      possible = subst (λ (x : Trace). IsImage x c.overwrite.new.memory.items) (sym trace_is)
          (subst (IsImage (t ▷ Store c.args.at bytes)) (sym c.overwrite.ensures) (stored_image t c.args.at bytes before.memory.items c.requires before.possible));
      last_place = sym (ap (λ x. last_at (pending x)) trace_is);
      last_size = sym (ap (λ x. last_len (pending x)) trace_is);
      last_fits = c.requires;
    }

pub returns-then-due-clause-gives : goal.returns-then-due-clause-gives
returns-then-due-clause-gives c = λ _.
    let before = c.args.self.now in
    let bytes = c.args.bytes.now in
    let t = history_trace before.history in (
      c.if-not-cut_store.ensures.added refl,
      subst (IsImage (t ▷ Store c.args.at bytes)) (sym (c.if-not-cut_store.ensures.torn refl))
          (torn_store_image t c.args.at bytes before.memory.items _ _ c.requires before.possible),
    )
