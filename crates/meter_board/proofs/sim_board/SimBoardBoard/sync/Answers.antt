use Rattle.std.proofs.Common.{◌+◌, ◌≤◌, take, drop, refl, sym, ◌∙◌, subst, arith}
use Rattle.trace_model.specs.Images.{IsImage, pending, replaced}
use Rattle.meter_board.specs.Tears.{last_at, last_len, torn}
use Rattle.meter_board.specs.Histories.{history_trace}
use Rattle.meter_board.proofs.TearLemmas.{torn_image, torn_last}
use Rattle.meter_board.proofs.sim_board.SimBoardBoard.sync.Goals as goal

pub returns-then-due-clause-torn : goal.returns-then-due-clause-torn
returns-then-due-clause-torn c = λ _.
    let before = c.args.self.now in
    let memory = before.memory.items in
    c.if-not-cut_sync.ensures.torn refl
    ∙ (λ i. replaced memory (before.last_place i) (torn (c.count-due.ensures.left i).keep (c.count-due.ensures.left i).fill (take (before.last_size i) (drop (before.last_place i) memory))))
    ∙ torn_last (pending (history_trace before.history)) memory before.armed.keep before.armed.fill

pub returns-then-due-clause-gives : goal.returns-then-due-clause-gives
returns-then-due-clause-gives c = λ _.
    let before = c.args.self.now in
    let t = history_trace before.history in
    let fits : last_at (pending t) + last_len (pending t) ≤ 16384 = omega (arith, before.last_place, before.last_size, before.last_fits) in (
      c.if-not-cut_sync.ensures.added refl,
      subst (IsImage t) (sym (returns-then-due-clause-torn c refl)) (torn_image t before.memory.items _ _ fits before.possible),
    )
