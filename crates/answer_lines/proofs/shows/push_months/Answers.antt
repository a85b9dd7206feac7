use Rattle.std.proofs.Common.{◌<◌, ◌++◌, ◌∷◌, [], ◌∙◌, length, refl, arith}
use Rattle.std.proofs.lemmas.List.{append_assoc}
use Rattle.std.proofs.lemmas.List.Elements.{All-push}
use Rattle.arrayvec.specs.ArrayString.{ArrayString}
use Rattle.meter_config.specs.Views.{config_view}
use Rattle.answer_lines.specs.Texts.{bytes_of}
use Rattle.answer_lines.proofs.MonthLines.{month_more, months_done, pushed}
use Rattle.answer_lines.proofs.shows.push_months.Goals as goal

pub loop-entry-preserved : goal.loop-entry-preserved
loop-entry-preserved c =
    let before = c.loop-entry.invariant.added in
    let line = c.entry_line.result.bytes in
    record {
      count = omega (arith, c.push.ensures.len, c.loop-entry.invariant.count);
      some = λ all. rw c.push.ensures.items (All-push (λ (l : ArrayString). 0 < length l.bytes) c.loop-entry.lines.items c.entry_line.result (c.loop-entry.invariant.some all) c.entry_line.ensures.some);
      added = (
        before.0 ++ line ∷ [],
        pushed c.loop-entry.lines.items c.push.new.self.items c.entry_line.result (bytes_of c.args.lines.now.items ++ before.0) line c.push.ensures.items before.1 refl ∙ append_assoc (bytes_of c.args.lines.now.items) before.0 (line ∷ []),
        λ rest after. month_more (config_view c.args.config.now) c.args.months.now c.loop-entry.entry-index c.entry-item.result line before.0 rest c.loop-entry-test.true c.entry-item.is c.entry_line.ensures.text before.2 after,
      );
    }

pub returns-clause-lines : goal.returns-clause-lines
returns-clause-lines c =
    let added = c.loop-entry.invariant.added in
    (added.0, months_done (config_view c.args.config.now) c.args.months.now c.loop-entry.entry-index added.0 c.loop-entry-test.false added.2, added.1)
