use Rattle.std.proofs.Common.{◌<◌, ◌++◌, ◌∷◌, [], ◌∙◌, length, refl, arith}
use Rattle.std.proofs.lemmas.List.{append_assoc}
use Rattle.std.proofs.lemmas.List.Elements.{All-push}
use Rattle.arrayvec.specs.ArrayString.{ArrayString}
use Rattle.answer_lines.specs.Texts.{bytes_of}
use Rattle.answer_lines.proofs.ReadoutLines.{dated_at, record_more, records_done}
use Rattle.answer_lines.proofs.MonthLines.{pushed}
use Rattle.answer_lines.proofs.telegrams.push_records.Goals as goal

pub record_line-requires : goal.record_line-requires
record_line-requires c = dated_at c.args.records.now c.loop-reading.reading-index _ c.loop-reading-test.true c.requires.dated

pub loop-reading-preserved : goal.loop-reading-preserved
loop-reading-preserved c =
    let before = c.loop-reading.invariant.added in
    let line = c.record_line.result.bytes in
    record {
      count = omega (arith, c.push.ensures.len, c.loop-reading.invariant.count);
      some = λ all. rw c.push.ensures.items (All-push (λ (l : ArrayString). 0 < length l.bytes) c.loop-reading.lines.items c.record_line.result (c.loop-reading.invariant.some all) c.record_line.ensures.some);
      added = (
        before.0 ++ line ∷ [],
        pushed c.loop-reading.lines.items c.push.new.self.items c.record_line.result (bytes_of c.args.lines.now.items ++ before.0) line c.push.ensures.items before.1 refl ∙ append_assoc (bytes_of c.args.lines.now.items) before.0 (line ∷ []),
        λ rest after. record_more c.args.records.now c.loop-reading.reading-index _ line before.0 rest c.loop-reading-test.true c.record_line.ensures.text before.2 after,
      );
    }

pub returns-clause-lines : goal.returns-clause-lines
returns-clause-lines c =
    let added = c.loop-reading.invariant.added in
    (added.0, records_done c.args.records.now c.loop-reading.reading-index added.0 c.loop-reading-test.false added.2, added.1)
