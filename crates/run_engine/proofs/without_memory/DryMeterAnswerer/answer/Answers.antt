use Rattle.std.proofs.Common.{◌+◌, ◌∙◌, sym, subst, arith}
use Rattle.answer_model.specs.Faults.{Dry}
use Rattle.billing_memory.specs.Records.{record_view}
use Rattle.event_script.specs.Views.{line_view}
use Rattle.event_script.proofs.Says.{decides}
use Rattle.run_engine.specs.Dry.{dry_opening, dry_setup, dry_settings}
use Rattle.run_engine.specs.Progress.{SomeProgress}
use Rattle.run_engine.proofs.DryProgress.{dry_failed, dry_goes_on, takes_dry}
use Rattle.run_engine.proofs.Progress.{printable, refused, some_text, text_of}
use Rattle.run_engine.proofs.without_memory.DryMeterAnswerer.answer.Goals as goal

pub returns-in-Err-clause-leads : goal.returns-in-Err-clause-leads
returns-in-Err-clause-leads g c = λ tells opening script rest line after taken ready first says.
    let r = record_view c.args.self.now.meter.record in
    refused ready.1 first c.in-Err.kind (decides says Dry r ∙ c.in-Err.ensures c.args._message.now)

pub put-requires : goal.put-requires
put-requires g c =
    some_text dry_settings c.as_bytes.result.now c.take.new.self.meter.record
    (text_of dry_settings c.as_bytes.result.now _ c.take.new.self.meter.record _ c.take.new.self.meter.config _ c.as_bytes.ensures c.ok_line.ensures c.state.ensures c.config.ensures c.take.new.self.standard)

pub returns-in-Ok-put-clause-leads : goal.returns-in-Ok-put-clause-leads
returns-in-Ok-put-clause-leads g c = λ tells opening script rest line after taken ready first says.
    let new = record_view c.take.new.self.meter.record in
    let text = text_of dry_settings c.as_bytes.result.now _ c.take.new.self.meter.record _ c.take.new.self.meter.config _ c.as_bytes.ensures c.ok_line.ensures c.state.ensures c.config.ensures c.take.new.self.standard in
    let takes = takes_dry taken line (line_view c.args.said.now c.args._message.now) (record_view c.args.self.now.meter.record) new c.in-Ok.field-0 says (c.in-Ok.ensures c.args._message.now) in
    subst (λ u. SomeProgress dry_setup dry_opening script after (taken + 1) new u) (sym (c.in-Ok-put.ensures.gives tells))
    (dry_goes_on ready.1 first takes c.as_bytes.result.now text (printable dry_settings c.take.new.self.meter.record (omega arith)))

pub returns-in-Err-put-clause-leads : goal.returns-in-Err-put-clause-leads
returns-in-Err-put-clause-leads g c = λ tells opening script rest line after taken ready first says.
    let new = record_view c.take.new.self.meter.record in
    let text = text_of dry_settings c.as_bytes.result.now _ c.take.new.self.meter.record _ c.take.new.self.meter.config _ c.as_bytes.ensures c.ok_line.ensures c.state.ensures c.config.ensures c.take.new.self.standard in
    let takes = takes_dry taken line (line_view c.args.said.now c.args._message.now) (record_view c.args.self.now.meter.record) new c.in-Ok.field-0 says (c.in-Ok.ensures c.args._message.now) in
    dry_failed ready.1 first takes c.as_bytes.result.now text (printable dry_settings c.take.new.self.meter.record (omega arith)) _ (c.in-Err-put.ensures.gives tells)
