use Rattle.std.proofs.Common.{◌∙◌, codes, sym, subst}
use Rattle.std.specs.Prelude.{option_map}
use Rattle.answer_model.specs.Texts.{readout_text}
use Rattle.optical_model.specs.Replies.{Replies}
use Rattle.billing_memory.specs.Records.{record_view}
use Rattle.meter_config.specs.Views.{config_view}
use Rattle.optical_readout.specs.Heard.{Heard}
use Rattle.meter_board.specs.Puts.{PutGives}
use Rattle.run_engine.proofs.answers.answer_message.Goals as goal

pub returns-clause-shows : goal.returns-clause-shows
returns-clause-shows g c = λ tells last heard. record {
  reply = option_map (λ b. b.items) c.hear-reply.result;
  replies = subst (λ k. Replies (config_view k) (record_view c.args.meter.now.record) last c.args.message.now (option_map (λ b. b.items) c.hear-reply.result)) c.config.ensures
      (subst (λ m. Replies (config_view c.config.result.now) (record_view m) last c.args.message.now (option_map (λ b. b.items) c.hear-reply.result)) c.state.ensures
      (c.hear-reply.ensures.reply last (subst (λ k. Heard (config_view k) last c.args.optical.now) (sym c.config.ensures) heard)));
  shown = subst (λ text. PutGives (g.B.Board.trace c.args.board.now) text c.show.result (g.B.Board.trace c.show.new.board))
      (c.as_slice.ensures.value ∙ c.readout_line-text.ensures ∙ (λ i. readout_text (codes "opt") (record_view (c.state-2.ensures i)) (c.bytes_of.ensures i)))
      (c.show.ensures.gives tells);
}
