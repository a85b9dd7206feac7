use Rattle.std.proofs.Common.{sym, ◌∙◌}
use Rattle.event_script.proofs.Bytes.{not_read}
use Rattle.event_script.proofs.message.byte_word.Goals as goal

pub returns-in-Err : goal.returns-in-Err
returns-in-Err c = not_read c.args.word.now _ _ c.decode_to_slice.ensures.value (λ bytes read. cc (sym read.0 ∙ c.in-Err.is))
