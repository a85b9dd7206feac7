use Rattle.std.proofs.Common.{◌∙◌, ap}
use Rattle.billing_memory.specs.Entries.{entry_view}
use Rattle.state_codec.specs.Slot.{entry_bytes}
use Rattle.state_codec.proofs.Writes.{put_entry}
use Rattle.state_codec.proofs.slot_writing.write_entries.Goals as goal

pub loop-k-preserved : goal.loop-k-preserved
loop-k-preserved c =
    put_entry c.args.out.now c.args.at c.loop-k.k c.args.entries.now c.index-entries-k.result c.loop-k.out c.put_at.new.out c.write_entry.result c.loop-k-test.true c.requires (c.write_entry.ensures ∙ ap (λ x. entry_bytes (entry_view x)) c.index-entries-k.is) c.loop-k.invariant c.put_at.ensures
