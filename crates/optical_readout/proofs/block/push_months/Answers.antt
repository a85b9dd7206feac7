use Rattle.std.specs.Iterator.Adapters.{rev_source}
use Rattle.std.specs.Slice.Iter.{iter_rest}
use Rattle.meter_config.specs.Views.{config_view}
use Rattle.optical_readout.proofs.EntryLines.{Written-more}
use Rattle.optical_readout.proofs.block.push_months.Goals as goal

pub loop-entry-preserved : goal.loop-entry-preserved
loop-entry-preserved c = (
  tt,
  tt,
  Written-more (config_view c.args.c.now) c.args.months.now (iter_rest (rev_source c.loop-entry.entry-iterator)) (iter_rest (rev_source c.next.new.self)) c.in-Some.entry.now _ c.loop-entry.message.items c.push_entry.new.message.items c.loop-entry.mark
      c.loop-entry.invariant.2 c.in-Some.ensures.steps c.push_entry.ensures,
)
