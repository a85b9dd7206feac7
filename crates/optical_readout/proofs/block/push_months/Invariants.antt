use Rattle.std.specs.Iterator.Adapters.{rev_source}
use Rattle.std.specs.Slice.Iter.{iter_rest}
use Rattle.meter_config.specs.Views.{config_view}
use Rattle.optical_readout.proofs.EntryLines.{Written}
use Rattle.optical_readout.proofs.block.push_months.Given as goal

abbrev pub invariant-loop-entry : goal.invariant-loop-entry
invariant-loop-entry l =
    (goal.iterator-loop-entry).can_next l.entry-iterator
    × (goal.iterator-loop-entry).is_finite l.entry-iterator
    × Written (config_view l.c) l.months (iter_rest (rev_source l.entry-iterator)) l.initial.message.items l.message.items l.mark
