use Rattle.std.proofs.Common.{arith}
use Rattle.billing_memory.specs.Entries.{pulses_of, entries_view}
use Rattle.billing_memory.proofs.RuleLemmas.{never_falls-more}
use Rattle.memory_tests.proofs.hostile.count.Goals as goal

pub invariant_of-m-clause-pulses_in_order : goal.invariant_of-m-clause-pulses_in_order
invariant_of-m-clause-pulses_in_order c = never_falls-more c.args.m.now.register.pulses c.in-Ok.register.pulses (pulses_of (entries_view c.args.m.now.months.items)) (omega (arith, c.in-Ok.ensures.grown.pulses)) c.args.m.now.pulses_in_order
