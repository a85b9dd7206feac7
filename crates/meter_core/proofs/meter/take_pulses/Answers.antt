use Rattle.std.proofs.Common.{refl, arith}
use Rattle.billing_memory.specs.Entries.{pulses_of, entries_view}
use Rattle.billing_memory.proofs.RuleLemmas.{never_falls-more}
use Rattle.meter_core.proofs.Records.{pulses_taken}
use Rattle.meter_core.proofs.meter.take_pulses.Goals as goal

pub overflow_add-m : goal.overflow_add-m
overflow_add-m c = omega (arith, c.args.m.now.faulty_in_range, c.args.m.now.register.pulses_in_range, c.add-step.ensures.adds.few, c.requires.most)

pub invariant_of-m-clause-pulses_in_order : goal.invariant_of-m-clause-pulses_in_order
invariant_of-m-clause-pulses_in_order c = never_falls-more c.args.m.now.register.pulses c.in-Ok.register.pulses (pulses_of (entries_view c.args.m.now.months.items)) (omega (arith, c.in-Ok.ensures.grown.pulses)) c.args.m.now.pulses_in_order

pub returns-clause-takes : goal.returns-clause-takes
returns-clause-takes c = λ s keep litres force.
    pulses_taken s c.args.m.now c.args.n c.add-step.result c.in-Ok.register keep c.requires.room (c.in-Ok.ensures.room.0 refl) (c.add-step.ensures.adds.step s c.args.m.now.samples litres force) c.in-Ok.ensures.grown
