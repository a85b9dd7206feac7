use Rattle.std.proofs.Common.{◌∙◌, refl, sym, subst}
use Rattle.mbus_records.specs.Readings.{AsksNext}
use Rattle.mbus_records.proofs.Steps.{advanced_after}
use Rattle.mbus_records.proofs.slave.Slave.take_request.Goals as goal

pub returns : goal.returns
returns c = λ config past h before is in_force.
    let asked = subst (λ o. AsksNext o h.in_force c.next.result) c.take.ensures.value (subst (λ m. AsksNext c.take.result m c.next.result) (sym in_force) c.next.ensures.asked) in
    advanced_after config past h c.args.control c.args.self.now _ c.next.result before is (sym c.repeats.ensures ∙ c.if-repeats.false) c.next.ensures.control asked refl refl
