use Rattle.std.proofs.Common.{arith}
use Rattle.register_store.proofs.Offsets.{within_slot}
use Rattle.register_store.proofs.loading.load_slot.Goals as goal

pub overflow_add-result : goal.overflow_add-result
overflow_add-result g c =
    omega (arith, within_slot c.load.new.into c.in-Err.foreign.at c.in-Err.ensures, c.slot_place-place.ensures.low)
