-- The bytes of an entry and of a record's sums, as they are written.
use Rattle.std.proofs.Common.{◌≡◌, ℕ, ◌*◌, ◌^◌, ◌<◌, ◌≤◌, ℤ, pos, negsuc, FitsSigned, List, [], ◌∷◌, get_or, nat_abs, arith}
use Rattle.std.specs.Int.{w16, w32, w64, w128, to_le_bytes, cast_unsigned}
use Rattle.metering_model.specs.Limits.{max_energy_per_pulse, max_pulses}
use Rattle.metering_model.specs.Records as records
use Rattle.calendar_model.specs.Entries.{MonthEntry}
use Rattle.energy_register.specs.declared.Register.{Register}
use Rattle.state_codec.specs.Slot.{entry_bytes, sum_bytes, flow_of, return_of}

small_energy : (z : ℤ) (pulses : ℕ) → nat_abs z ≤ max_energy_per_pulse * pulses → pulses ≤ max_pulses → FitsSigned w128 z
small_energy (pos n) pulses within few = record { sfits = omega arith }
small_energy (negsuc n) pulses within few = record { sfits = omega arith }

pub energy_fits : (r : Register) → FitsSigned w128 r.energy_mj
energy_fits r = small_energy r.energy_mj r.pulses r.energy_in_range r.pulses_in_range

small_bits : (z : ℤ) (pulses : ℕ) → nat_abs z ≤ max_energy_per_pulse * pulses → pulses ≤ max_pulses → cast_unsigned w128 z < 2 ^ 128
small_bits (pos n) pulses within few = omega arith
small_bits (negsuc n) pulses within few = omega arith

pub energy_bits : (r : Register) → cast_unsigned w128 r.energy_mj < 2 ^ 128
energy_bits r = small_bits r.energy_mj r.pulses r.energy_in_range r.pulses_in_range

abbrev entry_text : (d p e b : List ℕ) → List ℕ
entry_text d p e b = get_or d 0 0 ∷ get_or d 1 0 ∷ 0 ∷ 0 ∷ 0 ∷ 0 ∷ 0 ∷ 0 ∷ get_or p 0 0 ∷ get_or p 1 0 ∷ get_or p 2 0 ∷ get_or p 3 0 ∷ get_or p 4 0 ∷ get_or p 5 0 ∷ get_or p 6 0 ∷ get_or p 7 0 ∷ get_or e 0 0 ∷ get_or e 1 0 ∷ get_or e 2 0 ∷ get_or e 3 0 ∷ get_or e 4 0 ∷ get_or e 5 0 ∷ get_or e 6 0 ∷ get_or e 7 0 ∷ get_or e 8 0 ∷ get_or e 9 0 ∷ get_or e 10 0 ∷ get_or e 11 0 ∷ get_or e 12 0 ∷ get_or e 13 0 ∷ get_or e 14 0 ∷ get_or e 15 0 ∷ get_or b 0 0 ∷ get_or b 1 0 ∷ get_or b 2 0 ∷ get_or b 3 0 ∷ get_or b 4 0 ∷ get_or b 5 0 ∷ get_or b 6 0 ∷ get_or b 7 0 ∷ get_or b 8 0 ∷ get_or b 9 0 ∷ get_or b 10 0 ∷ get_or b 11 0 ∷ get_or b 12 0 ∷ get_or b 13 0 ∷ get_or b 14 0 ∷ get_or b 15 0 ∷ []

pub entry_spelled : (x : MonthEntry records.Register) (d p e b : List ℕ) → d ≡ to_le_bytes w16 x.day → p ≡ to_le_bytes w64 x.register.pulses → e ≡ to_le_bytes w128 (cast_unsigned w128 x.register.energy_mj) → b ≡ to_le_bytes w128 x.register.bound_mj → entry_text d p e b ≡ entry_bytes x
unfolding entry_bytes
entry_spelled x d p e b dd pp ee bb = λ i. entry_text (dd i) (pp i) (ee i) (bb i)

-- ---- the sums of a record

abbrev sums_text : (s t f p e b : List ℕ) → List ℕ
sums_text s t f p e b = get_or s 0 0 ∷ get_or s 1 0 ∷ get_or s 2 0 ∷ get_or s 3 0 ∷ get_or t 0 0 ∷ get_or t 1 0 ∷ get_or t 2 0 ∷ get_or t 3 0 ∷ get_or f 0 0 ∷ get_or f 1 0 ∷ get_or f 2 0 ∷ get_or f 3 0 ∷ get_or f 4 0 ∷ get_or f 5 0 ∷ get_or f 6 0 ∷ get_or f 7 0 ∷ get_or p 0 0 ∷ get_or p 1 0 ∷ get_or p 2 0 ∷ get_or p 3 0 ∷ get_or p 4 0 ∷ get_or p 5 0 ∷ get_or p 6 0 ∷ get_or p 7 0 ∷ get_or e 0 0 ∷ get_or e 1 0 ∷ get_or e 2 0 ∷ get_or e 3 0 ∷ get_or e 4 0 ∷ get_or e 5 0 ∷ get_or e 6 0 ∷ get_or e 7 0 ∷ get_or e 8 0 ∷ get_or e 9 0 ∷ get_or e 10 0 ∷ get_or e 11 0 ∷ get_or e 12 0 ∷ get_or e 13 0 ∷ get_or e 14 0 ∷ get_or e 15 0 ∷ get_or b 0 0 ∷ get_or b 1 0 ∷ get_or b 2 0 ∷ get_or b 3 0 ∷ get_or b 4 0 ∷ get_or b 5 0 ∷ get_or b 6 0 ∷ get_or b 7 0 ∷ get_or b 8 0 ∷ get_or b 9 0 ∷ get_or b 10 0 ∷ get_or b 11 0 ∷ get_or b 12 0 ∷ get_or b 13 0 ∷ get_or b 14 0 ∷ get_or b 15 0 ∷ []

pub sums_spelled : (x : records.MeterRecord) (s t f p e b : List ℕ) → s ≡ to_le_bytes w32 (flow_of x.samples) → t ≡ to_le_bytes w32 (return_of x.samples) → f ≡ to_le_bytes w64 x.faulty → p ≡ to_le_bytes w64 x.register.pulses → e ≡ to_le_bytes w128 (cast_unsigned w128 x.register.energy_mj) → b ≡ to_le_bytes w128 x.register.bound_mj → sums_text s t f p e b ≡ sum_bytes x
unfolding sum_bytes
sums_spelled x s t f p e b ss tt' ff pp ee bb = λ i. sums_text (ss i) (tt' i) (ff i) (pp i) (ee i) (bb i)
