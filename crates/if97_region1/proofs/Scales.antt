-- Numbers from 0 to 1 at coarser scales.
use Rattle.std.proofs.Common.{◌-◌, ◌*◌, ◌^◌, arith, lit<, lit≤, ℤ, pos, neg_ℤ, ◌*ℤ◌, ◌≤ℤ◌}
use Rattle.std.proofs.lemmas.Int.{ints}
use Rattle.number_model.specs.Rounding.{floor_div, ceil_div}
use Rattle.number_model.proofs.Roundings.{le-floor_div, ceil_div-le}
use Rattle.enclosure_sizes.specs.Size.{Size, SizedBy, parts, down_size}
use Rattle.if97_region1.proofs.Facts.{coarser, room}

abbrev unit_size : Size
unit_size = record { most = 2 ^ 56; base = 2 ^ 56 * parts; per = 0 }

unit_sized : (lo hi : ℤ) → pos 0 ≤ℤ lo → hi ≤ℤ pos (2 ^ 56) → SizedBy unit_size 0 lo hi
unit_sized lo hi low high = record { low = omega (arith, ints, low); high = high; width = omega (arith, ints, low, high) }

pub room_at_48 : (lo hi : ℤ) → pos 0 ≤ℤ lo → hi ≤ℤ pos (2 ^ 56) → (neg_ℤ (pos (2 ^ 62 - 1)) ≤ℤ floor_div (lo *ℤ pos (2 ^ 48)) (2 ^ 56)) × (ceil_div (hi *ℤ pos (2 ^ 48)) (2 ^ 56) ≤ℤ pos (2 ^ 62 - 1))
room_at_48 lo hi low high = room (down_size (2 ^ 8) unit_size) 0 _ _ (lit≤ tt) (coarser 56 48 (lit≤ tt) unit_size 0 lo hi (unit_sized lo hi low high))

pub room_at_40 : (lo hi : ℤ) → pos 0 ≤ℤ lo → hi ≤ℤ pos (2 ^ 56) → (neg_ℤ (pos (2 ^ 62 - 1)) ≤ℤ floor_div (lo *ℤ pos (2 ^ 40)) (2 ^ 56)) × (ceil_div (hi *ℤ pos (2 ^ 40)) (2 ^ 56) ≤ℤ pos (2 ^ 62 - 1))
room_at_40 lo hi low high = room (down_size (2 ^ 16) unit_size) 0 _ _ (lit≤ tt) (coarser 56 40 (lit≤ tt) unit_size 0 lo hi (unit_sized lo hi low high))

pub one_at_48 : (hi : ℤ) → hi ≤ℤ pos (2 ^ 56) → ceil_div (hi *ℤ pos (2 ^ 48)) (2 ^ 56) ≤ℤ pos (2 ^ 48)
one_at_48 hi high = ceil_div-le (pos (2 ^ 48)) (hi *ℤ pos (2 ^ 48)) (2 ^ 56) (lit< tt) (omega (arith, ints, high))

pub one_at_40 : (hi : ℤ) → hi ≤ℤ pos (2 ^ 56) → ceil_div (hi *ℤ pos (2 ^ 40)) (2 ^ 56) ≤ℤ pos (2 ^ 40)
one_at_40 hi high = ceil_div-le (pos (2 ^ 40)) (hi *ℤ pos (2 ^ 40)) (2 ^ 56) (lit< tt) (omega (arith, ints, high))

pub zero_at_48 : (lo : ℤ) → pos 0 ≤ℤ lo → pos 0 ≤ℤ floor_div (lo *ℤ pos (2 ^ 48)) (2 ^ 56)
zero_at_48 lo low = le-floor_div (pos 0) (lo *ℤ pos (2 ^ 48)) (2 ^ 56) (lit< tt) (omega (arith, ints, low))

pub zero_at_40 : (lo : ℤ) → pos 0 ≤ℤ lo → pos 0 ≤ℤ floor_div (lo *ℤ pos (2 ^ 40)) (2 ^ 56)
zero_at_40 lo low = le-floor_div (pos 0) (lo *ℤ pos (2 ^ 40)) (2 ^ 56) (lit< tt) (omega (arith, ints, low))
