-- The conditions of a term, and the size of its coefficient.
use Rattle.std.proofs.Common.{◌≡◌, ℕ, suc, ◌+◌, ◌-◌, ◌*◌, ◌/◌, ◌^◌, ◌≤◌, arith, ℤ, pos, negsuc, neg_ℤ, ◌+ℤ◌, ◌≤ℤ◌, unsigned_abs, true, nat_le}
use Rattle.std.proofs.lemmas.Int.{ints}
use Rattle.std.proofs.lemmas.Bool.{and_parts, leb-true}
use Rattle.std.specs.Prelude.{IsTrue, ◌&&◌}
use native.Mathlib.Nat.{div-le_of_le-mul}
use Rattle.number_model.specs.Fraction.{◌*ℚ◌, whole}
use Rattle.number_model.specs.Enclosure.{Holds}
use Rattle.water_model.specs.Decimal.{decimal}
use Rattle.dec_tables.specs.declared.table.Term.{Term}
use Rattle.dec_tables.specs.Coefficients.{coefficient_of}
use Rattle.enclosure_sizes.specs.Size.{SizedBy}
use Rattle.enclosure_sizes.proofs.Sizes.{Sized-near}
use Rattle.dec_tables.specs.Sizes.{decimal_most, decimal_fits}
use Rattle.dec_tables.proofs.Scaling.{enclosed_ends}
use Rattle.region1_terms.specs.Monomial.{fits, y_shift, coefficient_size}

-- what `fits` tests
pub record Fits (t : Term) : Type 0 where
  pub i : t.i ≤ 64
  pub j : unsigned_abs t.j ≤ 48
  pub least : 56 ≤ 3 * t.i + y_shift t.j
  pub most : 3 * t.i + y_shift t.j ≤ 152
  pub room : decimal_fits (unsigned_abs t.mantissa) t.exp10 (3 * t.i + y_shift t.j) ≡ true

pub Fits-fits : (t : Term) → IsTrue (fits t) → Fits t
unfolding fits
Fits-fits t h =
    let p = and_parts (nat_le t.i 64 && nat_le (unsigned_abs t.j) 48 && nat_le 56 (3 * t.i + y_shift t.j) && nat_le (3 * t.i + y_shift t.j) 152) (decimal_fits (unsigned_abs t.mantissa) t.exp10 (3 * t.i + y_shift t.j)) h in
    let q = and_parts (nat_le t.i 64 && nat_le (unsigned_abs t.j) 48 && nat_le 56 (3 * t.i + y_shift t.j)) (nat_le (3 * t.i + y_shift t.j) 152) p.0 in
    let r = and_parts (nat_le t.i 64 && nat_le (unsigned_abs t.j) 48) (nat_le 56 (3 * t.i + y_shift t.j)) q.0 in
    let s = and_parts (nat_le t.i 64) (nat_le (unsigned_abs t.j) 48) r.0 in
    record { i = leb-true _ _ s.0; j = leb-true _ _ s.1; least = leb-true _ _ r.1; most = leb-true _ _ q.1; room = p.1 }

-- the size of the enclosed coefficient
pub room_most : (m k : ℕ) (e : ℤ) → decimal_fits m e k ≡ true → decimal_most m e k ≤ 2 ^ 61 + 1
room_most m k (pos e) h = let f : m * 10 ^ e * 2 ^ k ≤ 2 ^ 61 = leb-true _ _ h in omega (arith, f)
room_most m k (negsuc e) h =
    let f : m * 2 ^ k ≤ 2 ^ 61 * 10 ^ suc e = leb-true _ _ h in
    let g : m * 2 ^ k / 10 ^ suc e ≤ 2 ^ 61 = div-le_of_le-mul (10 ^ suc e) (omega (arith, f)) in
    omega (arith, g)

coefficient_ends : (m e lo hi : ℤ) (up k : ℕ) → up + 56 ≡ k → Holds 56 lo hi (decimal m e *ℚ whole (2 ^ up)) → (lo ≤ℤ pos (decimal_most (unsigned_abs m) e k)) × (neg_ℤ (pos (decimal_most (unsigned_abs m) e k)) ≤ℤ hi)
coefficient_ends m e lo hi up k h p =
    let turned : 56 + up ≡ k = omega (arith, h) in
    rw turned at (enclosed_ends 56 up m e lo hi p)

pub Sized-coefficient : (t : Term) (lo hi : ℤ) (up d : ℕ) → up + 56 ≡ 3 * t.i + y_shift t.j → hi ≤ℤ (lo +ℤ pos 4) → Holds 56 lo hi (coefficient_of t *ℚ whole (2 ^ up)) → SizedBy (coefficient_size t) d lo hi
Sized-coefficient t lo hi up d h w p =
    let ends = coefficient_ends t.mantissa t.exp10 lo hi up (3 * t.i + y_shift t.j) h p in
    Sized-near _ 4 d lo hi ends.0 ends.1 w

pub coefficient_range : (t : Term) (lo hi : ℤ) (up : ℕ) → up + 56 ≡ 3 * t.i + y_shift t.j → decimal_fits (unsigned_abs t.mantissa) t.exp10 (3 * t.i + y_shift t.j) ≡ true → hi ≤ℤ (lo +ℤ pos 4) → Holds 56 lo hi (coefficient_of t *ℚ whole (2 ^ up))
    → (neg_ℤ (pos (2 ^ 62 - 1)) ≤ℤ lo) × (hi ≤ℤ pos (2 ^ 62 - 1))
coefficient_range t lo hi up h room w p =
    let ends = coefficient_ends t.mantissa t.exp10 lo hi up (3 * t.i + y_shift t.j) h p in
    let most = room_most (unsigned_abs t.mantissa) (3 * t.i + y_shift t.j) t.exp10 room in
    (omega (arith, ints, ends.1, most, w), omega (arith, ints, ends.0, most, w))
