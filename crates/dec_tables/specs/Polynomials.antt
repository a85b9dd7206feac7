-- Lists of enclosed coefficients: what they hold, their sizes, and the ends of a polynomial.
use Rattle.std.specs.Prelude.{◌≡◌, ℕ, max, ◌^◌, unsigned_abs, ℤ, pos, ◌+ℤ◌, ◌≤ℤ◌, List, [], ◌∷◌, slice_get, Some}
use Rattle.number_model.specs.Fraction.{Fraction}
use Rattle.number_model.specs.Enclosure.{Holds}
use Rattle.number_model.specs.Rounding.{floor_div, ceil_div}
use Rattle.interval_num.specs.declared.enc.Enc.{Enc}
use Rattle.interval_num.specs.Ends.{least_product, greatest_product}
use Rattle.enclosure_sizes.specs.Size.{Size, SizedBy}

-- the greatest magnitude of an end
abbrev pub magnitude : {s : ℕ} → Enc s → ℕ
magnitude e = max (unsigned_abs e.lo) (unsigned_abs e.hi)

-- the k-th enclosure holds c k
abbrev pub HoldsEach : (s : ℕ) → List (Enc s) → (ℕ → Fraction) → Type 0
HoldsEach s es c = (k : ℕ) (e : Enc s) → slice_get es k ≡ Some e → Holds s e.lo e.hi (c k)

-- the k-th enclosure is at most w k wide
abbrev pub WidthEach : (s : ℕ) → List (Enc s) → (ℕ → ℕ) → Type 0
WidthEach s es w = (k : ℕ) (e : Enc s) → slice_get es k ≡ Some e → e.hi ≤ℤ (e.lo +ℤ pos (w k))

-- the k-th enclosure has the size f k
abbrev pub SizedEach : (s : ℕ) → List (Enc s) → (ℕ → Size) → Type 0
SizedEach s es f = (k : ℕ) (e : Enc s) → slice_get es k ≡ Some e → (d : ℕ) → SizedBy (f k) d e.lo e.hi

-- the ends of H(0), where H(k) = coef(k) + z * H(k + 1), and 0 behind the last coefficient
unfoldable pub horner_ends : (s : ℕ) (zl zh : ℤ) → List (Enc s) → ℤ × ℤ
horner_ends s zl zh [] = (pos 0, pos 0)
horner_ends s zl zh (c ∷ cs) =
    let h = horner_ends s zl zh cs in
    (c.lo +ℤ floor_div (least_product zl zh h.0 h.1) (2 ^ s), c.hi +ℤ ceil_div (greatest_product zl zh h.0 h.1) (2 ^ s))
