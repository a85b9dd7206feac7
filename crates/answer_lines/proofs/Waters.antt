-- The line of `water`, from the enclosures at one temperature.
use Rattle.std.proofs.Common.{◌≡◌, ℕ, ◌+◌, ◌-◌, ◌*◌, ◌^◌, arith, subst, ℤ, pos, ◌+ℤ◌, ◌*ℤ◌, ◌≤ℤ◌, List, ◌++◌, codes, lit<}
use Rattle.std.specs.Fmt.{signed_decimal}
use Rattle.std.proofs.lemmas.Int.{ints}
use lib.IntN.{◌-ℤ◌}
use Rattle.number_model.specs.Fraction.{Fraction}
use Rattle.number_model.specs.Rounding.{floor_div, ceil_div}
use Rattle.number_model.specs.Enclosure.{Holds, SpanHolds}
use Rattle.platinum_model.specs.Element.{microdegrees}
use Rattle.water_model.specs.Water.{volume, enthalpy}
use Rattle.answer_lines.specs.Water.{AreDecimalEnds, IsWaterText}
use Rattle.answer_lines.proofs.Decimals.{low_end, high_end, ends_width}

-- t microdegrees are 1000 t nanodegrees
at_one_point : (t n : ℕ) → n ≡ 1000 * t → SpanHolds n n (microdegrees t)
at_one_point t n is = record {
  low = record { crossed = omega (arith, ints) };
  high = record { crossed = omega (arith, ints) };
}

volume_decimals : (lo hi d e : ℤ) (x : Fraction) → d ≡ floor_div (lo *ℤ pos (10 ^ 15)) (2 ^ 56) → e ≡ ceil_div (hi *ℤ pos (10 ^ 15)) (2 ^ 56) → Holds 56 lo hi x → ((hi -ℤ lo) *ℤ pos (10 ^ 15)) ≤ℤ pos (268 * 2 ^ 56) → AreDecimalEnds 15 d e x × (e ≤ℤ (d +ℤ pos (268 + 1)))
volume_decimals lo hi d e x down up holds width =
    let apart : e ≤ℤ (d +ℤ pos (268 + 1)) = ends_width 56 (10 ^ 15) 268 lo hi d e down up width in (
      record {
        low = record { crossed = (low_end 56 (10 ^ 15) lo d x (lit< tt) down holds.low).crossed };
        high = record { crossed = (high_end 56 (10 ^ 15) hi e x (lit< tt) up holds.high).crossed };
        width = omega (arith, ints);
      },
      apart,
    )

enthalpy_decimals : (lo hi d e : ℤ) (x : Fraction) → d ≡ floor_div (lo *ℤ pos (10 ^ 9)) (2 ^ 48) → e ≡ ceil_div (hi *ℤ pos (10 ^ 9)) (2 ^ 48) → Holds 48 lo hi x → ((hi -ℤ lo) *ℤ pos (10 ^ 9)) ≤ℤ pos (27 * 2 ^ 48) → AreDecimalEnds 9 d e x × (e ≤ℤ (d +ℤ pos (27 + 1)))
enthalpy_decimals lo hi d e x down up holds width =
    let apart : e ≤ℤ (d +ℤ pos (27 + 1)) = ends_width 48 (10 ^ 9) 27 lo hi d e down up width in (
      record {
        low = record { crossed = (low_end 48 (10 ^ 9) lo d x (lit< tt) down holds.low).crossed };
        high = record { crossed = (high_end 48 (10 ^ 9) hi e x (lit< tt) up holds.high).crossed };
        width = omega (arith, ints);
      },
      apart,
    )

pub water_text : (p q t n : ℕ) (a b d e v_lo v_hi h_lo h_hi : ℤ) (text : List ℕ) → q ≡ p → n ≡ 1000 * t
    → ((x : Fraction) → SpanHolds n n x → Holds 56 a b (volume q x)) → ((b -ℤ a) *ℤ pos (10 ^ 15)) ≤ℤ pos ((268 + 3 * (n - n)) * 2 ^ 56)
    → ((x : Fraction) → SpanHolds n n x → Holds 48 d e (enthalpy q x)) → ((e -ℤ d) *ℤ pos (10 ^ 9)) ≤ℤ pos ((27 + 116 * (n - n)) * 2 ^ 48)
    → v_lo ≡ floor_div (a *ℤ pos (10 ^ 15)) (2 ^ 56) → v_hi ≡ ceil_div (b *ℤ pos (10 ^ 15)) (2 ^ 56)
    → h_lo ≡ floor_div (d *ℤ pos (10 ^ 9)) (2 ^ 48) → h_hi ≡ ceil_div (e *ℤ pos (10 ^ 9)) (2 ^ 48)
    → text ≡ codes "v " ++ signed_decimal v_lo ++ codes " " ++ signed_decimal v_hi ++ codes " h " ++ signed_decimal h_lo ++ codes " " ++ signed_decimal h_hi ++ codes "\n"
    → IsWaterText p t text
water_text p q t n a b d e v_lo v_hi h_lo h_hi text same at v v_width h h_width v_down v_up h_down h_up is =
    let here : SpanHolds n n (microdegrees t) = at_one_point t n at in
    let v_narrow : ((b -ℤ a) *ℤ pos (10 ^ 15)) ≤ℤ pos (268 * 2 ^ 56) = omega (arith, ints) in
    let h_narrow : ((e -ℤ d) *ℤ pos (10 ^ 9)) ≤ℤ pos (27 * 2 ^ 48) = omega (arith, ints) in
    let volumes = volume_decimals a b v_lo v_hi (volume q (microdegrees t)) v_down v_up (v (microdegrees t) here) v_narrow in
    let enthalpies = enthalpy_decimals d e h_lo h_hi (enthalpy q (microdegrees t)) h_down h_up (h (microdegrees t) here) h_narrow in
    record {
      v_lo = v_lo;
      v_hi = v_hi;
      h_lo = h_lo;
      h_hi = h_hi;
      is = is;
      volume_ends = subst (λ k. AreDecimalEnds 15 v_lo v_hi (volume k (microdegrees t))) same volumes.0;
      enthalpy_ends = subst (λ k. AreDecimalEnds 9 h_lo h_hi (enthalpy k (microdegrees t))) same enthalpies.0;
      volume_closer = volumes.1;
      enthalpy_closer = enthalpies.1;
    }
