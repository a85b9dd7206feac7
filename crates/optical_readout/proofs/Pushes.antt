-- Texts that are appended one after the other.
use Rattle.std.proofs.Common.{◌≡◌, ℕ, ◌+◌, ◌≤◌, List, ◌++◌, length, arith, append_assoc, length-append, ap}
use Rattle.optical_readout.specs.Appends.{Appends}

pub three_texts : (x0 x1 x2 x3 a b c : List ℕ) → x1 ≡ x0 ++ a → x2 ≡ x1 ++ b → x3 ≡ x2 ++ c → x3 ≡ x0 ++ (a ++ b ++ c)
three_texts x0 x1 x2 x3 a b c pa pb pc = rw (pc, pb, pa) (simp append_assoc)

pub six_texts : (x0 x1 x2 x3 x4 x5 x6 a b c d e f : List ℕ)
    → x1 ≡ x0 ++ a → x2 ≡ x1 ++ b → x3 ≡ x2 ++ c → x4 ≡ x3 ++ d → x5 ≡ x4 ++ e → x6 ≡ x5 ++ f
    → x6 ≡ x0 ++ (a ++ b ++ c ++ d ++ e ++ f)
six_texts x0 x1 x2 x3 x4 x5 x6 a b c d e f pa pb pc pd pe pf = rw (pf, pe, pd, pc, pb, pa) (simp append_assoc)

-- what was appended is as long as the message grew
pub appended : {Kind : List ℕ → Type 0} (most : ℕ) (old new text : List ℕ) → Kind text → new ≡ old ++ text → length new ≤ length old + most → Appends Kind most old new
appended most old new text kind is grown = record {
  text = text;
  kind = kind;
  is = is;
  short = omega (arith, grown, ap length is, length-append old text);
}
