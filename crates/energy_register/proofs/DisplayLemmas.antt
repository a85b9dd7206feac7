-- How the text of a display is made, digit by digit.
use Rattle.std.proofs.Common.{◌≡◌, ℕ, zero, suc, ◌+◌, ◌-◌, ◌/◌, ◌%◌, ◌^◌, ◌<◌, ◌≤◌, ◌==◌, ◌&&◌, nat_lt, if◌then◌else◌, List, [], ◌∷◌, ◌++◌, length, refl, arith, lit≤, sym, ◌∙◌, ap, true, false, Bool, append_assoc, length-append, append-nil, subst}
use Rattle.display_model.specs.Display.{eight_digits, pointed}

pub power_bounds : (d : ℕ) → d ≤ 3 → (1 ≤ 10 ^ d) × (10 ^ d ≤ 1000)
power_bounds zero _ = (lit≤ tt, lit≤ tt)
power_bounds (suc zero) _ = (lit≤ tt, lit≤ tt)
power_bounds (suc (suc zero)) _ = (lit≤ tt, lit≤ tt)
power_bounds (suc (suc (suc zero))) _ = (lit≤ tt, lit≤ tt)
power_bounds (suc (suc (suc (suc d)))) h = absurd (omega arith)

pub power_positive : (d : ℕ) → 1 ≤ 10 ^ d
power_positive zero = lit≤ tt
power_positive (suc d) = let earlier = power_positive d in omega arith

-- the last so many digits, with the point where it stands before one of them
unfoldable pub last_digits : ℕ → ℕ → ℕ → List ℕ
last_digits n decimals zero = []
last_digits n decimals (suc place) =
    (48 + n / 10 ^ place % 10)
    ∷ (if nat_lt 0 place && (place == decimals) then 46 ∷ last_digits n decimals place else last_digits n decimals place)

pub last_digits-all : (n decimals : ℕ) → decimals ≤ 3 → last_digits n decimals 8 ≡ pointed decimals (eight_digits n)
unfolding last_digits
last_digits-all n zero _ = refl
last_digits-all n (suc zero) _ = refl
last_digits-all n (suc (suc zero)) _ = refl
last_digits-all n (suc (suc (suc zero))) _ = refl
last_digits-all n (suc (suc (suc (suc d)))) h = absurd (omega arith)

pub length-last_digits : (n decimals : ℕ) → decimals ≤ 3 → length (last_digits n decimals 8) ≤ 9
unfolding last_digits
length-last_digits n zero _ = lit≤ tt
length-last_digits n (suc zero) _ = lit≤ tt
length-last_digits n (suc (suc zero)) _ = lit≤ tt
length-last_digits n (suc (suc (suc zero))) _ = lit≤ tt
length-last_digits n (suc (suc (suc (suc d)))) h = absurd (omega arith)

-- the digits up to the place are written, and the rest has room
pub record IsWritten (n decimals place : ℕ) (bytes : List ℕ) : Type 0 where
  pub text : bytes ++ last_digits n decimals place ≡ pointed decimals (eight_digits n)
  pub room : length bytes + length (last_digits n decimals place) ≤ 9

pub IsWritten-none : (n decimals : ℕ) (bytes : List ℕ) → decimals ≤ 3 → bytes ≡ [] → IsWritten n decimals 8 bytes
IsWritten-none n decimals bytes few none = record {
  text = grind (arith, last_digits-all n decimals few, none);
  room = grind (arith, length-last_digits n decimals few, none);
}

pub last_digits-plain : (n decimals place : ℕ) → (nat_lt 0 place && (place == decimals)) ≡ false → last_digits n decimals (suc place) ≡ (48 + n / 10 ^ place % 10) ∷ last_digits n decimals place
unfolding last_digits
last_digits-plain n decimals place plain = rw plain refl

pub last_digits-point : (n decimals place : ℕ) → (nat_lt 0 place && (place == decimals)) ≡ true → last_digits n decimals (suc place) ≡ (48 + n / 10 ^ place % 10) ∷ 46 ∷ last_digits n decimals place
unfolding last_digits
last_digits-point n decimals place point = rw point refl

abbrev pub has_point : ℕ → ℕ → Bool
has_point decimals place = nat_lt 0 place && (place == decimals)

abbrev pub digit_at : ℕ → ℕ → ℕ
digit_at n place = 48 + n / 10 ^ place % 10

pub digit_room : (n decimals place : ℕ) (bytes : List ℕ) → IsWritten n decimals (suc place) bytes → length bytes + 1 ≤ 9
unfolding last_digits
digit_room n decimals place bytes old = omega (arith, old.room)

pub IsWritten-digit : (n decimals place : ℕ) (bytes new : List ℕ) → IsWritten n decimals (suc place) bytes → has_point decimals place ≡ false → new ≡ bytes ++ digit_at n place ∷ [] → IsWritten n decimals place new
IsWritten-digit n decimals place bytes new old plain written = record {
  text = grind (arith, old.text, last_digits-plain n decimals place plain, written, append_assoc);
  room = omega (arith, old.room, ap length (last_digits-plain n decimals place plain), ap length written, length-append {A = ℕ});
}

pub point_room : (n decimals place : ℕ) (bytes : List ℕ) → IsWritten n decimals (suc place) bytes → has_point decimals place ≡ true → length bytes + 2 ≤ 9
point_room n decimals place bytes old point = grind (arith, old.room, last_digits-point n decimals place point)

pub IsWritten-point : (n decimals place : ℕ) (bytes new : List ℕ) → IsWritten n decimals (suc place) bytes → has_point decimals place ≡ true → new ≡ (bytes ++ digit_at n place ∷ []) ++ 46 ∷ [] → IsWritten n decimals place new
IsWritten-point n decimals place bytes new old point written = record {
  text = grind (arith, old.text, last_digits-point n decimals place point, written, append_assoc);
  room = omega (arith, old.room, ap length (last_digits-point n decimals place point), ap length written, length-append {A = ℕ});
}

pub IsWritten-next : (n decimals place : ℕ) (bytes : List ℕ) → 0 < place → IsWritten n decimals place bytes → IsWritten n decimals (suc (place - 1)) bytes
IsWritten-next n decimals place bytes some old = let e : suc (place - 1) ≡ place = omega arith in rw e old

pub IsWritten-all : (n decimals place : ℕ) (bytes : List ℕ) → place ≡ 0 → IsWritten n decimals place bytes → bytes ≡ pointed decimals (eight_digits n)
unfolding last_digits
IsWritten-all n decimals place bytes all old =
    let P : ℕ → Type 0 = λ k. bytes ++ last_digits n decimals k ≡ pointed decimals (eight_digits n) in
    sym (append-nil bytes) ∙ subst P all old.text
