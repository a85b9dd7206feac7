-- A frame has one spelling, and two frames never share one.
use Rattle.std.proofs.Common.{◌≡◌, ◌∙◌, ℕ, List, [], ◌∷◌, length, take, refl, sym, ap, arith}
use Rattle.std.proofs.lemmas.List.{take_at, length-append}
use Rattle.frame_model.specs.Frames.{Frame, Ack, Short, Long, checksum, closed, Spells}

-- what bytes are closed can be read off the closed ones
closed-same : (xs ys : List ℕ) → closed xs ≡ closed ys → xs ≡ ys
closed-same xs ys e =
    let as_long : length xs ≡ length ys = omega (arith, ap length e, length-append xs (checksum xs ∷ 22 ∷ []), length-append ys (checksum ys ∷ 22 ∷ [])) in
    sym (take_at xs (checksum xs ∷ 22 ∷ []) (length xs) refl) ∙ ap (take (length xs)) e ∙ take_at ys (checksum ys ∷ 22 ∷ []) (length xs) (sym as_long)

pub one_frame : (f g : Frame) (bytes : List ℕ) → Spells f bytes → Spells g bytes → f ≡ g
one_frame Ack Ack bytes p q = refl
one_frame Ack (Short c a) bytes p q = cc
one_frame Ack (Long c a ci body) bytes p q = cc
one_frame (Short c a) Ack bytes p q = cc
one_frame (Short c a) (Short d b) bytes p q =
    let same : closed (c ∷ a ∷ []) ≡ closed (d ∷ b ∷ []) = cc in
    let e = closed-same (c ∷ a ∷ []) (d ∷ b ∷ []) same in
    cc
one_frame (Short c a) (Long d b i body) bytes p q = cc
one_frame (Long c a ci body) Ack bytes p q = cc
one_frame (Long c a ci body) (Short d b) bytes p q = cc
one_frame (Long c a ci body) (Long d b i text) bytes p q =
    let same : closed (c ∷ a ∷ ci ∷ body) ≡ closed (d ∷ b ∷ i ∷ text) = cc in
    let e = closed-same (c ∷ a ∷ ci ∷ body) (d ∷ b ∷ i ∷ text) same in
    cc
