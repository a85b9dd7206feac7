-- Sums modulo 256, and what closed bytes are the frame of.
use Rattle.std.proofs.Common.{◌≡◌, ◌∙◌, ℕ, ◌+◌, ◌-◌, ◌%◌, ◌≤◌, ◌<◌, List, [], ◌∷◌, length, get_or, drop, take, refl, sym, subst, arith, Option, Some, None}
use Rattle.std.specs.Prelude.{IfSome}
use Rattle.std.specs.List.{fold}
use Rattle.std.proofs.lemmas.List.Folds.{fold_along}
use Rattle.std.proofs.lemmas.List.{take_all}
use Rattle.frame_model.specs.Frames.{Frame, Ack, Short, Long, checksum, closed, Spells}
use Rattle.byte_model.specs.Bytes.{AreBytes}
use Rattle.frame_model.proofs.Frames.{one_frame}
use Rattle.mbus_link.specs.Views.{Parses, frame_view}
use Rattle.mbus_link.specs.declared.frame.Frame as link

-- reducing at each byte is reducing once
pub summed : (bytes : List ℕ) → fold (λ a x. (a + x) % 256) 0 bytes ≡ checksum bytes
summed bytes = fold_along (λ a x. (a + x) % 256) (λ a x. a + x) (λ b c. b ≡ c % 256) (λ b c x e. omega arith) 0 0 bytes refl

-- three bytes and what is behind them, closed behind 68, their number twice and 68, are a long frame
pub long_spelled : (len again : ℕ) (rest counted body : List ℕ) → len ≡ again → len < 256 → len ≡ length counted → 3 ≤ length counted → AreBytes counted → rest ≡ closed counted
    → body ≡ take (length counted - 3) (drop 3 counted) → Spells (Long (get_or counted 0 0) (get_or counted 1 0) (get_or counted 2 0) body) (104 ∷ len ∷ again ∷ 104 ∷ rest)
long_spelled len again rest [] body same fits size many bytes is b = absurd (omega arith)
long_spelled len again rest (c ∷ []) body same fits size many bytes is b = absurd (omega arith)
long_spelled len again rest (c ∷ a ∷ []) body same fits size many bytes is b = absurd (omega arith)
long_spelled len again rest (c ∷ a ∷ ci ∷ xs) body same fits size many bytes is b =
    let e : body ≡ xs = b ∙ take_all _ xs (omega arith) in
    let two : again ≡ length (c ∷ a ∷ ci ∷ xs) = sym same ∙ size in
    subst (λ (l : List ℕ). Spells (Long c a ci l) (104 ∷ len ∷ again ∷ 104 ∷ rest)) (sym e) ((bytes, omega arith), λ i. 104 ∷ size i ∷ two i ∷ 104 ∷ is i)

first : (a b : ℕ) (xs ys : List ℕ) → a ∷ xs ≡ b ∷ ys → a ≡ b
first a b xs ys e = cc

behind : (a b : ℕ) (xs ys : List ℕ) → a ∷ xs ≡ b ∷ ys → xs ≡ ys
behind a b xs ys e = cc

differ : (a b : ℕ) (xs ys : List ℕ) → ¬ (a ≡ b) → ¬ (a ∷ xs ≡ b ∷ ys)
differ a b xs ys other e = other (first a b xs ys e)

-- bytes behind 10 spell a short frame alone
pub only_short : (rest : List ℕ) → ((c a : ℕ) → ¬ (rest ≡ closed (c ∷ a ∷ []))) → (f : Frame) → ¬ (Spells f (16 ∷ rest))
only_short rest never Ack s = differ _ _ _ _ (λ e. omega arith) s.1
only_short rest never (Short c a) s = never c a (behind _ _ _ _ s.1)
only_short rest never (Long c a ci body) s = differ _ _ _ _ (λ e. omega arith) s.1

-- bytes behind 68, two lengths and 68 spell a long frame alone
pub only_long : (len again : ℕ) (rest : List ℕ)
    → ((counted : List ℕ) → 3 ≤ length counted → len ≡ length counted → again ≡ length counted → ¬ (rest ≡ closed counted))
    → (f : Frame) → ¬ (Spells f (104 ∷ len ∷ again ∷ 104 ∷ rest))
only_long len again rest never Ack s = differ _ _ _ _ (λ e. omega arith) s.1
only_long len again rest never (Short c a) s = differ _ _ _ _ (λ e. omega arith) s.1
only_long len again rest never (Long c a ci body) s =
    let one = behind _ _ _ _ s.1 in
    let two = behind _ _ _ _ one in
    let three = behind _ _ _ _ two in
    never (c ∷ a ∷ ci ∷ body) (omega arith) (first _ _ _ _ one) (first _ _ _ _ two) (behind _ _ _ _ three)

-- where bytes spell a frame, they spell no other
pub no_other : (r : Option link.Frame) (bytes : List ℕ) → Parses bytes r → IfSome r (λ f. (other : Frame) → Spells other bytes → other ≡ frame_view f)
no_other None bytes p = tt
no_other (Some f) bytes p = λ other s. one_frame other (frame_view f) bytes s p
