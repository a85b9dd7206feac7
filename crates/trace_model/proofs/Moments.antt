-- How the moments of a trace go on.
use Rattle.std.proofs.Common.{◌≡◌, inl, inr, sym, subst, refl}
use Rattle.trace_model.specs.Trace.{Trace, Start, ◌▷◌, base_of}
use Rattle.trace_model.specs.Moments.{IsPrefix, Grew, same, more}

-- two stretches make one
pub Grew-then : {P : Trace → Type 0} {a b c : Trace} → Grew P a b → Grew P b c → Grew P a c
Grew-then f same = f
Grew-then f (more g here) = more (Grew-then f g) here

-- what holds at each new moment may be said more weakly
pub Grew-weaker : {P Q : Trace → Type 0} {a b : Trace} → ((t : Trace) → P t → Q t) → Grew P a b → Grew Q a b
Grew-weaker w same = same
Grew-weaker w (more {t} {e} g here) = more (Grew-weaker w g) (w (t ▷ e) here)

-- at every prefix of the trace
pub Grew-prefix : {P : Trace → Type 0} {a b : Trace} → ((p : Trace) → IsPrefix p a → P p) → Grew P a b → (p : Trace) → IsPrefix p b → P p
Grew-prefix at_old same p before = at_old p before
Grew-prefix {P} at_old (more {t} {e} g here) p (inl last) = subst P (sym last) here
Grew-prefix at_old (more {t} {e} g here) p (inr before) = Grew-prefix at_old g p before

-- what held at the start and at each new moment holds now
pub Grew-now : {P : Trace → Type 0} {a b : Trace} → P a → Grew P a b → P b
Grew-now start same = start
Grew-now start (more g here) = here

-- the trace that was reached, under another name
pub Grew-is : {P : Trace → Type 0} {a b c : Trace} → Grew P a b → c ≡ b → Grew P a c
Grew-is {P} {a} g e = subst (Grew P a) (sym e) g

-- the base stays
pub Grew-base : {P : Trace → Type 0} {a b : Trace} → Grew P a b → base_of b ≡ base_of a
Grew-base same = refl
Grew-base (more g here) = Grew-base g

-- a trace stands among its own moments
pub IsPrefix-self : (t : Trace) → IsPrefix t t
IsPrefix-self (Start base) = refl
IsPrefix-self (t ▷ e) = inl refl

-- a moment of a moment
pub IsPrefix-then : (p q t : Trace) → IsPrefix p q → IsPrefix q t → IsPrefix p t
IsPrefix-then p q (Start base) first last = subst (IsPrefix p) last first
IsPrefix-then p q (t ▷ e) first (inl last) = subst (IsPrefix p) last first
IsPrefix-then p q (t ▷ e) first (inr before) = inr (IsPrefix-then p q t first before)
