use Rattle.std.proofs.Common.{◌≡◌, true, false, drop, sym, subst, refl, ◌==◌, inl, inr, Some, None}
use Rattle.std.proofs.lemmas.List.{take_rest}
use Rattle.std.specs.List.{position}
use Rattle.event_script.proofs.Ends.{ends-later, ends-position, no_end-later, no_end-position, opens}
use Rattle.event_script.proofs.next.first_len.Goals as goal

pub returns-in-Some : goal.returns-in-Some
returns-in-Some c =
    let held = c.args.held.now in
    let at : position (λ d. d == 10) (drop c.args.looked held) ≡ Some c.in-Some.at = subst (λ xs. position (λ d. d == 10) xs ≡ Some c.in-Some.at) (take_rest held c.args.looked) (sym c.in-Some.ensures) in
    inl (ends-later held c.args.looked c.in-Some.at c.requires.clear (ends-position (drop c.args.looked held) c.in-Some.at at))

pub returns-then-are_too_many : goal.returns-then-are_too_many
returns-then-are_too_many c =
    let held = c.args.held.now in
    let none : position (λ d. d == 10) (drop c.args.looked held) ≡ None = subst (λ xs. position (λ d. d == 10) xs ≡ None) (take_rest held c.args.looked) (sym c.in_default.ensures) in
    inr (no_end-later held c.args.looked c.requires.clear (no_end-position (drop c.args.looked held) none), refl, c.if-are_too_many.ensures.0 refl)

pub returns : goal.returns
returns c =
    let held = c.args.held.now in
    let none : position (λ d. d == 10) (drop c.args.looked held) ≡ None = subst (λ xs. position (λ d. d == 10) xs ≡ None) (take_rest held c.args.looked) (sym c.in_default.ensures) in
    opens c.args.given held (no_end-later held c.args.looked c.requires.clear (no_end-position (drop c.args.looked held) none)) (λ many. let e : false ≡ true = c.if-are_too_many.ensures.1 many in absurd cc)
