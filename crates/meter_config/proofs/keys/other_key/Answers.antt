use Rattle.std.proofs.Common.{◌≡◌, ◌≤◌, ◌∙◌, ℕ, Option, Some, sym, subst, arith}
use Rattle.std.specs.Prelude.{IfSome}
use Rattle.meter_config.proofs.Names.{other_key-view, few-view}
use Rattle.meter_config.proofs.keys.other_key.Goals as goal

at_most_thirteen : (o : Option ℕ) (place : ℕ) → IfSome o (λ n. n ≤ 13) → Some place ≡ o → place ≤ 13
at_most_thirteen o place few is =
    let P : Option ℕ → Type 0 = λ r. IfSome r (λ n. n ≤ 13) in
    subst P (sym is) few

pub overflow_cast-result : goal.overflow_cast-result
overflow_cast-result c =
    let few : c.in-Some.place ≤ 13 = at_most_thirteen _ _ (few-view c.args.object.now.entries c.first_other.ensures.ordered) (c.in-Some.ensures.place ∙ sym (other_key-view c.args.object.now.entries)) in
    omega arith

pub returns-in-Some : goal.returns-in-Some
returns-in-Some c = c.in-Some.ensures.place ∙ sym (other_key-view c.args.object.now.entries)

pub returns-in-None : goal.returns-in-None
returns-in-None c = c.in-None.ensures.place ∙ sym (other_key-view c.args.object.now.entries)
