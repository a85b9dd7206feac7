use Rattle.std.proofs.Common.{◌≡◌, ◌≢◌, ◌++◌, ℕ, List, Option, Bor, subst}
use Rattle.std.specs.Prelude.{MatchOption}
use Rattle.std.proofs.lemmas.Bool.Decides.{Decides-eqb}
use Rattle.std.proofs.lemmas.Slice.Eq.{strip_prefix_is}
use Rattle.event_script.proofs.Pulses.{pulses_said}
use Rattle.event_script.proofs.read.pulses_of.Goals as goal

pub returns-in-Some-clause-said : goal.returns-in-Some-clause-said
returns-in-Some-clause-said c =
    let line = c.args.line.now in
    let name = c.as_slice.result.now in
    let is : line ≡ name ++ c.in-Some.word.now = subst (λ (o : Option (Bor (List ℕ))). MatchOption o ((rest : List ℕ) → line ≢ name ++ rest) (λ word. line ≡ name ++ word.now)) c.in-Some.is (strip_prefix_is Decides-eqb line name c.strip_prefix.result c.strip_prefix.ensures.cases) in
    pulses_said line c.in-Some.word.now c.number_word.result (subst (λ bytes. line ≡ bytes ++ c.in-Some.word.now) c.as_slice.ensures is) c.number_word.ensures.value
