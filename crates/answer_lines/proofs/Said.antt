-- What holds of all that a reader says, where something is said.
use Rattle.std.proofs.Common.{Bool, true, false, if◌then◌else◌, ℕ, Result, Ok, Err}
use Rattle.std.specs.Prelude.{IfOk}
use Rattle.script_model.specs.Grammar.{◌>>=◌}

pub ok_any : {A : Type 0} (said : Result A ℕ) → IfOk said (λ x. Unit {0})
ok_any (Ok x) = tt
ok_any (Err left) = tt

pub ok_both : {A B : Type 0} (P : A → Type 0) (Q : B → Type 0) (said : Result A ℕ) (more : A → Result B ℕ) → IfOk said P → ((x : A) → P x → IfOk (more x) Q) → IfOk (said >>= more) Q
ok_both P Q (Ok x) more first behind = behind x first
ok_both P Q (Err left) more first behind = tt

pub ok_if : {A : Type 0} (P : A → Type 0) (b : Bool) (said other : Result A ℕ) → IfOk said P → IfOk other P → IfOk (if b then said else other) P
ok_if P true said other first second = first
ok_if P false said other first second = second
