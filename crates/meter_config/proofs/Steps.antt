-- What a part of the reading gives, for the whole.
use Rattle.std.proofs.Common.{◌≡◌, ℕ, ◌≤◌, List, length, Some, None, Result, Ok, Err, inl, inr, refl, ◌∙◌}
use Rattle.std.specs.Prelude.{IfOk, IfErr, ◌≢◌}
use Rattle.std.specs.Str.{IsUtf8, is_utf8}
use Rattle.std.proofs.lemmas.Bool.{cases_Bool, le-ltb}
use Rattle.std.proofs.lemmas.Str.{IsUtf8-from_is_utf8, is_utf8-from_IsUtf8}
use Rattle.serde_json.specs.Data.{Data}
use Rattle.serde_json.specs.Read.{read}
use Rattle.accept_model.specs.Accepted.{Fault, accepted, of_value, value_of}
use Rattle.accept_model.specs.Accepted as model
use Rattle.meter_config.specs.Faults.{Refuses, Answers}
use Rattle.meter_config.specs.declared.fault.ConfigFault.{ConfigFault}
use Rattle.meter_config.specs.declared.fault.ConfigFault.TheVariants.{TooLong, Text, NotObject, Missing, Wrong, Unknown, OutOfMemory}

-- a part's fault is the whole's
pub Refuses-whole : {A B : Type 0} (e : ConfigFault) (part : Result A Fault) (whole : Result B Fault) → Refuses e part → ((f : Fault) → part ≡ Err f → whole ≡ Err f) → Refuses e whole
Refuses-whole TooLong part whole is first = first model.TooLong is
Refuses-whole Text part whole is first = first model.Text is
Refuses-whole NotObject part whole is first = first model.NotObject is
Refuses-whole (Missing key) part whole is first = first (model.Missing key) is
Refuses-whole (Wrong key) part whole is first = first (model.Wrong key) is
Refuses-whole (Unknown place) part whole is first = first (model.Unknown place) is
Refuses-whole OutOfMemory part whole is first = is

pub Answers-ok : {A B : Type 0} (view : A → B) (r : Result A ConfigFault) (part whole : Result B Fault) → whole ≡ part → Answers view r part → IfOk r (λ x. whole ≡ Ok (view x))
Answers-ok view (Ok x) part whole e h = e ∙ h
Answers-ok view (Err x) part whole e h = tt

pub Answers-err : {A B : Type 0} (view : A → B) (r : Result A ConfigFault) (part whole : Result B Fault) → whole ≡ part → Answers view r part → IfErr r (λ e. e ≢ OutOfMemory → Refuses e whole)
Answers-err view (Ok x) part whole e h = tt
Answers-err view (Err x) part whole e h = λ memory. Refuses-whole x part whole h (λ f is. e ∙ is)

pub accepted-value : (text : List ℕ) (value : Data) → length text ≤ 4096 → IsUtf8 text → read text ≡ Some value → accepted text ≡ of_value (Some value)
accepted-value text value short utf8 is = rw (le-ltb _ _ short, is_utf8-from_IsUtf8 text utf8, is) refl

pub accepted-none : (text : List ℕ) → length text ≤ 4096 → (IsUtf8 text → read text ≡ None) → accepted text ≡ Err model.Text
accepted-none text short none =
    elim (cases_Bool (is_utf8 text)) [
      | inl utf8 ↦ rw (le-ltb _ _ short, utf8, none (IsUtf8-from_is_utf8 text utf8)) refl
      | inr other ↦ rw (le-ltb _ _ short, other) refl
    ]
