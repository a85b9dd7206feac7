-- Words of one byte.
use Rattle.std.proofs.Common.{◌≡◌, ℕ, ◌*◌, Bool, true, false, cond, nat_le, List, [], ◌∷◌, length, None, Result, Ok, Err, refl, sym, ap, ◌∙◌}
use Rattle.std.specs.Option.{option_and_then}
use Rattle.std.specs.Result.{MatchResult, result_ok}
use Rattle.hex.specs.Hex.{decode_of, decode_sized}
use Rattle.hex.specs.declared.error.FromHexError.{FromHexError}
use Rattle.hex.proofs.HexLemmas.{decode_of-ok, decode_sized-twice}
use Rattle.script_model.specs.Hex.{byte_in, only_byte}

not_one : (bytes : List ℕ) → (length bytes ≡ 1 → ⊥) → only_byte bytes ≡ None
not_one [] other = refl
not_one (b ∷ []) other = absurd (other refl)
not_one (b ∷ c ∷ cs) other = refl

none_said : (long : Bool) (read : Result (List ℕ) FromHexError) → ((bytes : List ℕ) → read ≡ Ok bytes → only_byte bytes ≡ None) → option_and_then only_byte (cond long (result_ok read) None) ≡ None
none_said true (Ok bytes) other = other bytes refl
none_said true (Err e) other = refl
none_said false read other = refl

no_byte : (word : List ℕ) (e : FromHexError) → decode_sized word 1 ≡ Err e → byte_in word ≡ None
no_byte word e refused = none_said (nat_le 2 (length word)) (decode_of word) (λ bytes ok. not_one bytes (λ one.
    let len : length word ≡ 2 * 1 = (decode_of-ok word bytes ok).2 ∙ ap (λ k. 2 * k) one in
    cc (sym refused ∙ decode_sized-twice word 1 len ∙ ok)))

-- what isn't read into room for one byte says no byte
pub not_read : (word : List ℕ) (Read : List ℕ → Type 0) (Refused : FromHexError → Type 0) → MatchResult (decode_sized word 1) Read Refused → ((bytes : List ℕ) → Read bytes → ⊥) → None ≡ byte_in word
not_read word Read Refused sized none = by_cases (decode_sized word 1) refl sized where
  by_cases : (r : Result (List ℕ) FromHexError) → decode_sized word 1 ≡ r → MatchResult r Read Refused → None ≡ byte_in word
  by_cases (Ok bytes) is read = absurd (none bytes read)
  by_cases (Err e) is refused = sym (no_byte word e is)
