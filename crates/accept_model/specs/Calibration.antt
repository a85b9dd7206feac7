-- The value of the key `calibration`: the constants of the sensor in the flow and of that in the return.
use Rattle.std.specs.Prelude.{ℕ, ◌*◌, ◌==◌, cond, codes, List, [], ◌∷◌, length, Bool, false, Option, None, Some, option_map, option_and_then}
use Rattle.serde_json.specs.Data.{Data, Members, no_members, member}
use Rattle.serde_json.specs.Find.{get, as_number, as_object, as_u64}
use Rattle.platinum_model.specs.Element.{Element}
use Rattle.platinum_model.specs.Calibration.{fits}
use Rattle.config_model.specs.Configuration.{both}
use Rattle.accept_model.specs.Values.{passing}

-- the names of an object's members, in the order of their bytes
abbrev pub names_of : Members → List (List ℕ)
names_of no_members = []
names_of (member name value more) = name ∷ names_of more

-- the whole number that an object has under a name
abbrev pub number_at : List ℕ → Data → Option ℕ
number_at name value = option_and_then as_u64 (option_and_then as_number (get name value))

-- three of an object's numbers, where they fit a sensor of so many ohms
abbrev pub constants_at : (r0 a b : List ℕ) → (sensor_ohm : ℕ) → Data → Option Element
constants_at r0 a b ohm value =
    passing (λ e. fits e (1000000 * ohm))
    (option_and_then (λ x. option_and_then (λ y. option_map (λ z. record { r0_uohm = x; a_e10 = y; b_e10 = z }) (number_at b value)) (number_at a value)) (number_at r0 value))

-- six members
abbrev pub are_six : Option Members → Bool
are_six None = false
are_six (Some members) = length (names_of members) == 6

-- these six and no other, constants of both sensors
unfoldable pub calibration : (sensor_ohm : ℕ) → Data → Option (Element × Element)
calibration ohm value =
    cond (are_six (as_object value)) (both
    (constants_at (codes "flow_r0") (codes "flow_a") (codes "flow_b") ohm value)
    (constants_at (codes "return_r0") (codes "return_a") (codes "return_b") ohm value)) None
