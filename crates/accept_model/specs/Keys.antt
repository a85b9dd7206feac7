-- The keys of a configuration's text.
use Rattle.std.specs.Prelude.{ℕ, codes, List, [], ◌∷◌, ◌++◌, map, Option, slice_index_or}
use Rattle.serde_json.specs.Data.{Data}
use Rattle.config_model.specs.Configuration.{Configuration}
use Rattle.parts_model.specs.Ranges.{is_pulse, is_sensor, last_month, max_address, max_decimals, max_pressure_kpa, max_version, min_pressure_kpa}
use Rattle.accept_model.specs.Values.{whole, whole_in, digits, capitals, place, date}

-- A key's name, what its value says by the key's rule, where the key may have that value, and the configuration with it.
pub record Key : Type 1 where
  pub Part : Type 0
  pub name : List ℕ
  pub rule : Data → Option Part
  pub put : Part → Configuration → Configuration

abbrev pub key : {Part : Type 0} → List ℕ → (Data → Option Part) → (Part → Configuration → Configuration) → Key
key {Part} name rule put = record { Part = Part; name = name; rule = rule; put = put }

-- the keys that have to be there, in the order of their numbers
unfoldable pub keys : List Key
keys =
    key (codes "serial") (digits 8) (λ n c. record c { serial = n })
    ∷ key (codes "maker") (capitals 3) (λ letters c. record c { maker = letters })
    ∷ key (codes "version") (whole_in 0 max_version) (λ n c. record c { version = n })
    ∷ key (codes "address") (whole_in 0 max_address) (λ n c. record c { address = n })
    ∷ key (codes "place") place (λ p c. record c { place = p })
    ∷ key (codes "pressure_kpa") (whole_in min_pressure_kpa max_pressure_kpa) (λ n c. record c { pressure_kpa = n })
    ∷ key (codes "sensor") (whole is_sensor) (λ n c. record c { sensor_ohm = n })
    ∷ key (codes "litres_per_pulse") (whole is_pulse) (λ n c. record c { litres_per_pulse = n })
    ∷ key (codes "energy_decimals") (whole_in 0 max_decimals) (λ n c. record c { energy_decimals = n })
    ∷ key (codes "volume_decimals") (whole_in 0 max_decimals) (λ n c. record c { volume_decimals = n })
    ∷ key (codes "set_month") (whole_in 1 last_month) (λ n c. record c { set_month = n })
    ∷ key (codes "opening_day") date (λ n c. record c { opening_day = n })
    ∷ []

-- the names of the keys, at last that of the one that may be absent
unfoldable pub key_names : List (List ℕ)
key_names = map (λ k. k.name) keys ++ codes "calibration" ∷ []

-- the name of the key of this number
abbrev pub name_of : ℕ → List ℕ
name_of number = slice_index_or key_names number []
