-- The texts that are accepted as configurations, and the first fault of each other text.
use Rattle.std.specs.Prelude.{ℕ, suc, cond, codes, not, nat_lt, nat_eq, List, [], ◌∷◌, length, Bool, Option, None, Some, option_map, Result, Ok, Err}
use Rattle.std.specs.List.{list_any, position}
use Rattle.std.specs.Str.{is_utf8}
use Rattle.std.specs.Cmp.Lexicographic.{pointwise}
use Rattle.serde_json.specs.Data.{Data, Members}
use Rattle.serde_json.specs.Find.{get, as_object}
use Rattle.serde_json.specs.Read.{read}
use Rattle.parts_model.specs.Place.{Flow}
use Rattle.platinum_model.specs.Element.{Element}
use Rattle.config_model.specs.Configuration.{Configuration}
use Rattle.accept_model.specs.Keys.{Key, keys, key_names}
use Rattle.accept_model.specs.Calibration.{calibration, names_of}

-- Why a text is refused: it is longer than 4,096 bytes, no JSON, or no object; a key is missing or has a wrong value, with
-- the key's number; or the object has another key, with its place among the object's keys in the order of their bytes.
pub data Fault : Type 0 where
  TooLong : Fault
  Text : Fault
  NotObject : Fault
  Missing : (key : ℕ) → Fault
  Wrong : (key : ℕ) → Fault
  Unknown : (place : ℕ) → Fault

-- what is read first, and then the rest
abbrev pub and_then : {A B : Type 0} → Result A Fault → (A → Result B Fault) → Result B Fault
and_then (Ok x) rest = rest x
and_then (Err fault) rest = Err fault

-- what a key's value says, where the key is there and the value is one that it may have
abbrev pub judged : {A : Type 0} → ℕ → Option (Option A) → Result A Fault
judged key None = Err (Missing key)
judged key (Some None) = Err (Wrong key)
judged key (Some (Some x)) = Ok x

-- what an object says under the key of this number and name, by the key's rule
unfoldable pub value_at : {A : Type 0} → ℕ → List ℕ → (Data → Option A) → Data → Result A Fault
value_at key name rule value = judged key (option_map rule (get name value))

-- the configuration with what the keys say, one after another, from the key of this number on
abbrev pub read_keys : ℕ → List Key → Data → Configuration → Result Configuration Fault
read_keys n [] value c = Ok c
read_keys n (k ∷ ks) value c = and_then (value_at n k.name k.rule value) (λ part. read_keys (suc n) ks value (k.put part c))

-- where the reading begins; each part is put by its key
abbrev pub blank : Configuration
blank = record {
  serial = 0;
  maker = [];
  version = 0;
  address = 0;
  place = Flow;
  pressure_kpa = 0;
  sensor_ohm = 0;
  litres_per_pulse = 0;
  energy_decimals = 0;
  volume_decimals = 0;
  set_month = 0;
  opening_day = 0;
  calibration = None;
}

-- constants of the sensors, where there are any
abbrev pub unless_wrong : Option (Element × Element) → Result (Option (Element × Element)) Fault
unless_wrong None = Err (Wrong 12)
unless_wrong (Some constants) = Ok (Some constants)

-- what the key `calibration` says, where it is there
abbrev pub calibration_in : (sensor_ohm : ℕ) → Option Data → Result (Option (Element × Element)) Fault
calibration_in ohm None = Ok None
calibration_in ohm (Some value) = unless_wrong (calibration ohm value)

abbrev pub calibrated : Option Data → Configuration → Result Configuration Fault
calibrated said c = and_then (calibration_in c.sensor_ohm said) (λ constants. Ok (record c { calibration = constants }))

-- what the keys of an object say
unfoldable pub said_by : Data → Result Configuration Fault
said_by value = and_then (read_keys 0 keys value blank) (calibrated (get (codes "calibration") value))

-- whether the table has no key of this name
abbrev pub is_other : List ℕ → Bool
is_other name = not (list_any (λ key. pointwise nat_eq key name) key_names)

-- the place of the first other key
abbrev pub other_key : Members → Option ℕ
other_key members = position is_other (names_of members)

-- the configuration, where the object has no other key
abbrev pub unless_other : Option ℕ → Configuration → Result Configuration Fault
unless_other None c = Ok c
unless_other (Some place) c = Err (Unknown place)

abbrev pub of_members : Option Members → Data → Result Configuration Fault
of_members None value = Err NotObject
of_members (Some members) value = and_then (said_by value) (unless_other (other_key members))

abbrev pub of_value : Option Data → Result Configuration Fault
of_value None = Err Text
of_value (Some value) = of_members (as_object value) value

-- the value of a JSON text in UTF-8
abbrev pub value_of : List ℕ → Option Data
value_of text = cond (is_utf8 text) (read text) None

-- the configuration that a text is accepted as, or its first fault
abbrev pub accepted : List ℕ → Result Configuration Fault
accepted text = cond (nat_lt 4096 (length text)) (Err TooLong) (of_value (value_of text))
