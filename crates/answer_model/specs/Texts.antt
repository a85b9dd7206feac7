-- The texts of output lines.
use Rattle.std.specs.Prelude.{ℕ, ◌*◌, List, ◌++◌, codes, Option, None, Some}
use Rattle.std.specs.Fmt.{decimal, signed_decimal}
use Rattle.hex.specs.Hex.{encode_lower}
use Rattle.metering_model.specs.Settings.{Settings}
use Rattle.metering_model.specs.Records.{MeterRecord, Register}

-- `VOL E B`: litres, and the energy and its bound in millijoules
abbrev pub register_shown : (litres_per_pulse : ℕ) → Register → List ℕ
register_shown litres_per_pulse r = decimal (r.pulses * litres_per_pulse) ++ codes " " ++ signed_decimal r.energy_mj ++ codes " " ++ decimal r.bound_mj

-- `K VOL E B`: the number of events, and the register
abbrev pub shown : Settings → MeterRecord → List ℕ
shown c r = decimal r.seq ++ codes " " ++ register_shown c.litres_per_pulse r.register

-- the line that acknowledges an event, where r is the record with it
abbrev pub ok_text : Settings → MeterRecord → List ℕ
ok_text c r = codes "ok " ++ shown c r ++ codes "\n"

-- the line that tells what was recovered after a power failure, where r is the record recovered
abbrev pub power_text : Settings → MeterRecord → List ℕ
power_text c r = codes "power " ++ shown c r ++ codes "\n"

-- the line that acknowledges the order of a cut
abbrev pub armed_text : List ℕ
armed_text = codes "armed\n"

-- the bytes of a reply in hexadecimal, or `-` where there is none
abbrev pub reply_shown : Option (List ℕ) → List ℕ
reply_shown None = codes "-"
reply_shown (Some bytes) = encode_lower bytes

-- `NAME K REPLY`: the line that answers a readout, where r is the record in force
abbrev pub readout_text : (name : List ℕ) → MeterRecord → (reply : Option (List ℕ)) → List ℕ
readout_text name r reply = name ++ codes " " ++ decimal r.seq ++ codes " " ++ reply_shown reply ++ codes "\n"

-- for a message at the optical head
abbrev pub opt_text : MeterRecord → (reply : Option (List ℕ)) → List ℕ
opt_text r reply = readout_text (codes "opt") r reply

-- for bytes on the M-Bus
abbrev pub mbus_text : MeterRecord → (reply : Option (List ℕ)) → List ℕ
mbus_text r reply = readout_text (codes "mbus") r reply
