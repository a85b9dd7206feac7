-- What the code's types are, in the words of the definitions.
use Rattle.std.specs.Prelude.{ℕ, ℤ, List, [], map}
use Rattle.meter_parts.specs.Views.{place_view}
use Rattle.reading_model.specs.Fields as fields
use Rattle.reading_model.specs.Records as records
use Rattle.readout_reader.specs.declared.coding.Coding.{Coding}
use Rattle.readout_reader.specs.declared.coding.Coding.TheVariants.{Integer16, Integer32, Decimal8}
use Rattle.readout_reader.specs.declared.mbus_fields.Kind.{Kind}
use Rattle.readout_reader.specs.declared.mbus_fields.Kind.TheVariants.{Energy, Volume, FlowTemp, ReturnTemp, Difference, Date}
use Rattle.readout_reader.specs.declared.mbus_fields.Rec.{Rec}
use Rattle.readout_reader.specs.declared.mbus_fields.MbusFields.{MbusFields}
use Rattle.readout_reader.specs.declared.optical_fields.Number.{Number}
use Rattle.readout_reader.specs.declared.optical_fields.Shown.{Shown}
use Rattle.readout_reader.specs.declared.optical_fields.OpticalFields.{OpticalFields}
use Rattle.readout_reader.specs.declared.message.First.{First}

abbrev pub coding_view : Coding → records.Coding
coding_view Integer16 = records.Integer16
coding_view Integer32 = records.Integer32
coding_view Decimal8 = records.Decimal8

-- how many bytes the data have
abbrev pub data_size : Coding → ℕ
data_size Integer16 = 2
data_size Integer32 = 4
data_size Decimal8 = 4

abbrev pub kind_view : Kind → fields.Kind
kind_view Energy = fields.Energy
kind_view Volume = fields.Volume
kind_view FlowTemp = fields.FlowTemp
kind_view ReturnTemp = fields.ReturnTemp
kind_view Difference = fields.Difference
kind_view Date = fields.Date

abbrev pub quantity_view : Kind × ℤ → fields.Kind × ℤ
quantity_view q = (kind_view q.0, q.1)

abbrev pub rec_view : Rec → fields.Reading
rec_view r = record { storage = r.storage; kind = kind_view r.kind; value = r.value; exp = r.exp }

abbrev pub recs_view : List Rec → List fields.Reading
recs_view rs = map rec_view rs

abbrev pub telegram_view : MbusFields → fields.Telegram
telegram_view f = record {
  address = f.address;
  serial = f.serial;
  maker = f.maker;
  version = f.version;
  place = place_view f.place;
  access = f.access;
  status = f.status;
  records = recs_view f.records.items;
  more = f.more;
}

abbrev pub number_view : Number → fields.Number
number_view n = record { digits = n.digits; decimals = n.decimals }

abbrev pub shown_view : Shown → fields.Shown
shown_view e = record { mark = e.mark; day = e.day.number; energy = number_view e.energy; volume = number_view e.volume }

abbrev pub shown_list : List Shown → List fields.Shown
shown_list es = map shown_view es

-- what the lines before the entries say
abbrev pub first_view : First → fields.Message
first_view f = record { serial = f.serial; energy = number_view f.energy; volume = number_view f.volume; day = f.day.number; entries = [] }

abbrev pub message_view : OpticalFields → fields.Message
message_view f = record {
  serial = f.serial;
  energy = number_view f.energy;
  volume = number_view f.volume;
  day = f.day.number;
  entries = shown_list f.entries.items;
}
