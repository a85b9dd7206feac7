-- What a reading comes to by a request.
use Rattle.std.specs.Prelude.{◌≡◌, ℕ, ◌+◌, ◌<◌, ◌≤◌, ◌==◌, Bool, false, Option, None, Some}
use Rattle.metering_model.specs.Records.{MeterRecord}
use Rattle.slave_model.specs.Replies.{telegram_count}
use Rattle.billing_memory.specs.Records.{record_view}
use Rattle.mbus_records.specs.declared.reading.Reading.{Reading}

-- the reading is of this record, and has come to the telegram of this number
pub record IsAt (r : Reading) (m : MeterRecord) (k : ℕ) : Type 0 where
  pub frozen : record_view r.frozen ≡ m
  pub number : r.number ≡ k

-- the next telegram where the record has one, and otherwise the first of the record in force
pub record Goes (r : Reading) (in_force : MeterRecord) (next : Reading) : Type 0 where
  pub on : r.number + 1 < telegram_count (record_view r.frozen) → IsAt next (record_view r.frozen) (r.number + 1)
  pub anew : telegram_count (record_view r.frozen) ≤ r.number + 1 → IsAt next in_force 0

abbrev pub AsksNext : Option Reading → (in_force : MeterRecord) → Reading → Type 0
AsksNext None in_force next = IsAt next in_force 0
AsksNext (Some r) in_force next = Goes r in_force next

-- whether a control field is that of the last request
abbrev pub is_repeated : Option Reading → ℕ → Bool
is_repeated None control = false
is_repeated (Some r) control = r.control == control
