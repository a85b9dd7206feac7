-- A telegram whose rules are all kept.
use Rattle.std.proofs.Common.{◌≡◌, ◌∙◌, ℕ, suc, ◌+◌, ◌-◌, ◌≤◌, ◌<◌, Bool, List, [], ◌∷◌, length, take, drop, None, Result, Ok, refl, sym, ap, drop-cons, arith}
use Rattle.std.proofs.lemmas.List.{drop-take, drop-drop}
use Rattle.parts_model.specs.Place.{Place}
use Rattle.reading_model.specs.Rules.{Rule, first_broken, unless_broken, byte}
use Rattle.reading_model.specs.Fields.{Reading}
use Rattle.reading_model.specs.Records.{records_in}
use Rattle.reading_model.specs.Telegrams.{counted_size, start_rules, end_rules, link_rules, serial_rules, kind_rules, decimal_number, maker_in, place_of, record_bytes, telegram_of, with_records, counted_telegram, telegram_in}

passes : {A : Type 0} (rules : List Rule) (said : Result A ℕ) → first_broken rules ≡ None → unless_broken (first_broken rules) said ≡ said
passes rules said kept = ap (λ b. unless_broken b said) kept

pub whole : (bytes : List ℕ) (records : List Reading × Bool) → first_broken (start_rules bytes) ≡ None → first_broken (end_rules bytes) ≡ None → first_broken (link_rules bytes) ≡ None → first_broken (serial_rules bytes) ≡ None → first_broken (kind_rules bytes) ≡ None
    → records_in 0 (record_bytes bytes) ≡ Ok records → telegram_in bytes ≡ Ok (telegram_of bytes records)
whole bytes records first ended link serial kind said =
    passes (start_rules bytes) _ first
    ∙ passes (end_rules bytes) (counted_telegram bytes) ended
    ∙ passes (link_rules bytes) _ link
    ∙ passes (serial_rules bytes) _ serial
    ∙ passes (kind_rules bytes) (with_records bytes (records_in 0 (record_bytes bytes))) kind
    ∙ ap (with_records bytes) said

-- bytes from a place on
from : (bytes : List ℕ) (at count : ℕ) → at < length bytes → take (suc count) (drop at bytes) ≡ byte bytes at ∷ take count (drop (at + 1) bytes)
from bytes at count there =
    let next : suc at ≡ at + 1 = omega arith in
    ap (take (suc count)) (drop-cons bytes at 0 there) ∙ ap (λ n. byte bytes at ∷ take count (drop n bytes)) next

pub maker_bytes : (bytes : List ℕ) → 13 ≤ length bytes → take 2 (drop 11 bytes) ≡ byte bytes 11 ∷ byte bytes 12 ∷ []
maker_bytes bytes there =
    from bytes 11 1 (omega arith) ∙ ap (λ (l : List ℕ). byte bytes 11 ∷ l) (from bytes 12 0 (omega arith))

pub serial_bytes : (bytes : List ℕ) → 11 ≤ length bytes → take 4 (drop 7 bytes) ≡ byte bytes 7 ∷ byte bytes 8 ∷ byte bytes 9 ∷ byte bytes 10 ∷ []
serial_bytes bytes there =
    from bytes 7 3 (omega arith)
    ∙ ap (λ (l : List ℕ). byte bytes 7 ∷ l) (from bytes 8 2 (omega arith))
    ∙ ap (λ (l : List ℕ). byte bytes 7 ∷ byte bytes 8 ∷ l) (from bytes 9 1 (omega arith))
    ∙ ap (λ (l : List ℕ). byte bytes 7 ∷ byte bytes 8 ∷ byte bytes 9 ∷ l) (from bytes 10 0 (omega arith))

-- the telegram, part by part
pub telegram_is : (bytes : List ℕ) (records : List Reading) (more : Bool) (serial : ℕ) (maker : List ℕ) (place : Place) → serial ≡ decimal_number (take 4 (drop 7 bytes)) → maker ≡ maker_in bytes → place ≡ place_of (byte bytes 14) → telegram_of bytes (records, more) ≡ record {
  address = byte bytes 5;
  serial = serial;
  maker = maker;
  version = byte bytes 13;
  place = place;
  access = byte bytes 15;
  status = byte bytes 16;
  records = records;
  more = more;
}
telegram_is bytes records more serial maker place is_serial is_maker is_place = rw (is_serial, is_maker, is_place) refl

-- the bytes behind the header, as the code cuts them
pub records_cut : (bytes : List ℕ) → 15 ≤ counted_size bytes → length bytes ≡ counted_size bytes + 6 → take (length bytes - 2 - 19) (drop 19 bytes) ≡ record_bytes bytes
records_cut bytes many size =
    let rest : 15 + (counted_size bytes - 15) ≡ counted_size bytes = omega arith in
    let count : length bytes - 2 - 19 ≡ counted_size bytes - 15 = omega arith in
    sym (
    ap (λ n. drop 15 (take n (drop 4 bytes))) (sym rest)
    ∙ drop-take 15 (counted_size bytes - 15) (drop 4 bytes)
    ∙ ap (take (counted_size bytes - 15)) (drop-drop 15 4 bytes)
    ∙ ap (λ n. take n (drop 19 bytes)) (sym count)
    )
