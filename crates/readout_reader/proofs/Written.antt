-- A telegram that a meter writes is read as what it was written from.
use Rattle.std.proofs.Common.{◌≡◌, ◌∙◌, ℕ, ◌+◌, ◌-◌, ◌*◌, ◌/◌, ◌%◌, ◌<◌, ◌≤◌, ◌==◌, ◌||◌, ◌&&◌, Bool, true, false, IsTrue, if◌then◌else◌, List, [], ◌∷◌, ◌++◌, length, drop, None, Some, Ok, refl, sym, ap, subst, length-append, eq-eqb, arith}
use Rattle.std.specs.Prelude.{nat_le, nat_lt, reverse}
use Rattle.std.specs.Int.{w16, to_le_bytes, from_le_bytes}
use Rattle.std.specs.List.{list_all}
use Rattle.std.proofs.lemmas.Bool.{le-leb}
use Rattle.std.proofs.lemmas.Nat.{from_le_bytes-to_le_bytes_2}
use Rattle.std.proofs.lemmas.List.{get_or-append-add, length-take}
use Rattle.std.proofs.Math.Seq.{take-append_seam, get_or-append_seam}
use Rattle.parts_model.specs.Place.{Place, Flow, Return}
use Rattle.config_model.specs.Configuration.{Configuration, IsConfiguration}
use Rattle.parts_model.specs.Ranges.{is_capital}
use Rattle.metering_model.specs.Records.{MeterRecord}
use Rattle.frame_model.specs.Frames.{Frame, Long, frame_bytes, checksum}
use Rattle.telegram_model.specs.Values.{decimal_bytes}
use Rattle.telegram_model.specs.Telegram.{header, medium, maker_code, records_of, mark_of, newest, telegram}
use Rattle.reading_model.specs.Rules.{first_broken, byte}
use Rattle.reading_model.specs.Records.{records_in}
use Rattle.reading_model.specs.Telegrams.{counted, start_rules, end_rules, kind_rules, decimal_number, letters_of, maker_in, place_of, telegram_in}
use Rattle.reading_model.specs.Written.{HasDays, telegram_said, readings_of}
use Rattle.reading_model.proofs.Spelled.{decimal_byte}
use Rattle.reading_model.proofs.WrittenTelegrams.{records_read}
use Rattle.readout_reader.proofs.Wholes.{whole, telegram_is}

-- ---- a frame of counted bytes

abbrev framed : List ℕ → List ℕ
framed body = 104 ∷ length body ∷ length body ∷ 104 ∷ body ++ checksum body ∷ 22 ∷ []

counted_is : (body : List ℕ) → counted (framed body) ≡ body
counted_is body = take-append_seam body (checksum body ∷ 22 ∷ [])

starts : (body : List ℕ) → 15 ≤ length body → first_broken (start_rules (framed body)) ≡ None
starts body many = rw (le-leb 15 (length body) many, eq-eqb (length body) (length body) refl) refl

ends : (body : List ℕ) → first_broken (end_rules (framed body)) ≡ None
ends body =
    let front : List ℕ = 104 ∷ length body ∷ length body ∷ 104 ∷ body in
    let size : (length (framed body) == length body + 6) ≡ true = eq-eqb _ _ (omega (arith, length-append body (checksum body ∷ 22 ∷ []))) in
    let at : length body + 4 ≡ length front = omega arith in
    let at_stop : length body + 5 ≡ length front + 1 = omega arith in
    let sum : byte (framed body) (length body + 4) ≡ checksum body = ap (byte (framed body)) at ∙ get_or-append_seam front (checksum body) (22 ∷ []) 0 in
    let stop : byte (framed body) (length body + 5) ≡ 22 = ap (byte (framed body)) at_stop ∙ get_or-append-add front (checksum body ∷ 22 ∷ []) 1 0 in
    let right : (byte (framed body) (length body + 4) == checksum (counted (framed body))) ≡ true = eq-eqb _ _ (sum ∙ ap checksum (sym (counted_is body))) in
    let stopped : (byte (framed body) (length body + 5) == 22) ≡ true = eq-eqb _ _ stop in
    rw (size, right, stopped) refl

-- ---- the header

serial_said : (n : ℕ) → n ≤ 99999999 → decimal_number (decimal_bytes n) ≡ n
unfolding decimal_bytes
serial_said n small = omega arith

both : (a b : Bool) → (a && b) ≡ true → (a ≡ true) × (b ≡ true)
both true true all = (refl, refl)
both true false all = absurd cc
both false b all = absurd cc

under : (a b : ℕ) → nat_le a b ≡ true → a ≤ b
under a b le = grind arith

capital : (letter : ℕ) (others : Bool) → (is_capital letter && others) ≡ true → (65 ≤ letter) × (letter ≤ 90)
capital letter others all =
    let ends = both (nat_le 65 letter) (nat_le letter 90) (both (is_capital letter) others all).0 in
    (under 65 letter ends.0, under letter 90 ends.1)

maker_said : (letters : List ℕ) → length letters ≡ 3 → IsTrue (list_all is_capital letters) → letters_of (from_le_bytes w16 (to_le_bytes w16 (maker_code letters))) ≡ letters
maker_said [] three capitals = absurd (omega arith)
maker_said (a ∷ []) three capitals = absurd (omega arith)
maker_said (a ∷ b ∷ []) three capitals = absurd (omega arith)
maker_said (a ∷ b ∷ d ∷ e ∷ es) three capitals = absurd (omega arith)
maker_said (a ∷ b ∷ d ∷ []) three capitals =
    let first = capital a (is_capital b && (is_capital d && true)) capitals in
    let others = (both (is_capital a) (is_capital b && (is_capital d && true)) capitals).1 in
    let second = capital b (is_capital d && true) others in
    let third = capital d true (both (is_capital b) (is_capital d && true) others).1 in
    let code : 32 * (32 * (32 * 0 + (a - 64)) + (b - 64)) + (d - 64) < 65536 = omega (arith, first, second, third) in
    let one : 64 + (32 * (32 * (32 * 0 + (a - 64)) + (b - 64)) + (d - 64)) / 1024 ≡ a = omega (arith, first, second, third) in
    let two : 64 + (32 * (32 * (32 * 0 + (a - 64)) + (b - 64)) + (d - 64)) / 32 % 32 ≡ b = omega (arith, first, second, third) in
    let three : 64 + (32 * (32 * (32 * 0 + (a - 64)) + (b - 64)) + (d - 64)) % 32 ≡ d = omega (arith, first, second, third) in
    ap letters_of (from_le_bytes-to_le_bytes_2 (maker_code (a ∷ b ∷ d ∷ [])) code) ∙ (λ i. one i ∷ two i ∷ three i ∷ [])

medium_said : (place : Place) → place_of (medium place) ≡ place
medium_said Flow = refl
medium_said Return = refl

medium_right : (place : Place) → ((medium place == 4) || (medium place == 12)) ≡ true
medium_right Flow = refl
medium_right Return = refl

kinds : (bytes : List ℕ) → list_all is_capital (maker_in bytes) ≡ true → ((byte bytes 14 == 4) || (byte bytes 14 == 12)) ≡ true → (byte bytes 17 == 0) ≡ true → (byte bytes 18 == 0) ≡ true → first_broken (kind_rules bytes) ≡ None
kinds bytes letters heat first second = rw (letters, heat, first, second) refl

-- ---- the whole

abbrev body_of : Configuration → MeterRecord → (k access : ℕ) → List ℕ
body_of c m k access = 8 ∷ c.address ∷ 114 ∷ header c access ++ records_of c m k ++ mark_of m k

telegram_whole : (c : Configuration) (m : MeterRecord) (k access : ℕ) → IsConfiguration c → HasDays m → k ≤ 3 → telegram_in (framed (body_of c m k access)) ≡ Ok (telegram_said c m k access)
unfolding header decimal_bytes
telegram_whole c m k access is days few =
    let bytes = framed (body_of c m k access) in
    let maker : maker_in bytes ≡ c.maker = maker_said c.maker is.maker_length is.maker in
    whole bytes (readings_of c m k, nat_lt (8 * k) (length (newest m)))
    (starts (body_of c m k access) (omega arith))
    (ends (body_of c m k access))
    (rw (le-leb c.address 250 is.address) refl)
    (rw (decimal_byte (c.serial / 1), decimal_byte (c.serial / 100), decimal_byte (c.serial / 10000), decimal_byte (c.serial / 1000000)) refl)
    (kinds bytes (ap (list_all is_capital) maker ∙ is.maker) (medium_right c.place) refl refl)
    (ap (λ (l : List ℕ). records_in 0 (drop 15 l)) (counted_is (body_of c m k access)) ∙ records_read c m k is days few)
    ∙ ap Ok (telegram_is bytes (readings_of c m k) (nat_lt (8 * k) (length (newest m))) c.serial c.maker c.place (sym (serial_said c.serial is.serial)) (sym maker) (sym (medium_said c.place)))

pub telegrams_read : (c : Configuration) (m : MeterRecord) (k access : ℕ) (f : Frame) → IsConfiguration c → HasDays m → telegram c m k access ≡ Some f → telegram_in (frame_bytes f) ≡ Ok (telegram_said c m k access)
unfolding telegram
telegrams_read c m k access f is days there = in_it (nat_le k ((length (newest m) + 7) / 8)) refl there
  where
    in_it : (b : Bool) → nat_le k ((length (newest m) + 7) / 8) ≡ b → (if b then Some (Long 8 c.address 114 (header c access ++ records_of c m k ++ mark_of m k)) else None) ≡ Some f → telegram_in (frame_bytes f) ≡ Ok (telegram_said c m k access)
    in_it true le e =
        let P : Frame → Type 0 = λ g. telegram_in (frame_bytes g) ≡ Ok (telegram_said c m k access) in
        let same : Long 8 c.address 114 (header c access ++ records_of c m k ++ mark_of m k) ≡ f = cc in
        subst P same (telegram_whole c m k access is days (omega (arith, under k ((length (newest m) + 7) / 8) le, length-take 24 (reverse m.months))))
    in_it false le e = absurd cc
