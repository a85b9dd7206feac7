-- What the meter with the serial number 12345678 says at its optical head, worked by hand.
use Rattle.std.proofs.Common.{◌≡◌, ◌∙◌, ◌⊎◌, ℕ, ◌-◌, ◌+◌, lit≤, List, [], ◌∷◌, ◌++◌, length, length-append, take, drop, get_or, pos, negsuc, Some, None, refl, sym, ap, arith, codes, inl, inr, false, eqb, eq-eqb}
use Rattle.std.proofs.lemmas.Bool.{false≢true}
use Rattle.std.proofs.lemmas.List.{take_at}
use Rattle.calendar_model.proofs.Worked.{written_january_15, written_march_1, written_april_1}
use Rattle.metering_model.specs.Records.{MeterRecord, Register, opening_record}
use Rattle.config_model.specs.Standard.{standard}
use Rattle.optical_model.specs.Requests.{IsRequest, IsDataSelect, request, without_zeros}
use Rattle.optical_model.specs.Messages.{identification, check_character, checked, IsBlock, IsDataMessage}
use Rattle.optical_model.specs.Replies.{Replies}

identified : identification standard ≡ codes "/ABC5HEAT\r\n"
identified = refl

-- ---- requests

-- to whichever meter, to this one's serial number, and to it with zeros before it
pub to_any : IsRequest standard (codes "/?!\r\n")
to_any = record { address = []; form = refl; allowed = record { short = lit≤ tt; bytes = refl }; own = inl refl }

to_serial : IsRequest standard (codes "/?12345678!\r\n")
to_serial = record { address = codes "12345678"; form = refl; allowed = record { short = lit≤ tt; bytes = refl }; own = inr refl }

to_zeros : IsRequest standard (codes "/?00000000000000000000000012345678!\r\n")
to_zeros = record { address = codes "00000000000000000000000012345678"; form = refl; allowed = record { short = lit≤ tt; bytes = refl }; own = inr refl }

-- a meter with zeros at the front of its serial number is asked without them
to_small_serial : IsRequest (record standard { serial = 42 }) (codes "/?42!\r\n")
to_small_serial = record { address = codes "42"; form = refl; allowed = record { short = lit≤ tt; bytes = refl }; own = inr refl }

to_serial_0 : IsRequest (record standard { serial = 0 }) (codes "/?000!\r\n")
to_serial_0 = record { address = codes "000"; form = refl; allowed = record { short = lit≤ tt; bytes = refl }; own = inr refl }

-- the address that a request has
address_of : (address message : List ℕ) → message ≡ request address → address ≡ take (length message - 5) (drop 2 message)
address_of address message form =
    let long : length message ≡ length address + 5 = ap length form ∙ omega (arith, length-append address (codes "!\r\n")) in
    sym ((λ i. take (length message - 5) (drop 2 (form i))) ∙ take_at address (codes "!\r\n") (length message - 5) (omega arith))

-- lists with two bytes at one place
apart : {xs ys : List ℕ} (place : ℕ) → xs ≡ ys → eqb (get_or xs place 0) (get_or ys place 0) ≡ false → ⊥
apart {xs} {ys} place e h =
    false≢true (sym h ∙ eq-eqb (get_or xs place 0) (get_or ys place 0) (ap (λ l. get_or l place 0) e))

not_own : (a other : List ℕ) → a ≡ other → (other ≡ [] → ⊥) → (without_zeros other ≡ codes "12345678" → ⊥) → (a ≡ []) ⊎ (without_zeros a ≡ codes "12345678") → ⊥
not_own a other e some apart (inl none) = some (sym e ∙ none)
not_own a other e some apart (inr same) = apart (sym (ap without_zeros e) ∙ same)

-- not to another number, to the serial number with a zero behind it, nor to an address of 33 digits
to_another : IsRequest standard (codes "/?12345679!\r\n") → ⊥
to_another r = not_own r.address (codes "12345679") (address_of r.address (codes "/?12345679!\r\n") r.form) (λ e. apart 0 e refl) (λ e. apart 7 e refl) r.own

zero_behind : IsRequest standard (codes "/?123456780!\r\n") → ⊥
zero_behind r = not_own r.address (codes "123456780") (address_of r.address (codes "/?123456780!\r\n") r.form) (λ e. apart 0 e refl) (λ e. apart 8 e refl) r.own

too_long : IsRequest standard (codes "/?000000000000000000000000012345678!\r\n") → ⊥
too_long r =
    let address : r.address ≡ codes "000000000000000000000000012345678" = address_of r.address (codes "/?000000000000000000000000012345678!\r\n") r.form in
    let long : length r.address ≡ 33 = ap length address in
    omega (arith, r.allowed.short)

-- ---- option selects

pub select : IsDataSelect (0x06 ∷ 0x30 ∷ 0x35 ∷ 0x30 ∷ 0x0d ∷ 0x0a ∷ [])
select = record { rate = 53; form = refl; low = lit≤ tt; high = lit≤ tt }

-- a baud rate of 7, and another select than that of the data message
rate_7 : IsDataSelect (0x06 ∷ 0x30 ∷ 0x37 ∷ 0x30 ∷ 0x0d ∷ 0x0a ∷ []) → ⊥
rate_7 s = let rate : 55 ≡ s.rate = ap (λ l. get_or l 2 0) s.form in omega (arith, s.high)

other_select : IsDataSelect (0x06 ∷ 0x30 ∷ 0x35 ∷ 0x31 ∷ 0x0d ∷ 0x0a ∷ []) → ⊥
other_select s = apart 3 s.form refl

-- ---- data messages

abbrev pub three_pulses : Register
three_pulses = record { pulses = 3; energy_mj = pos 0; bound_mj = 0 }

abbrev pub after_three : MeterRecord
after_three = record (opening_record 8780) { seq = 1; register = three_pulses }

abbrev pub data_message : List ℕ
data_message =
    0x02 ∷ 0x39 ∷ 0x2e ∷ 0x32 ∷ 0x31 ∷ 0x28 ∷ 0x31 ∷ 0x32 ∷ 0x33 ∷ 0x34 ∷ 0x35 ∷ 0x36 ∷ 0x37 ∷ 0x38 ∷ 0x29 ∷ 0x0d ∷ 0x0a ∷ 0x36 ∷ 0x2e ∷ 0x38 ∷ 0x28 ∷ 0x30 ∷ 0x30 ∷ 0x30 ∷ 0x30 ∷ 0x30 ∷ 0x30 ∷ 0x30 ∷ 0x30 ∷ 0x2a ∷ 0x6b ∷ 0x57 ∷ 0x68 ∷ 0x29 ∷ 0x0d ∷ 0x0a ∷ 0x36 ∷ 0x2e ∷ 0x32 ∷ 0x36 ∷ 0x28 ∷ 0x30 ∷ 0x30 ∷ 0x30 ∷ 0x30 ∷ 0x30 ∷ 0x30 ∷ 0x2e ∷ 0x30 ∷ 0x33 ∷ 0x2a ∷ 0x6d ∷ 0x33 ∷ 0x29 ∷ 0x0d ∷ 0x0a ∷ 0x39 ∷ 0x2e ∷ 0x33 ∷ 0x36 ∷ 0x28 ∷ 0x32 ∷ 0x30 ∷ 0x32 ∷ 0x34 ∷ 0x2d ∷ 0x30 ∷ 0x31 ∷ 0x2d ∷ 0x31 ∷ 0x35 ∷ 0x29 ∷ 0x0d ∷ 0x0a ∷ 0x21 ∷ 0x0d ∷ 0x0a ∷ 0x03 ∷ 0x31 ∷ []

pub said : IsDataMessage standard after_three data_message
said = record {
  block = codes "9.21(12345678)\r\n6.8(00000000*kWh)\r\n6.26(000000.03*m3)\r\n9.36(2024-01-15)\r\n";
  lines = record {
    day = codes "2024-01-15";
    set_day = [];
    months = [];
    day_text = written_january_15;
    set_day_lines = refl;
    month_lines = refl;
    is = refl;
  };
  is = refl;
}

-- with the set day 2024-03-01 and two months, of which the newest comes first
abbrev with_months : MeterRecord
with_months = record {
  seq = 4;
  day = 8857;
  samples = None;
  faulty = 0;
  register = three_pulses;
  months = record { day = 8826; register = record { pulses = 1; energy_mj = negsuc 0; bound_mj = 12 } } ∷ record { day = 8857; register = three_pulses } ∷ [];
  set_day = Some (record { day = 8826; register = three_pulses });
}

abbrev set_day_text : List ℕ
set_day_text = codes "6.8*01(2024-03-01)(00000000*kWh)\r\n6.26*01(2024-03-01)(000000.03*m3)\r\n"

abbrev newest_text : List ℕ
newest_text = codes "6.8*02(2024-04-01)(00000000*kWh)\r\n6.26*02(2024-04-01)(000000.03*m3)\r\n"

abbrev oldest_text : List ℕ
oldest_text = codes "6.8*03(2024-03-01)(99999999*kWh)\r\n6.26*03(2024-03-01)(000000.01*m3)\r\n"

abbrev block : List ℕ
block =
    codes "9.21(12345678)\r\n6.8(00000000*kWh)\r\n6.26(000000.03*m3)\r\n9.36(2024-04-01)\r\n" ++ set_day_text ++ newest_text ++ oldest_text

said_months : IsBlock standard with_months block
said_months = record {
  day = codes "2024-04-01";
  set_day = set_day_text;
  months = newest_text ++ oldest_text;
  day_text = written_april_1;
  set_day_lines = (codes "2024-03-01", [], written_march_1, refl, refl);
  month_lines = (codes "2024-04-01", oldest_text, written_april_1, (codes "2024-03-01", [], written_march_1, refl, refl), refl);
  is = refl;
}

check_of_months : check_character (checked block) ≡ 0x28
check_of_months = refl

-- ---- replies

abbrev pub data_select : List ℕ
data_select = 0x06 ∷ 0x30 ∷ 0x35 ∷ 0x30 ∷ 0x0d ∷ 0x0a ∷ []

pub no_request : IsRequest standard data_select → ⊥
no_request r = apart 0 r.form refl

to_request : Replies standard after_three None (codes "/?!\r\n") (Some (codes "/ABC5HEAT\r\n"))
to_request = inl (to_any, refl)

to_select : Replies standard after_three (Some (codes "/?12345678!\r\n")) data_select (Some data_message)
to_select = inr (inl ((to_serial, select), data_message, said, refl))

-- none without a request before, after a request to another meter, nor once more
without_request : Replies standard after_three None data_select None
without_request = inr (inr (no_request, (λ asks. asks.0), refl))

after_another : Replies standard after_three (Some (codes "/?12345679!\r\n")) data_select None
after_another = inr (inr (no_request, (λ asks. to_another asks.0), refl))

once_more : Replies standard after_three (Some data_select) data_select None
once_more = inr (inr (no_request, (λ asks. no_request asks.0), refl))

to_another_meter : Replies standard after_three None (codes "/?12345679!\r\n") None
to_another_meter = inr (inr (to_another, (λ asks. asks.0), refl))
