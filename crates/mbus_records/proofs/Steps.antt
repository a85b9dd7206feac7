-- The state of a slave with one more frame that it has heard.
use Rattle.std.proofs.Common.{◌≡◌, ◌∙◌, ℕ, suc, ◌+◌, ◌%◌, ◌<◌, inl, inr, ◌==◌, Bool, true, false, not, ◌&&◌, List, [], ◌∷◌, length, Option, None, Some, if◌then◌else◌, sym, ap, subst, arith}
use Rattle.std.proofs.lemmas.Bool.{cases_Bool, eqb-true, eqb-false, ltb-true, ltb-false, true≢false}
use Rattle.std.specs.Prelude.{is_some, nat_lt}
use Rattle.config_model.specs.Configuration.{Configuration}
use Rattle.metering_model.specs.Records.{MeterRecord}
use Rattle.frame_model.specs.Frames.{Frame}
use Rattle.telegram_model.specs.Telegram.{telegram}
use Rattle.slave_model.specs.Heard.{Heard, is_reset, is_request, is_same, control_of, last_control, advances, advancing}
use Rattle.slave_model.specs.Replies.{telegram_count, frozen, reading_with, reading, advances_heard, telegram_asked, request_reply, reset_reply, reply_after}
use Rattle.billing_memory.specs.Records.{record_view}
use Rattle.mbus_records.specs.Orders.{IsResetWith, IsRequestWith, IsNeither}
use Rattle.mbus_records.specs.Readings.{Goes, AsksNext, is_repeated}
use Rattle.mbus_records.specs.State.{IsAsked, reply_of, last_reply_of, IsReadingAfter, IsAfterLatest}
use Rattle.mbus_records.specs.declared.reading.Reading.{Reading}
use Rattle.mbus_records.specs.declared.slave.Slave.{Slave}

no_request : (c : Configuration) (past : List Heard) (f : Frame) → is_request c f ≡ false → advances c past f ≡ false
no_request c past f e = ap (λ b. b && not (b && is_same (last_control c past) (control_of f))) e

uncounted : (c : Configuration) (past : List Heard) (h : Heard) → advances c past h.frame ≡ false → advances_heard c (h ∷ past) ≡ advances_heard c past
uncounted c past h e =
    let none : (if advances c past h.frame then 1 else 0) ≡ 0 = ap (λ b. if b then 1 else 0) e in
    ap (λ n. n + advances_heard c past) none ∙ omega arith

-- ---- frames after which the slave is idle

pub idle_after : (c : Configuration) (past : List Heard) (h : Heard) (answer : Option Frame) (old new : Slave) → IsAfterLatest c past old → IsResetWith c h.frame answer → new.access ≡ old.access → new.reading ≡ None → IsAfterLatest c (h ∷ past) new
idle_after c past h answer old new before is same idle = record {
  access = same ∙ before.access ∙ ap (λ n. n % 256) (sym (uncounted c past h (no_request c past h.frame is.other)));
  reading = subst (λ r. IsReadingAfter c (h ∷ past) new.access r) (sym idle) (record {
    control = ap (λ b. if b then None else (if is_request c h.frame then control_of h.frame else last_control c past)) is.reset;
    none = ap (λ b. if b then [] else (if advances c past h.frame then h ∷ advancing c past else advancing c past)) is.reset;
  });
}

pub reset_replied : (c : Configuration) (past : List Heard) (h : Heard) (answer : Option Frame) → IsResetWith c h.frame answer → answer ≡ reply_after c past h
reset_replied c past h answer is =
    sym is.reply ∙ sym (ap (λ b. if b then reset_reply h.frame else (if is_request c h.frame then request_reply c (h ∷ past) else None)) is.reset)

-- ---- frames that change nothing of these

-- where a frame is no reset and does not advance
unmoved : (c : Configuration) (past : List Heard) (h : Heard) → is_reset c h.frame ≡ false → advances c past h.frame ≡ false → advancing c (h ∷ past) ≡ advancing c past
unmoved c past h reset e =
    ap (λ b. if b then [] else (if advances c past h.frame then h ∷ advancing c past else advancing c past)) reset
    ∙ ap (λ b. if b then h ∷ advancing c past else advancing c past) e

same_reply : (c : Configuration) (past : List Heard) (h : Heard) → advances c past h.frame ≡ false → request_reply c (h ∷ past) ≡ request_reply c past
same_reply c past h e = ap (λ b. if b then telegram_asked c (advances_heard c past % 256) (reading (h ∷ advancing c past)) else request_reply c past) e

-- a reading stays where the last request's control field and the advancing requests do
same_reading : (c : Configuration) (past : List Heard) (h : Heard) (access : ℕ) (r : Option Reading) → last_control c (h ∷ past) ≡ last_control c past → advancing c (h ∷ past) ≡ advancing c past → request_reply c (h ∷ past) ≡ request_reply c past → IsReadingAfter c past access r → IsReadingAfter c (h ∷ past) access r
same_reading c past h access None control moved reply before = record { control = control ∙ before.control; none = moved ∙ before.none }
same_reading c past h access (Some r) control moved reply before = record {
  control = control ∙ before.control;
  asked = subst (λ hs. IsAsked (reading hs) r) (sym moved) before.asked;
  there = before.there;
  reply = reply ∙ before.reply;
}

unchanged : (c : Configuration) (past : List Heard) (h : Heard) (s : Slave) → is_reset c h.frame ≡ false → advances c past h.frame ≡ false → last_control c (h ∷ past) ≡ last_control c past → IsAfterLatest c past s → IsAfterLatest c (h ∷ past) s
unchanged c past h s reset e control before = record {
  access = before.access ∙ ap (λ n. n % 256) (sym (uncounted c past h e));
  reading = same_reading c past h s.access s.reading control (unmoved c past h reset e) (same_reply c past h e) before.reading;
}

control-after : (c : Configuration) (past : List Heard) (h : Heard) (asks : Bool) → is_reset c h.frame ≡ false → is_request c h.frame ≡ asks → last_control c (h ∷ past) ≡ (if asks then control_of h.frame else last_control c past)
control-after c past h asks reset e =
    ap (λ b. if b then None else (if is_request c h.frame then control_of h.frame else last_control c past)) reset
    ∙ ap (λ b. if b then control_of h.frame else last_control c past) e

pub nothing_after : (c : Configuration) (past : List Heard) (h : Heard) (s : Slave) → IsAfterLatest c past s → IsNeither c h.frame → IsAfterLatest c (h ∷ past) s
nothing_after c past h s before is =
    unchanged c past h s is.reset (no_request c past h.frame is.request) (control-after c past h false is.reset is.request) before

pub nothing_replied : (c : Configuration) (past : List Heard) (h : Heard) → IsNeither c h.frame → None ≡ reply_after c past h
nothing_replied c past h is =
    sym (ap (λ b. if b then reset_reply h.frame else (if is_request c h.frame then request_reply c (h ∷ past) else None)) is.reset
    ∙ ap (λ b. if b then request_reply c (h ∷ past) else None) is.request)

-- ---- requests

-- the last control field is that of the reading
same_field : (c : Configuration) (past : List Heard) (f : Frame) (field access : ℕ) (r : Option Reading) → IsReadingAfter c past access r → control_of f ≡ Some field → is_same (last_control c past) (control_of f) ≡ is_repeated r field
same_field c past f field access None before control = ap (λ o. is_same o (control_of f)) before.control
same_field c past f field access (Some r) before control =
    ap (λ o. is_same o (control_of f)) before.control ∙ ap (λ o. is_same (Some r.control) o) control

moves : (c : Configuration) (past : List Heard) (f : Frame) (field access : ℕ) (r : Option Reading) (again : Bool) → IsReadingAfter c past access r → IsRequestWith c f field → is_repeated r field ≡ again → advances c past f ≡ not again
moves c past f field access r again before is e =
    ap (λ b. b && not (b && is_same (last_control c past) (control_of f))) is.request
    ∙ ap (λ b. not b) (same_field c past f field access r before is.control ∙ e)

-- a repeated one
held : (c : Configuration) (past : List Heard) (field access : ℕ) (r : Option Reading) → IsReadingAfter c past access r → is_repeated r field ≡ true → last_control c past ≡ Some field
held c past field access None before e = absurd (true≢false (sym e))
held c past field access (Some r) before e = before.control ∙ ap Some (eqb-true r.control field e)

pub repeated_after : (c : Configuration) (past : List Heard) (h : Heard) (field : ℕ) (s : Slave) → IsAfterLatest c past s → IsRequestWith c h.frame field → is_repeated s.reading field ≡ true → IsAfterLatest c (h ∷ past) s
repeated_after c past h field s before is e =
    unchanged c past h s is.other (moves c past h.frame field s.access s.reading true before.reading is e)
    (control-after c past h true is.other is.request ∙ is.control ∙ sym (held c past field s.access s.reading before.reading e)) before

-- one that advances
asked_after : (h : Heard) (requests : List Heard) (q r : Reading) → IsAsked requests q → q.number < telegram_count (record_view q.frozen) → Goes q h.in_force r → IsAsked (reading_with h requests) r
asked_after h [] q r asked there goes = absurd asked
asked_after h (last ∷ before) q r asked there goes =
    let count : ℕ = telegram_count (frozen last before) in
    let same : telegram_count (record_view q.frozen) ≡ count = ap telegram_count asked.frozen in
    elim (cases_Bool (suc (length before) == count)) [
      | inl given ↦
          let all : suc (length before) ≡ count = eqb-true (suc (length before)) count given in
          let anew = goes.anew (omega (arith, asked.number)) in
          subst (λ b. IsAsked (if b then h ∷ [] else h ∷ last ∷ before) r) (sym given) anew
      | inr further ↦
          let short = eqb-false (suc (length before)) count further in
          let on = goes.on (omega (arith, short, there, same, asked.number)) in
          subst (λ b. IsAsked (if b then h ∷ [] else h ∷ last ∷ before) r) (sym further) (record { frozen = on.frozen ∙ asked.frozen; number = on.number ∙ omega (arith, asked.number) })
    ]

next_asked : (c : Configuration) (past : List Heard) (h : Heard) (access : ℕ) (o : Option Reading) (r : Reading) → IsReadingAfter c past access o → AsksNext o h.in_force r → IsAsked (reading (h ∷ advancing c past)) r
next_asked c past h access None r before next = subst (λ hs. IsAsked (reading_with h (reading hs)) r) (sym before.none) next
next_asked c past h access (Some q) r before next = asked_after h (reading (advancing c past)) q r before.asked before.there next

next_there : (c : Configuration) (past : List Heard) (in_force : MeterRecord) (access : ℕ) (o : Option Reading) (r : Reading) → IsReadingAfter c past access o → AsksNext o in_force r → r.number < telegram_count (record_view r.frozen)
next_there c past in_force access None r before next = omega (arith, next.number)
next_there c past in_force access (Some q) r before next =
    let count : ℕ = telegram_count (record_view q.frozen) in
    elim (cases_Bool (nat_lt (q.number + 1) count)) [
      | inl further ↦
          let on = next.on (ltb-true (q.number + 1) count further) in
          omega (arith, on.number, ltb-true (q.number + 1) count further, ap telegram_count on.frozen)
      | inr last ↦
          let anew = next.anew (ltb-false (q.number + 1) count last) in
          omega (arith, anew.number)
    ]

asked_reply : (c : Configuration) (access : ℕ) (requests : List Heard) (r : Reading) → IsAsked requests r → telegram_asked c access requests ≡ telegram c (record_view r.frozen) r.number access
asked_reply c access [] r asked = absurd asked
asked_reply c access (h ∷ before) r asked = λ i. telegram c (sym asked.frozen i) (sym asked.number i) access

pub advanced_after : (c : Configuration) (past : List Heard) (h : Heard) (field : ℕ) (old new : Slave) (r : Reading) → IsAfterLatest c past old → IsRequestWith c h.frame field → is_repeated old.reading field ≡ false → r.control ≡ field → AsksNext old.reading h.in_force r → new.reading ≡ Some r → new.access ≡ (old.access + 1) % 256 → IsAfterLatest c (h ∷ past) new
advanced_after c past h field old new r before is other control next reading_is access_is =
    let further : advances c past h.frame ≡ true = moves c past h.frame field old.access old.reading false before.reading is other in
    let heard : advances_heard c (h ∷ past) ≡ 1 + advances_heard c past = ap (λ b. (if b then 1 else 0) + advances_heard c past) further in
    let moved : advancing c (h ∷ past) ≡ h ∷ advancing c past =
    ap (λ b. if b then [] else (if advances c past h.frame then h ∷ advancing c past else advancing c past)) is.other
    ∙ ap (λ b. if b then h ∷ advancing c past else advancing c past) further in
    let asked = next_asked c past h old.access old.reading r before.reading next in
    let access_before : advances_heard c past % 256 ≡ (new.access + 255) % 256 = omega (arith, access_is, before.access) in
    record {
      access = omega (arith, access_is, before.access, heard);
      reading = subst (λ o. IsReadingAfter c (h ∷ past) new.access o) (sym reading_is) (record {
        control = control-after c past h true is.other is.request ∙ is.control ∙ ap Some (sym control);
        asked = subst (λ hs. IsAsked (reading hs) r) (sym moved) asked;
        there = next_there c past h.in_force old.access old.reading r before.reading next;
        reply = ap (λ b. if b then telegram_asked c (advances_heard c past % 256) (reading (h ∷ advancing c past)) else request_reply c past) further
            ∙ asked_reply c (advances_heard c past % 256) (reading (h ∷ advancing c past)) r asked
            ∙ ap (λ n. telegram c (record_view r.frozen) r.number n) access_before;
      });
    }

-- the reply to a request, where the slave has taken it
of_reading : (c : Configuration) (past : List Heard) (field access : ℕ) (o : Option Reading) → IsReadingAfter c past access o → last_control c past ≡ Some field → reply_of c access o ≡ request_reply c past
of_reading c past field access None after control = absurd (true≢false (sym (ap is_some (sym after.control ∙ control))))
of_reading c past field access (Some r) after control = sym after.reply

pub request_replied : (c : Configuration) (past : List Heard) (h : Heard) (field : ℕ) (s : Slave) → IsRequestWith c h.frame field → IsAfterLatest c (h ∷ past) s → last_reply_of c s ≡ reply_after c past h
request_replied c past h field s is after =
    of_reading c (h ∷ past) field s.access s.reading after.reading (control-after c past h true is.other is.request ∙ is.control)
    ∙ sym (ap (λ b. if b then reset_reply h.frame else (if is_request c h.frame then request_reply c (h ∷ past) else None)) is.other
    ∙ ap (λ b. if b then request_reply c (h ∷ past) else None) is.request)
