use Rattle.std.proofs.Common.{◌∙◌, sym, ap, [], ◌∷◌, length, arith, length-drop}
use Rattle.reading_model.specs.Rules.{byte}
use Rattle.std.proofs.lemmas.Result.{err_from_is_err_and}
use Rattle.std.proofs.lemmas.List.{map-append}
use Rattle.reading_model.specs.Records.{records_in, record_size}
use Rattle.reading_model.proofs.Places.{record_size-least}
use Rattle.readout_reader.specs.Views.{recs_view, rec_view}
use Rattle.reading_model.proofs.Spelled.{in_front}
use Rattle.readout_reader.proofs.Onwards.{one_more, broken}
use Rattle.readout_reader.proofs.records.read_records.Goals as goal

pub returns-in_err-rec : goal.returns-in_err-rec
returns-in_err-rec c =
    let p = err_from_is_err_and c.from_residual.result c.from_residual.ensures.1 in
    rw (p.1, p.2) (c.loop-rest.invariant.said ∙ broken (recs_view c.loop-rest.records.items) c.loop-rest.rest.now _ (grind (arith, c.is_empty.ensures)) (grind (arith, c.is_mark.ensures)) c.in_err-rec.ensures.said)

pub loop-rest-preserved : goal.loop-rest-preserved
loop-rest-preserved c = record {
  said = c.loop-rest.invariant.said
      ∙ one_more (recs_view c.loop-rest.records.items) (rec_view c.in_ok-rec.rec) c.loop-rest.rest.now c.in_ok-rec.behind.now (grind (arith, c.is_empty.ensures)) (grind (arith, c.is_mark.ensures)) c.in_ok-rec.ensures.said c.in_ok-rec.ensures.behind
      ∙ ap (λ l. in_front l (records_in 0 c.in_ok-rec.behind.now)) (sym (ap recs_view c.push.ensures.items ∙ map-append rec_view c.loop-rest.records.items (c.in_ok-rec.rec ∷ [])));
  room = omega (arith, c.push.ensures.len, c.in_ok-rec.ensures.fits, length-drop (record_size (byte c.loop-rest.rest.now 0)) c.loop-rest.rest.now, ap length c.in_ok-rec.ensures.behind, record_size-least (byte c.loop-rest.rest.now 0));
}
