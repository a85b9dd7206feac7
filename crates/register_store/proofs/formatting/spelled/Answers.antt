use Rattle.std.proofs.Common.{rules}
use Rattle.meter_config.specs.Views.{config_view}
use Rattle.billing_memory.specs.Records.{record_view}
use Rattle.register_store.proofs.FormatMoments.{laid_spells}
use Rattle.register_store.proofs.formatting.spelled.Goals as goal

pub returns : goal.returns
returns c =
    laid_spells (config_view c.args.c.now) (record_view c.args.m.now) c.blank-out.result c.put_at.new.out c.put_at-2.new.out c.encode_header.result c.encode_record.result (search rules) (search rules) c.blank-out.ensures c.put_at.ensures c.put_at-2.ensures c.encode_header.ensures.read_again c.encode_record.ensures.read_again
