use Rattle.meter_config.specs.Views.{config_view}
use Rattle.billing_memory.specs.Records.{record_view}
use Rattle.trace_model.specs.Moments.{same}
use Rattle.trace_model.proofs.Moments.{Grew-is, Grew-then}
use Rattle.register_store.proofs.FormatMoments.{first_part, second_moments, formatted_leaves}
use Rattle.register_store.proofs.formatting.format.Goals as goal

pub returns-in_err-load-clause-moments : goal.returns-in_err-load-clause-moments
returns-in_err-load-clause-moments g c = λ tells. Grew-is same (c.in_err-load.ensures.trace tells)

pub returns-then-first-clause-moments : goal.returns-then-first-clause-moments
returns-then-first-clause-moments g c = λ tells. Grew-is same (c.in_ok-load.ensures.trace tells)

pub returns-in_err-store_settled-clause-moments : goal.returns-in_err-store_settled-clause-moments
returns-in_err-store_settled-clause-moments g c = λ tells.
    let config = config_view c.args.c.now in
    let held = record_view c.args.m.now in
    let old = g.B.Board.reads c.load.new.self in
    let size = (g.met.B.Board.possible c.load.new.self tells).size in
    first_part config held (g.B.Board.reads c.args.board.now) old c.load.new.into c.spelled-bytes.result (g.B.Board.trace c.args.board.now) (g.B.Board.trace c.load.new.self) (g.B.Board.trace c.store_settled.new.board)
    size (c.in_ok-load.ensures.bytes tells) (c.in_ok-load.ensures.reads tells) (c.in_ok-load.ensures.trace tells) c.if-first.false (c.store_settled.ensures.moments tells).moments

pub returns-in_err-store_settled-2-clause-moments : goal.returns-in_err-store_settled-2-clause-moments
returns-in_err-store_settled-2-clause-moments g c = λ tells.
    let config = config_view c.args.c.now in
    let held = record_view c.args.m.now in
    let old = g.B.Board.reads c.load.new.self in
    let size = (g.met.B.Board.possible c.load.new.self tells).size in
    Grew-then
    (first_part config held (g.B.Board.reads c.args.board.now) old c.load.new.into c.spelled-bytes.result (g.B.Board.trace c.args.board.now) (g.B.Board.trace c.load.new.self) (g.B.Board.trace c.store_settled.new.board)
    size (c.in_ok-load.ensures.bytes tells) (c.in_ok-load.ensures.reads tells) (c.in_ok-load.ensures.trace tells) c.if-first.false (c.store_settled.ensures.moments tells).moments)
    (second_moments config held old c.spelled-bytes.result size (g.B.Board.reads c.store_settled.new.board) c.spelled-bytes.ensures (c.in_ok-store_settled.ensures.ok tells) (c.store_settled-2.ensures.moments tells).moments)

pub returns-clause-moments : goal.returns-clause-moments
returns-clause-moments g c = λ tells.
    let config = config_view c.args.c.now in
    let held = record_view c.args.m.now in
    let old = g.B.Board.reads c.load.new.self in
    let size = (g.met.B.Board.possible c.load.new.self tells).size in
    Grew-then
    (first_part config held (g.B.Board.reads c.args.board.now) old c.load.new.into c.spelled-bytes.result (g.B.Board.trace c.args.board.now) (g.B.Board.trace c.load.new.self) (g.B.Board.trace c.store_settled.new.board)
    size (c.in_ok-load.ensures.bytes tells) (c.in_ok-load.ensures.reads tells) (c.in_ok-load.ensures.trace tells) c.if-first.false (c.store_settled.ensures.moments tells).moments)
    (second_moments config held old c.spelled-bytes.result size (g.B.Board.reads c.store_settled.new.board) c.spelled-bytes.ensures (c.in_ok-store_settled.ensures.ok tells) (c.store_settled-2.ensures.moments tells).moments)

pub returns-clause-ok : goal.returns-clause-ok
returns-clause-ok g c = λ tells.
    let possible = g.met.B.Board.possible c.store_settled-2.new.board tells in
    formatted_leaves (config_view c.args.c.now) (record_view c.args.m.now) (g.B.Board.reads c.load.new.self) c.spelled-bytes.result (g.met.B.Board.possible c.load.new.self tells).size (g.B.Board.reads c.store_settled.new.board) (g.B.Board.reads c.store_settled-2.new.board) (g.B.Board.trace c.store_settled-2.new.board)
    c.spelled-bytes.ensures (c.in_ok-store_settled.ensures.ok tells) (c.in_ok-store_settled-2.ensures.ok tells) (c.in_ok-store_settled-2.ensures.stores tells).settled possible
