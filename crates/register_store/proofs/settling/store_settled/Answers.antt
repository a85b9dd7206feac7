use Rattle.std.proofs.Common.{rules}
use Rattle.register_store.proofs.StoreMoments.{keeps_on, store_keeps, store_refused, sync_keeps, sync_settles}
use Rattle.register_store.proofs.settling.store_settled.Goals as goal

pub returns-in_err-store-clause-moments : goal.returns-in_err-store-clause-moments
returns-in_err-store-clause-moments g c = λ tells.
    keeps_on (λ cut. search rules) (store_keeps c.args.at c.args.bytes.now (g.B.Board.trace c.args.board.now) (g.B.Board.reads c.args.board.now) (c.requires.settled tells) (g.met.B.Board.possible c.args.board.now tells)
    c.store.result (g.B.Board.trace c.store.new.self) (g.B.Board.reads c.store.new.self) (c.store.ensures.gives tells))

pub returns-in_err-store-clause-stores : goal.returns-in_err-store-clause-stores
returns-in_err-store-clause-stores g c = λ tells.
    store_refused c.args.at c.args.bytes.now (g.B.Board.trace c.args.board.now) (g.B.Board.reads c.args.board.now) (c.requires.settled tells) (g.met.B.Board.possible c.args.board.now tells)
    c.in_err-store.field-0.0 c.store.result (g.B.Board.trace c.store.new.self) (g.B.Board.reads c.store.new.self) (c.store.ensures.gives tells) (search rules) _ (search rules)

pub returns-clause-moments : goal.returns-clause-moments
returns-clause-moments g c = λ tells.
    sync_keeps c.args.at c.args.bytes.now (g.B.Board.trace c.args.board.now) (g.B.Board.reads c.args.board.now) (c.requires.settled tells) (g.met.B.Board.possible c.args.board.now tells)
    (g.B.Board.trace c.store.new.self) (g.B.Board.reads c.store.new.self) (c.in_ok-store.ensures.gives tells) (g.met.B.Board.possible c.store.new.self tells)
    c.sync.result (g.B.Board.trace c.sync.new.self) (g.B.Board.reads c.sync.new.self) (c.sync.ensures.gives tells) (g.met.B.Board.possible c.sync.new.self tells)

pub returns-clause-stores : goal.returns-clause-stores
returns-clause-stores g c = λ tells.
    sync_settles c.args.at c.args.bytes.now (g.B.Board.trace c.args.board.now) (g.B.Board.reads c.args.board.now) (c.requires.settled tells) (g.met.B.Board.possible c.args.board.now tells)
    (g.B.Board.trace c.store.new.self) (g.B.Board.reads c.store.new.self) (c.in_ok-store.ensures.gives tells) (g.met.B.Board.possible c.store.new.self tells)
    c.sync.result (g.B.Board.trace c.sync.new.self) (g.B.Board.reads c.sync.new.self) (c.sync.ensures.gives tells)
