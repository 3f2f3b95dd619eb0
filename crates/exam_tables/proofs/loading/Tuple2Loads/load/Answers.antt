use Rattle.std.proofs.Common.{◌≡◌, Err, inl, rules}
use Rattle.exam_tables.specs.Parts.{then_part}
use Rattle.exam_tables.proofs.PartByPart.{all_load, next_fails, not_loaded}
use Rattle.exam_tables.proofs.loading.Tuple2Loads.load.Goals as goal

pub returns-in_err-table : goal.returns-in_err-table
returns-in_err-table g c =
    let is : c.from_residual.result ≡ Err c.in_err-table.field-0.0 = search rules in
    let part = g.T.Loads.part in
    rw is (not_loaded g.S.Store c.args.conn.now c.load.new.conn part (then_part part g.M.Loads.part)
    (λ all was. was.0) c.in_err-table.field-0.0 (λ clean all was none. inl none) c.in_err-table.ensures)

pub returns-in_err-more : goal.returns-in_err-more
returns-in_err-more g c =
    let is : c.from_residual-in_err-more.result ≡ Err c.in_err-more.field-0.0 = search rules in
    rw is (next_fails g.S.Store c.args.conn.now c.load.new.conn c.load-2.new.conn g.T.Loads.part g.M.Loads.part
    c.in_ok-table.table c.in_ok-table.ensures c.in_err-more.field-0.0 c.in_err-more.ensures)

pub returns : goal.returns
returns g c =
    all_load g.S.Store c.args.conn.now c.load.new.conn c.load-2.new.conn g.T.Loads.part g.M.Loads.part
    c.in_ok-table.table c.in_ok-table.ensures c.in_ok-more.more c.in_ok-more.ensures
