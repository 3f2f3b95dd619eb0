-- The rows walked so far are put. Where one fails, the transaction says so, and it is what failed.
use Rattle.exam_tables.proofs.Words.{take_all, state, row_put, Makes}
use Rattle.std.proofs.Common.{◌≡◌, ◌∷◌, [], ◌++◌, ◌+◌, Ok, Err, map, take, subst, ◌∙◌, rules}
use Rattle.std.proofs.lemmas.List.{take_more}
use Rattle.exam_tables.proofs.Steps.{one_fails, one_more}
use Rattle.exam_tables.proofs.table.put_rows.Goals as goal

pub rows-preserved : goal.rows-preserved
rows-preserved g c =
    let more : take (c.rows.row-index + 1) c.args.rows.now ≡ take c.rows.row-index c.args.rows.now ++ c.row-item.result
    ∷ [] = search (rules, take_more) in
    record {
      same = c.in_ok-put.ensures.same_reference ∙ c.rows.invariant.same;
      made = one_more (λ r. row_put g.T.StoredRows.form r.0.now r.1.now) c.args.rows.now c.rows.row-index
          c.row-item.result more (state g.S.Store c.args.tx.now.conn.now) (state g.S.Store c.rows.tx.conn.now)
          (state g.S.Store c.put.new.tx.conn.now) c.rows.invariant.made c.in_ok-put.ensures.made;
    }

pub returns-in_err-put-clause-same_reference : goal.returns-in_err-put-clause-same_reference
returns-in_err-put-clause-same_reference g c = c.in_err-put.ensures.same_reference ∙ c.rows.invariant.same

pub returns-in_err-put-clause-made : goal.returns-in_err-put-clause-made
returns-in_err-put-clause-made g c =
    let more : take (c.rows.row-index + 1) c.args.rows.now ≡ take c.rows.row-index c.args.rows.now ++ c.row-item.result
    ∷ [] = search (rules, take_more) in
    let is : c.from_residual.result ≡ Err c.in_err-put.field-0.0 = search rules in
    rw is (one_fails (λ r. row_put g.T.StoredRows.form r.0.now r.1.now) c.args.rows.now c.rows.row-index
    c.row-item.result more (state g.S.Store c.args.tx.now.conn.now) (state g.S.Store c.rows.tx.conn.now)
    (state g.S.Store c.put.new.tx.conn.now) c.rows.invariant.made c.in_err-put.field-0.0 c.in_err-put.ensures.made)

pub returns-clause-made : goal.returns-clause-made
returns-clause-made g c =
    let whole : take c.rows.row-index c.args.rows.now ≡ c.args.rows.now = take_all _ _ c.rows-test.false in
    subst (λ l. Makes (state g.S.Store c.args.tx.now.conn.now) (state g.S.Store c.rows.tx.conn.now) (Ok tt)
    (map (λ r. row_put g.T.StoredRows.form r.0.now r.1.now) l)) whole c.rows.invariant.made
