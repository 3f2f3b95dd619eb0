-- The rows of the keys walked so far are deleted. Where one fails, the transaction says so, and it is what failed.
use Rattle.exam_tables.proofs.Words.{take_all, state, Makes, delete_of}
use Rattle.std.proofs.Common.{◌≡◌, ◌∷◌, [], ◌++◌, ◌+◌, Ok, Err, map, take, subst, ◌∙◌, rules}
use Rattle.std.proofs.lemmas.List.{take_more}
use Rattle.exam_tables.proofs.Steps.{one_fails, one_more}
use Rattle.exam_tables.proofs.table.delete_rows.Goals as goal

pub keys-preserved : goal.keys-preserved
keys-preserved g c =
    let more : take (c.keys.key-index + 1) c.args.keys.now ≡ take c.keys.key-index c.args.keys.now ++ c.key-item.result
    ∷ [] = search (rules, take_more) in
    record {
      same = c.in_ok-delete.ensures.same_reference ∙ c.keys.invariant.same;
      made = one_more (λ k. delete_of g.T.Shrinks.delete_text g.T.StoredRows.form.tree g.T.StoredRows.form.places
          (g.T.Shrinks.key_of k.now)) c.args.keys.now c.keys.key-index c.key-item.result more
          (state g.S.Store c.args.tx.now.conn.now) (state g.S.Store c.keys.tx.conn.now)
          (state g.S.Store c.delete.new.tx.conn.now) c.keys.invariant.made c.in_ok-delete.ensures.made;
    }

pub returns-in_err-delete-clause-same_reference : goal.returns-in_err-delete-clause-same_reference
returns-in_err-delete-clause-same_reference g c = c.in_err-delete.ensures.same_reference ∙ c.keys.invariant.same

pub returns-in_err-delete-clause-made : goal.returns-in_err-delete-clause-made
returns-in_err-delete-clause-made g c =
    let more : take (c.keys.key-index + 1) c.args.keys.now ≡ take c.keys.key-index c.args.keys.now ++ c.key-item.result
    ∷ [] = search (rules, take_more) in
    let is : c.from_residual.result ≡ Err c.in_err-delete.field-0.0 = search rules in
    rw is (one_fails (λ k. delete_of g.T.Shrinks.delete_text g.T.StoredRows.form.tree g.T.StoredRows.form.places
    (g.T.Shrinks.key_of k.now)) c.args.keys.now c.keys.key-index c.key-item.result more
    (state g.S.Store c.args.tx.now.conn.now) (state g.S.Store c.keys.tx.conn.now)
    (state g.S.Store c.delete.new.tx.conn.now) c.keys.invariant.made c.in_err-delete.field-0.0
    c.in_err-delete.ensures.made)

pub returns-clause-made : goal.returns-clause-made
returns-clause-made g c =
    let whole : take c.keys.key-index c.args.keys.now ≡ c.args.keys.now = take_all _ _ c.keys-test.false in
    subst (λ l. Makes (state g.S.Store c.args.tx.now.conn.now) (state g.S.Store c.keys.tx.conn.now) (Ok tt)
    (map (λ k. delete_of g.T.Shrinks.delete_text g.T.StoredRows.form.tree g.T.StoredRows.form.places
    (g.T.Shrinks.key_of k.now)) l)) whole c.keys.invariant.made
