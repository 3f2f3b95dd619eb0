-- A row that cannot be read belongs to no table; one that can is added, unless its key is there.
use Rattle.exam_tables.proofs.Words.{IfErr-weaker}
use Rattle.std.proofs.Common.{◌≡◌, Err, inl, inr, rules}
use Rattle.exam_tables.proofs.Reading.{found}
use Rattle.exam_tables.proofs.RowByRow.{no_form_begins, no_key_begins, on_ok, one_more_row}
use Rattle.exam_tables.proofs.scanning.put_row.Goals as goal

pub returns-in_err-key-clause-bad : goal.returns-in_err-key-clause-bad
returns-in_err-key-clause-bad g c =
    let is : c.from_residual.result ≡ Err c.in_err-key.field-0.0 = search rules in
    rw is (elim c.in_err-key.ensures.read [
      | inl lacks ↦ inl cc
      | inr none ↦ inr (
        none.0,
        λ given rows. no_form_begins g.T.StoredRows.form c.args.row.now given c.args.table.now.entries rows none.1,
      )
    ])

pub returns-clause-put : goal.returns-clause-put
returns-clause-put g c =
    let read = found (c.in_ok-key.key, c.in_ok-key.value) c.in_ok-key.ensures.read in
    on_ok c.add_row.result (λ more given rows.
    one_more_row g.T.StoredRows.form c.args.row.now given c.args.table.now.entries rows c.in_ok-key.key
    c.in_ok-key.value
    c.add_row.new.table.entries read.0 read.1 more c.add_row.ensures.rises) c.add_row.ensures.ok

pub returns-clause-bad : goal.returns-clause-bad
returns-clause-bad g c =
    let read = found (c.in_ok-key.key, c.in_ok-key.value) c.in_ok-key.ensures.read in
    IfErr-weaker c.add_row.result _ _ (λ e why.
    elim why [
      | inl lacks ↦ inl lacks
      | inr twice ↦ inr (
        twice.0,
        λ given rows.
            no_key_begins g.T.StoredRows.form c.args.row.now given c.args.table.now.entries rows g.met.T.Key.Ord.total
            g.met.T.StoredRows.ours.keys c.in_ok-key.key c.in_ok-key.value read.1 twice.1,
      )
    ]) c.add_row.ensures.bad
