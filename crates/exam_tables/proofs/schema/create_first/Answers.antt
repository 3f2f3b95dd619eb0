-- The tables of the statements run so far are made, and have no rows. Each statement makes the next one.
use Rattle.exam_tables.proofs.Words.{state, made, HasNoRows, Leads}
use Rattle.std.proofs.Common.{◌≡◌, ◌<◌, ◌+◌, Ok, Err, arith, get_or, refl, subst, ◌∙◌, rules}
use Rattle.exam_sql.specs.Tables as tables
use Rattle.exam_sql.specs.Tables.{first_tables}
use Rattle.exam_sql.proofs.AllTables.{each_added}
use Rattle.exam_tables.proofs.Creating.{are_ten, each_text, leads_itself, leads_refused, leads_then, table_leads}
use Rattle.exam_tables.proofs.schema.create_first.Goals as goal

pub texts-init : goal.texts-init
texts-init g c = record {
  same = refl;
  made =
      leads_itself (HasNoRows (made 0)) (HasNoRows (made 0)) (state g.S.Store c.args.tx.now.conn.now) (λ has. has);
}

pub texts-preserved : goal.texts-preserved
texts-preserved g c =
    let at = c.texts.text-index in
    let below : at < 10 = omega (arith, c.texts-test.true, are_ten c.args.statements.now c.requires) in
    let mid = state g.S.Store c.texts.tx.conn.now in
    let new = state g.S.Store c.run.new.tx.conn.now in
    let run = c.in_ok-run.ensures in
    let step = table_leads (made at) (made (at + 1)) (get_or first_tables at tables.office) _
    (each_text c.args.statements.now c.requires at _ c.texts-test.true) (each_added at below) mid new
    (Ok tt) run.runs in
    record {
      same = run.same_reference ∙ c.texts.invariant.same;
      made = leads_then (HasNoRows (made 0)) (HasNoRows (made at)) (HasNoRows (made (at + 1)))
          (state g.S.Store c.args.tx.now.conn.now) mid new (Ok tt) c.texts.invariant.made step;
    }

pub returns-in_err-run-clause-made : goal.returns-in_err-run-clause-made
returns-in_err-run-clause-made g c =
    let e = c.in_err-run.field-0.0 in
    let failed : c.from_residual.result ≡ Err e = search rules in
    let at = c.texts.text-index in
    let below : at < 10 = omega (arith, c.texts-test.true, are_ten c.args.statements.now c.requires) in
    let mid = state g.S.Store c.texts.tx.conn.now in
    let new = state g.S.Store c.run.new.tx.conn.now in
    let run = c.in_err-run.ensures in
    let step = table_leads (made at) (made (at + 1)) (get_or first_tables at tables.office) _
    (each_text c.args.statements.now c.requires at _ c.texts-test.true) (each_added at below) mid new
    (Err e) run.runs in
    rw failed (leads_then (HasNoRows (made 0)) (HasNoRows (made at)) (HasNoRows (made 10))
    (state g.S.Store c.args.tx.now.conn.now) mid new (Err e) c.texts.invariant.made
    (leads_refused (HasNoRows (made at)) (HasNoRows (made (at + 1))) (HasNoRows (made 10)) mid new e step))

pub returns-clause-made : goal.returns-clause-made
returns-clause-made g c =
    let all : c.texts.text-index ≡ 10 =
    omega (arith, c.texts-test.false, c.texts.auto.text-index-end, are_ten c.args.statements.now c.requires) in
    subst (λ n. Leads (HasNoRows (made 0)) (HasNoRows (made n)) (state g.S.Store c.args.tx.now.conn.now)
    (state g.S.Store c.texts.tx.conn.now) (Ok tt)) all c.texts.invariant.made
