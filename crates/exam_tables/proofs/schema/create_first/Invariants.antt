use Rattle.exam_tables.proofs.Words.{state, made, HasNoRows, Leads}
use Rattle.std.proofs.Common.{◌≡◌, Ok}
use Rattle.exam_tables.proofs.schema.create_first.Given as goal

abbrev pub invariant-texts : goal.invariant-texts
invariant-texts g l = record {
  same : l.tx.conn.ghost_name ≡ l.fn.tx.conn.ghost_name;
  made : Leads (HasNoRows (made 0)) (HasNoRows (made l.text-index)) (state g.S.Store l.fn.tx.conn.now)
      (state g.S.Store l.tx.conn.now) (Ok tt);
}
