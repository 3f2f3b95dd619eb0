use Rattle.std.proofs.Common.{◌≡◌, Err, rules}
use Rattle.sqlite.proofs.Callers.{memory_is_clean}
use Rattle.exam_tables.proofs.Creating.{only_memory}
use Rattle.exam_store.proofs.Rekeeping.{keeps_empty}
use Rattle.exam_store.proofs.store.Store+MemStore.in_memory.Goals as goal

pub returns-clause-kept : goal.returns-clause-kept
returns-clause-kept c =
    let it = c.in_ok-save_empty.ensures.made.turned (memory_is_clean c.save_empty.new.conn) in
    rw c.empty.ensures ((keeps_empty _ (it.0 c.in_ok-conn.ensures.empty.2), it.1), it.2)

pub returns-in_err-save_empty-clause-memory : goal.returns-in_err-save_empty-clause-memory
returns-in_err-save_empty-clause-memory c =
    let e = c.in_err-save_empty.field-0.0 in
    let is : c.from_residual-in_err-save_empty.result ≡ Err e = search rules in
    let empty = c.in_ok-conn.ensures.empty in
    rw is (only_memory c.in_ok-conn.conn c.save_empty.new.conn e empty c.in_ok-conn.ensures.fresh
    (c.in_err-save_empty.ensures.failed (memory_is_clean c.save_empty.new.conn) empty.2))
