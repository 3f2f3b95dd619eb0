-- The orders go on from the store that was opened, and the sheet is of the office that they leave. A refusal comes
-- before the first order.
use Rattle.exam_theorem.proofs.Words.{state, Refusal, shown}
use Rattle.std.proofs.Common.{inl, inr, refl, subst, sym}
use Rattle.std.specs.Prelude.{IsTrue, map}
use Rattle.exam_store.specs.Found.{is_open_refusal}
use Rattle.exam_theorem.proofs.Living.{ended_in_one, ends_at_rest, ends_in_tables, had_first, lived, opened_rests_on}
use Rattle.exam_theorem.proofs.life.live.Goals as goal

pub returns-in-Ok-print_after-clause-had : goal.returns-in-Ok-print_after-clause-had
returns-in-Ok-print_after-clause-had g c =
    had_first g.S.Store (state g.S.Store c.args.conn) c.in-Ok.store c.print_after.new.store
    (map shown c.args.orders.now) c.in-Ok-print_after.ensures.passes
    c.in-Ok.ensures.same
    c.in-Ok.ensures.had c.in-Ok.ensures.good

pub returns-in-Ok-print_after-clause-lives : goal.returns-in-Ok-print_after-clause-lives
returns-in-Ok-print_after-clause-lives g c = (
  c.in-Ok.store,
  c.in-Ok-print_after.ensures.passes,
  lived g.S.Store (state g.S.Store c.args.conn) c.in-Ok.store c.print_after.new.store
      (map shown c.args.orders.now) c.in-Ok-print_after.ensures.passes
      c.in-Ok.ensures.same
      c.in-Ok.ensures.stops c.in-Ok-print_after.ensures.run,
)

pub returns-in-Ok-print_after-clause-rests : goal.returns-in-Ok-print_after-clause-rests
returns-in-Ok-print_after-clause-rests g c =
    ends_at_rest g.S.Store (state g.S.Store c.args.conn) c.in-Ok.store c.print_after.new.store
    (map shown c.args.orders.now) c.in-Ok-print_after.ensures.passes
    c.in-Ok.ensures.same
    c.in-Ok.ensures.had

pub returns-in-Ok-print_after-clause-one : goal.returns-in-Ok-print_after-clause-one
returns-in-Ok-print_after-clause-one g c =
    ended_in_one g.S.Store (state g.S.Store c.args.conn) c.in-Ok.store c.print_after.new.store
    (map shown c.args.orders.now) c.in-Ok-print_after.ensures.passes
    c.in-Ok.ensures.same
    c.in-Ok-print_after.ensures.one

pub returns-in-Ok-print_after-clause-tables : goal.returns-in-Ok-print_after-clause-tables
returns-in-Ok-print_after-clause-tables g c =
    ends_in_tables g.S.Store (state g.S.Store c.args.conn) c.in-Ok.store c.print_after.new.store
    (map shown c.args.orders.now) c.in-Ok-print_after.ensures.passes
    c.in-Ok.ensures.same
    c.in-Ok.ensures.had

pub returns-in-Err-print_after-clause-refused : goal.returns-in-Err-print_after-clause-refused
returns-in-Err-print_after-clause-refused g c =
    let memory = c.in-Err-print_after.ensures.memory in
    rw (c.close.ensures, c.in-Err-print_after.ensures.same.0) (record {
      rests = opened_rests_on g.S.Store (state g.S.Store c.args.conn) c.in-Ok.store c.in-Ok.ensures.same;
      stopped = c.in-Ok.ensures.stops;
      why = λ clean. inl (inr (inl (inl memory)));
      only = λ clean accepted. inl memory;
      told = subst (λ (e : Refusal). IsTrue (is_open_refusal e)) (sym memory) refl;
    })
