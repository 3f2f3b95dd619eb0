-- Facts, seats and lists are read of one set of rows: what the first part read the second found as it was.
use Rattle.std.proofs.Common.{◌≡◌, ◌++◌, [], ◌∷◌, Ok, Err, inl, inr, sym, subst, rules}
use Rattle.std.proofs.lemmas.Result.{IfOk-weaker, IfErr-weaker}
use Rattle.sqlite.specs.Effect.{Database}
use Rattle.sqlite.specs.Held.{state}
use Rattle.exam_sql.specs.Texts.{fact_texts, load_seat}
use Rattle.exam_tables.specs.Forms.{seats}
use Rattle.exam_tables.specs.Loaded.{AreUnderstood, IsUnderstood}
use Rattle.exam_tables.specs.OurTables.{seats_ours}
use Rattle.exam_tables.specs.Parts.{facts_part, table_part, then_part}
use Rattle.exam_tables.proofs.Leaving.{understood_still}
use Rattle.exam_tables.proofs.PartByPart.{all_load, by_queries, loaded_as, next_fails, not_loaded}
use Rattle.exam_store.specs.Parts.{held_part}
use Rattle.exam_store.specs.Refused.{HoldsFormed}
use Rattle.exam_store.proofs.loading.load_office.Goals as goal

pub returns-in_err-facts : goal.returns-in_err-facts
returns-in_err-facts g c =
    let is : c.from_residual.result ≡ Err c.in_err-facts.field-0.0 = search rules in
    rw is (not_loaded g.S.Store c.args.conn.now c.load_facts.new.conn facts_part held_part
    (λ all was. was) c.in_err-facts.field-0.0 (λ clean all was none. inl none) c.in_err-facts.ensures)

pub returns-in_err-seats : goal.returns-in_err-seats
returns-in_err-seats g c =
    let is : c.from_residual-in_err-seats.result ≡ Err c.in_err-seats.field-0.0 = search rules in
    let part = table_part seats.cmp seats in
    let next = by_queries g.S.Store c.load_facts.new.conn c.load_rows.new.conn load_seat seats_ours.loads
    (Err c.in_err-seats.field-0.0) part c.in_err-seats.ensures in
    let both = next_fails g.S.Store c.args.conn.now c.load_facts.new.conn c.load_rows.new.conn facts_part part
    c.in_ok-facts.facts c.in_ok-facts.ensures c.in_err-seats.field-0.0 next in
    rw is (not_loaded g.S.Store c.args.conn.now c.load_rows.new.conn (then_part facts_part part) held_part
    (λ all was. (was, was)) c.in_err-seats.field-0.0
    (λ clean all was none. elim none [ inl facts ↦ inl facts | inr seats ↦ inr (inl seats) ]) both)

with_seats : (db : Database) → AreUnderstood db fact_texts → IsUnderstood db load_seat
    → AreUnderstood db (fact_texts ++ load_seat ∷ [])
with_seats db (a, (b, (c, (d, (e, (f, (g, (h, none)))))))) seats = (a, (b, (c, (d, (e, (f, (g, (h, (seats, none)))))))))

pub returns : goal.returns
returns g c =
    let part = table_part seats.cmp seats in
    let old = (state g.S.Store c.args.conn.now).now in
    let next = by_queries g.S.Store c.load_facts.new.conn c.load_rows.new.conn load_seat seats_ours.loads
    (Ok c.in_ok-seats.seats) part c.in_ok-seats.ensures in
    let both = all_load g.S.Store c.args.conn.now c.load_facts.new.conn c.load_rows.new.conn facts_part part
    c.in_ok-facts.facts c.in_ok-facts.ensures c.in_ok-seats.seats next in
    loaded_as g.S.Store c.args.conn.now c.load_rows.new.conn (then_part facts_part part) held_part
    (λ all was. (was, was)) (c.in_ok-facts.facts, c.in_ok-seats.seats) c.from_parts.result both
    (λ clean. IfOk-weaker c.from_parts.result _ _
    (λ office is all was held. subst (HoldsFormed all) (sym is) held) c.from_parts.ensures.ok)
    (IfErr-weaker c.from_parts.result _ _
    (λ e why. elim why [
      | inl lacks ↦ inl lacks
      | inr bad ↦ inr
          (bad.0, λ clean all was held. inr (inr (_, held, bad.1)))
    ]) c.from_parts.ensures.refusal)
    (λ clean. understood_still c.from_parts.result (λ knows. (with_seats old knows.0.0 knows.1, knows.0.1)))
