-- A key that was kept before keeps its oldest row. A new key keeps the row that it had, or that it had none; if there
-- is no memory for that, the row goes back.
use Rattle.std.proofs.Common.{◌≡◌, List, Option, ap, ap₂, sym, subst, subst₂, ◌∙◌}
use Rattle.exam_rules.specs.Relations.{put_row, row_at}
use Rattle.exam_commands.specs.Exchanges.{GoBack, set_row}
use Rattle.exam_changes.proofs.GoingBack.{changed_again, changed_first, either, set_again}
use Rattle.exam_changes.proofs.kept.put_kept.Goals as goal

pub returns-then-contains_key-clause-back : goal.returns-then-contains_key-clause-back
returns-then-contains_key-clause-back g c = λ exact first back.
    let cmp = g.K.Ord.cmp in
    let was = c.args.kept.now.entries in
    let rows = c.args.rows.now.entries in
    let known = sym c.contains_key.ensures ∙ c.if-contains_key.true in
    either c.put.result c.put.ensures.ok c.put.ensures.err
    (λ put. subst (λ (new : List (g.row.K.Denot × g.row.V.Denot)). GoBack cmp was new first) (sym put)
    (changed_again cmp g.met.K.Ord.total exact was rows first c.args.key c.args.row c.len-2.ensures.ordered
    c.len.ensures.ordered back known))
    (λ same. subst (λ (new : List (g.row.K.Denot × g.row.V.Denot)). GoBack cmp was new first) (sym same) back)

pub returns-in-Ok-clause-back : goal.returns-in-Ok-clause-back
returns-in-Ok-clause-back g c = λ exact first back.
    let cmp = g.K.Ord.cmp in
    let was = c.args.kept.now.entries in
    let rows = c.args.rows.now.entries in
    let new = sym c.contains_key.ensures ∙ c.if-contains_key.false in
    let kept : c.insert-2.new.self.entries ≡ put_row cmp was c.args.key (row_at cmp rows c.args.key) =
    c.in-Ok.ensures.entries ∙ ap (λ (o : Option g.row.V.Denot). put_row cmp was c.args.key o) c.in_ok-old.ensures.old in
    subst₂ (λ (k : List (g.row.K.Denot × Option g.row.V.Denot))
    (r : List (g.row.K.Denot × g.row.V.Denot)). GoBack cmp k r first) (sym kept) (sym c.in_ok-old.ensures.entries)
    (changed_first cmp g.met.K.Ord.total exact was rows first c.args.key c.args.row c.len-2.ensures.ordered
    c.len.ensures.ordered back new)

pub returns-clause-err : goal.returns-clause-err
returns-clause-err g c = λ exact.
    let cmp = g.K.Ord.cmp in
    let rows = c.args.rows.now.entries in
    c.set.ensures.set
    ∙ ap₂ (λ (r : List (g.row.K.Denot × g.row.V.Denot)) (o : Option g.row.V.Denot). set_row cmp r c.args.key o)
    c.in_ok-old.ensures.entries
    (ap (λ (p : g.row.K.Denot × Option g.row.V.Denot). p.1) c.in-Err.ensures.value_returned
    ∙ c.in_ok-old.ensures.old)
    ∙ set_again cmp g.met.K.Ord.total exact rows c.args.key c.args.row c.len.ensures.ordered

pub returns-clause-back : goal.returns-clause-back
returns-clause-back g c = λ exact first back.
    let cmp = g.K.Ord.cmp in
    subst₂ (λ (k : List (g.row.K.Denot × Option g.row.V.Denot))
    (r : List (g.row.K.Denot × g.row.V.Denot)). GoBack cmp k r first) (sym c.in-Err.ensures.err)
    (sym (returns-clause-err g c exact)) back
