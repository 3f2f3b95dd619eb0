-- The first appeal of the session from there on heads the rows that are left. The database confirms it, or the reason
-- is one of reading.
use Rattle.std.proofs.Common.{◌≡◌, [], ◌∷◌, refl, ap, map, subst}
use Rattle.std.specs.declared.ops.Bound.TheVariants.{Excluded}
use Rattle.sqlite.specs.Held.{state}
use Rattle.exam_rules.specs.Relations.{Relations}
use Rattle.exam_rules.specs.Tables as table
use Rattle.exam_views.specs.Views.{appeal_row}
use Rattle.exam_tables.specs.Appeals.{KeyedAppeal, appeals_from}
use Rattle.exam_store.specs.InTurn.{rows_from}
use Rattle.exam_store.specs.OnlyRead.{read_itself}
use Rattle.exam_store.proofs.ReadInTurn.{among, clean_before, gives_ok, left_any, refused_all}
use Rattle.exam_store.proofs.store.Store.read_appeal.Goals as goal

pub returns-in-Some-clause-row : goal.returns-in-Some-clause-row
returns-in-Some-clause-row g c =
    let it : KeyedAppeal = (c.in-Some.key.now, c.in-Some.appeal.now) in
    let s = c.args.session.now in
    let first = subst (λ (r : Relations). appeals_from r.appeals s c.args.from ≡ it
    ∷ appeals_from r.appeals s (Excluded it.0)) c.facts.ensures c.in-Some.ensures in
    rw (← c.self.view_is)
    (gives_ok c.self.inside.office s c.args.from it first c.confirmed_row.result c.confirmed_row.ensures.row)

pub returns-in-Some-clause-refusal : goal.returns-in-Some-clause-refusal
returns-in-Some-clause-refusal g c =
    let it : KeyedAppeal = (c.in-Some.key.now, c.in-Some.appeal.now) in
    let s = c.args.session.now in
    let first = subst (λ (r : Relations). appeals_from r.appeals s c.args.from ≡ it
    ∷ appeals_from r.appeals s (Excluded it.0)) c.facts.ensures c.in-Some.ensures in
    let has = among c.self.inside.office.relations.appeals s c.args.from it _ first in
    rw (← c.self.view_is)
    (refused_all g.S.Store c.self.inside.office c.self.inside.conn c.confirmed_row.new.conn it
    (c.show_order.ensures.tables table.Appeals) has c.confirmed_row.result c.confirmed_row.ensures.told
    c.confirmed_row.ensures.failed)

pub returns-in-Some-clause-read : goal.returns-in-Some-clause-read
returns-in-Some-clause-read g c =
    let survives = c.confirmed_row.ensures.survives in
    rw (← c.self.view_is)
    (record {
      office = refl;
      clean = clean_before (state g.S.Store c.self.inside.conn) (state g.S.Store c.confirmed_row.new.conn) survives;
      left = λ clean. left_any g.S.Store c.self.inside.conn c.confirmed_row.new.conn c.confirmed_row.result
          (c.confirmed_row.ensures.left clean);
      survives = survives;
    })

pub returns-in-None-clause-row : goal.returns-in-None-clause-row
returns-in-None-clause-row g c =
    let none = subst (λ (r : Relations). appeals_from r.appeals c.args.session.now c.args.from ≡ []) c.facts.ensures
    c.in-None.ensures in
    let nothing : rows_from c.self.inside.office c.args.session.now c.args.from ≡ [] = ap (map appeal_row) none in
    rw (← c.self.view_is) (nothing, nothing)

pub returns-in-None-clause-read : goal.returns-in-None-clause-read
returns-in-None-clause-read g c =
    rw (← c.self.view_is)
    (read_itself g.S.Store (record { office = c.self.inside.office; database = c.self.inside.conn }))
