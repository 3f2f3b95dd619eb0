use Rattle.exam_tables.proofs.Words.{state, made, HasFirst, HasNoRows, IsBlank}
use Rattle.std.proofs.Common.{◌≡◌, [], Ok, Err, refl, rules}
use Rattle.exam_tables.specs.Versions.{IsMade}
use Rattle.exam_tables.proofs.Creating.{blank_is_empty, first_is_empty, leads_from, leads_then, leads_refused}
use Rattle.exam_tables.proofs.schema.create_tables.Goals as goal

pub create_first-requires : goal.create_first-requires
create_first-requires g c = refl

pub returns-clause-made : goal.returns-clause-made
returns-clause-made g c =
    let at_0 = state g.S.Store c.args.tx.now.conn.now in
    let at_1 = state g.S.Store c.create_first.new.tx.conn.now in
    let at_2 = state g.S.Store c.widen_tables.new.tx.conn.now in
    let first = leads_from (HasNoRows (made 0)) (HasNoRows (made 10)) IsBlank (HasFirst (λ tree. [])) at_0 at_1 (Ok tt)
    (blank_is_empty at_0.now) (first_is_empty at_1.now) c.in_ok-create_first.ensures.made in
    leads_then IsBlank (HasFirst (λ tree. [])) IsMade at_0 at_1 at_2 c.widen_tables.result first
    (c.widen_tables.ensures.made (λ tree. []))

pub returns-in_err-create_first-clause-made : goal.returns-in_err-create_first-clause-made
returns-in_err-create_first-clause-made g c =
    let e = c.in_err-create_first.field-0.0 in
    let is : c.from_residual.result ≡ Err e = search rules in
    let at_0 = state g.S.Store c.args.tx.now.conn.now in
    let at_1 = state g.S.Store c.create_first.new.tx.conn.now in
    let first = leads_from (HasNoRows (made 0)) (HasNoRows (made 10)) IsBlank (HasNoRows (made 10)) at_0 at_1 (Err e)
    (blank_is_empty at_0.now) (λ h. h) c.in_err-create_first.ensures.made in
    rw is (leads_refused IsBlank (HasNoRows (made 10)) IsMade at_0 at_1 e first)
