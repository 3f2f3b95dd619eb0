-- Only the keys that were kept can have changed, so to put what they have now makes the table what it is. Those walked
-- so far are put.
use Rattle.std.proofs.Common.{◌≡◌, ◌++◌, ◌∷◌, [], List, Option, None, Some, map, ap, sym, subst, append-nil, ◌∙◌}
use Rattle.std.specs.Option.{option_copied}
use Rattle.std.specs.Map.Iter.{deref_pair}
use Rattle.std.proofs.lemmas.List.{map-append}
use Rattle.exam_rules.specs.Relations.{row_at}
use Rattle.exam_store.proofs.RowsTurning.{more_put, none_put, rows_at, rows_turn}
use Rattle.exam_store.proofs.saving.rows_put.Goals as goal

pub loop-key-preserved : goal.loop-key-preserved
loop-key-preserved g c =
    let cmp = g.K.Ord.cmp in
    let after = c.args.after.now.entries in
    let so_far = map deref_pair c.loop-key.put.items in
    let turn : g.row.K.Denot × Option g.row.V.Denot = (c.in-Some.key.now, c.in-Some.field-0-1.now) in
    let none : row_at cmp after c.in-Some.key.now ≡ None = sym c.get.ensures.value ∙ ap option_copied c.in_default.is in
    none_put cmp after so_far turn c.next.new.self none
    ∙ subst (λ (es : List (g.row.K.Denot × Option g.row.V.Denot)). so_far
    ++ rows_at cmp after es ≡ rows_at cmp after c.args.was.now.entries) c.in-Some.ensures.steps c.loop-key.invariant

pub loop-key-preserved-in-Continue-1 : goal.loop-key-preserved-in-Continue-1
loop-key-preserved-in-Continue-1 g c =
    let cmp = g.K.Ord.cmp in
    let after = c.args.after.now.entries in
    let so_far : List (g.row.K.Denot × g.row.V.Denot) = map deref_pair c.loop-key.put.items in
    let turn : g.row.K.Denot × Option g.row.V.Denot = (c.in-Some.key.now, c.in-Some.field-0-1.now) in
    let row = c.in-Some-get.row.now in
    let at : row_at cmp after c.in-Some.key.now ≡ Some row =
    sym c.get.ensures.value ∙ ap option_copied c.in-Some-get.is in
    let more : map deref_pair c.push.new.self.items ≡ so_far ++ (c.in-Some.key.now, row) ∷ [] =
    ap (map deref_pair) c.in_ok-push.ensures.items
    ∙ map-append deref_pair c.loop-key.put.items ((c.in-Some.key, c.in-Some-get.row) ∷ []) in
    ap (λ (l : List (g.row.K.Denot × g.row.V.Denot)). l ++ rows_at cmp after c.next.new.self) more
    ∙ more_put cmp after so_far turn c.next.new.self row at
    ∙ subst (λ (es : List (g.row.K.Denot × Option g.row.V.Denot)). so_far
    ++ rows_at cmp after es ≡ rows_at cmp after c.args.was.now.entries) c.in-Some.ensures.steps c.loop-key.invariant

pub returns : goal.returns
returns g c old exact up there back =
    let cmp = g.K.Ord.cmp in
    let after = c.args.after.now.entries in
    let was = c.args.was.now.entries in
    let so_far = map deref_pair c.loop-key.put.items in
    let put : so_far ≡ rows_at cmp after was =
    sym (append-nil so_far)
    ∙ subst (λ (es : List (g.row.K.Denot × Option g.row.V.Denot)). so_far
    ++ rows_at cmp after es ≡ rows_at cmp after was) c.in-None.ensures.steps.0 c.loop-key.invariant in
    rw (put, c.new.ensures.items)
    (rows_turn g.met.K.Ord.total exact.keys was old after c.len.ensures.ordered up c.len-2.ensures.ordered there
    back)
