-- A key is put in its place, and the places of the keys that are still to come are not touched by it.
use Rattle.std.proofs.Common.{◌≡◌, ◌∷◌, List, Option, ap, sym, subst, ◌∙◌}
use Rattle.std.specs.Map.{keys_of}
use Rattle.std.proofs.lemmas.Map.Keys.{sorted_tail}
use Rattle.exam_rules.specs.Orders.{KeysRise}
use Rattle.exam_commands.specs.Exchanges.{HasRows, put_back}
use Rattle.exam_changes.proofs.Exchanges.{has_first}
use Rattle.exam_changes.proofs.GoingBack.{there_later}
use Rattle.exam_changes.proofs.kept.put_back.Goals as goal

pub set-requires : goal.set-requires
set-requires g c = λ has.
    let cmp = g.K.Ord.cmp in
    let turn : g.row.K.Denot × Option g.row.V.Denot = (c.in-Some.key, c.in-Some.row) in
    subst (λ (es : List (g.row.K.Denot × Option g.row.V.Denot)). HasRows cmp es c.loop-key.rows.entries)
    c.in-Some.ensures.steps c.loop-key.invariant.there c.in-Some.key
    (has_first cmp g.met.K.Ord.total c.requires.exact turn c.next.new.self)

pub loop-key-preserved : goal.loop-key-preserved
loop-key-preserved g c =
    let cmp = g.K.Ord.cmp in
    let rows = c.loop-key.rows.entries in
    let turn : g.row.K.Denot × Option g.row.V.Denot = (c.in-Some.key, c.in-Some.row) in
    let rest : List (g.row.K.Denot × Option g.row.V.Denot) = c.next.new.self in
    let up : KeysRise cmp (turn ∷ rest) = subst (KeysRise cmp) c.in-Some.ensures.steps c.loop-key.invariant.left_rise in
    record {
      so_far =
          ap (λ (held : List (g.row.K.Denot × g.row.V.Denot)). put_back cmp held rest) c.set.ensures.set
          ∙ subst (λ (es : List (g.row.K.Denot × Option g.row.V.Denot)). put_back cmp rows es
          ≡ put_back cmp c.args.rows.now.entries c.args.kept.entries) c.in-Some.ensures.steps
          c.loop-key.invariant.so_far;
      there =
          subst (HasRows cmp rest) (sym c.set.ensures.set)
          (there_later cmp g.met.K.Ord.total c.requires.exact turn rest rows up c.loop-key.invariant.rises
          (subst (λ (es : List (g.row.K.Denot × Option g.row.V.Denot)). HasRows cmp es rows) c.in-Some.ensures.steps
          c.loop-key.invariant.there));
      left_rise = sorted_tail cmp c.in-Some.key (keys_of rest) up;
      rises = c.set.ensures.rises;
    }
