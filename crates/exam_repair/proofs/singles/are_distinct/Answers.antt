-- The keys seen are those before the one at hand, and no two of them are equal. A key that is there already equals one
-- of them.
use Rattle.std.proofs.Common.{◌≡◌, ◌∷◌, ◌++◌, [], ◌+◌, true, false, take, drop, suc, cond, ap, sym, subst, ◌∙◌, arith}
use Rattle.std.proofs.lemmas.Grind.{common_steps}
use Rattle.std.proofs.lemmas.Bool.{not-true, not-false}
use Rattle.std.specs.BTreeMap.{is_at}
use Rattle.std.specs.Cmp.{eq_by_cmp_equiv}
use Rattle.std.specs.List.{list_any, IsDistinct}
use Rattle.std.specs.Ordering.{eq_by_cmp}
use Rattle.std.specs.BTreeSet.{contains}
use Rattle.std.proofs.lemmas.List.{take_more, take-append-drop}
use Rattle.std.proofs.lemmas.Map.Keys.{IsDistinct-push}
use Rattle.std.proofs.Math.Seq.{drop-cons}
use Rattle.exam_commands.proofs.KeyedRows.{flips}
use Rattle.exam_commands.proofs.Distinct.{distinct_none, apart_before, seen_more}
use Rattle.exam_repair.proofs.singles.are_distinct.Goals as goal

pub loop-key-init : goal.loop-key-init
loop-key-init g c = record { seen = λ k. grind (arith, common_steps); distinct = distinct_none (eq_by_cmp g.K.Ord.cmp) }

pub returns-then-not-branch-clause-ok : goal.returns-then-not-branch-clause-ok
returns-then-not-branch-clause-ok g c = (
  λ e. absurd (cc),
  λ distinct.
      let keys = c.args.keys.now in
      let i = c.loop-key.key-index in
      let y = c.key-item.result in
      let there : contains g.K.Ord.cmp c.loop-key.seen y ≡ true =
      not-false (contains g.K.Ord.cmp c.loop-key.seen y)
      (sym c.in_ok-insert.ensures.added ∙ c.if-not-branch.true) in
      let split : take i keys ++ y ∷ drop (suc i) keys ≡ keys =
      ap (λ z. take i keys ++ z ∷ drop (suc i) keys) c.key-item.is
      ∙ ap (λ t. take i keys ++ t) (sym (drop-cons keys i y c.loop-key-test.true)) ∙ take-append-drop i keys in
      sym (apart_before (eq_by_cmp g.K.Ord.cmp) (flips g.K.Ord.cmp g.met.K.Ord.total) (take i keys)
      (drop (suc i) keys) y (subst (IsDistinct (eq_by_cmp g.K.Ord.cmp)) (sym split) distinct))
      ∙ sym (c.loop-key.invariant.seen y) ∙ there,
)

pub loop-key-preserved : goal.loop-key-preserved
loop-key-preserved g c =
    let i = c.loop-key.key-index in
    let y = c.key-item.result in
    let more : take (i + 1) c.args.keys.now ≡ take i c.args.keys.now ++ y ∷ [] =
    take_more c.args.keys.now i y c.loop-key-test.true
    ∙ ap (λ z. take i c.args.keys.now ++ z ∷ []) (sym c.key-item.is) in
    let fresh : list_any (eq_by_cmp g.K.Ord.cmp y) (take i c.args.keys.now) ≡ false =
    sym (c.loop-key.invariant.seen y)
    ∙ not-true (contains g.K.Ord.cmp c.loop-key.seen y)
    (sym c.in_ok-insert.ensures.added ∙ c.if-not-branch.false) in
    record {
      seen = λ k. seen_more g.K.Ord.cmp g.met.K.Ord.total (take i c.args.keys.now) y k
          (contains g.K.Ord.cmp c.insert.new.self k)
          (c.in_ok-insert.ensures.updates.0 k
          ∙ ap (λ t. cond (is_at (g.K.Ord.cmp y) k) true t) (c.loop-key.invariant.seen k))
          ∙ ap (list_any (eq_by_cmp g.K.Ord.cmp k)) (sym more);
      distinct = subst (IsDistinct (eq_by_cmp g.K.Ord.cmp)) (sym more)
          (IsDistinct-push (eq_by_cmp_equiv g.met.K.Ord.total)
          (take i c.args.keys.now) y c.loop-key.invariant.distinct fresh);
    }
