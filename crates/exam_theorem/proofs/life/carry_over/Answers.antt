-- What is opened is what the migration left: the office that was there, or the connection with the database as it was.
use Rattle.exam_theorem.proofs.Words.{Ghosts, Held, state, HasCleanDisk, Refusal, OfficeIn, Commits, BringsOver}
use Rattle.exam_theorem.proofs.Words.{IsGood, IsInOrder}
use Rattle.std.proofs.Common.{arith, inl, inr}
use Rattle.std.specs.Prelude.{Result, Ok, Err, IfOk, IfErr, IsTrue}
use Rattle.std.proofs.lemmas.Result.{IfOk-weaker}
use Rattle.exam_store.specs.Found.{Finds, RefusesOpening, is_open_refusal}
use Rattle.exam_store.proofs.Marking.{opens_as}
use Rattle.exam_theorem.specs.Resting.{OpensIt, RefusesCarrying}
use Rattle.exam_theorem.proofs.Accepting.{migration_failed, opening_failed}
use Rattle.exam_theorem.proofs.Bringing.{brought, brought_over, brought_stops, opened_had, opened_rests, opened_same}
use Rattle.exam_theorem.proofs.Bringing.{opened_stops, refused_rests}
use Rattle.exam_theorem.proofs.Having.{good_had}
use Rattle.exam_theorem.proofs.life.carry_over.Goals as goal

module _ {S : Type 0} (g : Ghosts S) (old mid : Held S)
    (made : Commits {A = Unit {0}} {E = Refusal} (state g old) (state g mid) (Ok tt) BringsOver) where
  same_opened : (result : Result (OfficeIn S) (Refusal × Held S))
      → IfOk result (λ new. Finds (state g mid) (state g new.database) new.office)
      → IfOk result (λ new. IsGood new.office × IsInOrder new.office) → IfOk result (λ new. OpensIt g old new)
  same_opened (Ok new) finds good = opened_same g (state g old) (state g mid) made new finds good.1
  same_opened (Err e) finds good = tt

  -- why it is not opened, and what that leaves
  not_opened : {A : Type 0} (result : Result A (Refusal × Held S)) → IfErr result (λ e. RefusesOpening g mid e.1 e.0)
      → IfErr result (λ e. IsTrue (is_open_refusal e.0)) → IfErr result (λ e. RefusesCarrying g old e.1 e.0)
  not_opened (Ok new) refused told = tt
  not_opened (Err e) refused told = record {
    rests = opened_rests (state g old) (state g mid) made (state g e.1) refused.survives refused.same;
    stopped = opened_stops (state g old) (state g mid) made (state g e.1) refused.survives;
    why = λ clean. inr (mid, made, refused.survives, refused.refusal clean);
    only = λ clean accepted.
        let early : HasCleanDisk (state g mid) = omega (arith, refused.survives.clean, clean) in
        opening_failed g (state g old) mid (made.turned early).0 e.1 e.0 accepted (refused.refusal clean);
    told = told;
  }

-- ---- it is brought to the newest version

pub returns-in-Ok-clause-had : goal.returns-in-Ok-clause-had
returns-in-Ok-clause-had g c =
    let old = state g.S.Store c.args.conn in
    let mid = state g.S.Store c.migrate.new.conn in
    let made = brought_over old mid _ c.in-Ok.ensures.made in
    IfOk-weaker c.open.result _ _
    (λ new finds. opened_had g.S.Store old mid made new finds
    (λ clean. good_had old.now _ c.in-Ok.ensures.versions.0 (c.in-Ok.ensures.found clean))) c.open.ensures.found

pub returns-in-Ok-clause-same : goal.returns-in-Ok-clause-same
returns-in-Ok-clause-same g c =
    let old = state g.S.Store c.args.conn in
    let mid = state g.S.Store c.migrate.new.conn in
    same_opened g.S.Store c.args.conn c.migrate.new.conn (brought_over old mid _ c.in-Ok.ensures.made) c.open.result
    c.open.ensures.found c.open.ensures.good

pub returns-in-Ok-clause-stops : goal.returns-in-Ok-clause-stops
returns-in-Ok-clause-stops g c =
    let old = state g.S.Store c.args.conn in
    let mid = state g.S.Store c.migrate.new.conn in
    let made = brought_over old mid _ c.in-Ok.ensures.made in
    IfOk-weaker c.open.result _ _
    (λ new finds. opened_stops old mid made (state g.S.Store new.database) finds.survives) c.open.ensures.found

pub returns-in-Ok-clause-good : goal.returns-in-Ok-clause-good
returns-in-Ok-clause-good g c = IfOk-weaker c.open.result _ _ (λ store good. good.0) c.open.ensures.good

pub returns-in-Ok-clause-refused : goal.returns-in-Ok-clause-refused
returns-in-Ok-clause-refused g c =
    let old = state g.S.Store c.args.conn in
    let mid = state g.S.Store c.migrate.new.conn in
    not_opened g.S.Store c.args.conn c.migrate.new.conn (brought_over old mid _ c.in-Ok.ensures.made) c.open.result
    c.open.ensures.refused c.open.ensures.told

-- ---- it is not

pub returns-in-Err-clause-refused : goal.returns-in-Err-clause-refused
returns-in-Err-clause-refused g c =
    let old = state g.S.Store c.args.conn in
    let new = state g.S.Store c.migrate.new.conn in
    let it = c.in-Err.ensures in
    let made = brought old new (Err c.in-Err.refusal) it.made in
    record {
      rests = refused_rests old new c.in-Err.refusal made;
      stopped = brought_stops old new (Err c.in-Err.refusal) made
          (λ trees is may. g.met.S.Store.settled c.args.conn.store trees is may);
      why = λ clean. inl (it.refused clean).refusal;
      only = λ clean accepted.
          migration_failed g.S.Store c.args.conn c.migrate.new.conn c.in-Err.refusal accepted
          (it.refused clean).refusal;
      told = opens_as c.in-Err.refusal it.told;
    }
