use Rattle.std.proofs.Common.{inl, inr}
use Rattle.std.proofs.lemmas.Bool.{both_ways}
use Rattle.std.proofs.lemmas.Result.{IfOk-weaker, IfErr-weaker}
use Rattle.exam_sql.proofs.Listed.{listed_newest}
use Rattle.exam_store.proofs.store.Store.open.Goals as goal

pub returns-in-Ok-clause-kept : goal.returns-in-Ok-clause-kept
returns-in-Ok-clause-kept g c =
    IfOk-weaker c.store_of.result _ _ (λ store is. rw (is.0, is.1) c.in-Ok.ensures.kept) c.store_of.ensures.ok

-- where a transaction is under way

pub returns-in-Ok-clause-refused : goal.returns-in-Ok-clause-refused
returns-in-Ok-clause-refused g c =
    IfErr-weaker c.store_of.result _ _
    (λ e is. rw is.1 (record {
      refusal = λ clean. inl (is.0, is.2);
      unlisted = λ clean none. absurd (both_ways _ none (listed_newest _ (c.in-Ok.ensures.found.listed clean)));
      same = λ clean. inl (c.in-Ok.ensures.left clean);
      survives = c.in-Ok.ensures.survives;
    }))
    c.store_of.ensures.err

pub returns-in-Err-clause-refused : goal.returns-in-Err-clause-refused
returns-in-Err-clause-refused g c =
    let it = c.in-Err.ensures in
    record { refusal = λ clean. inr (it.refusal clean); unlisted = it.unlisted; same = it.left; survives = it.survives }
