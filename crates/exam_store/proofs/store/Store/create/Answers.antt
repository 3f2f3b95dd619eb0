use Rattle.std.proofs.Common.{true≢false, inl, inr, sym, ◌∙◌}
use Rattle.std.proofs.lemmas.Bool.{both_ways}
use Rattle.std.proofs.lemmas.Result.{IfOk-weaker, IfErr-weaker}
use Rattle.exam_sql.proofs.Listed.{listed_newest}
use Rattle.exam_store.proofs.store.Store.create.Goals as goal

pub returns-in-Ok-clause-kept : goal.returns-in-Ok-clause-kept
returns-in-Ok-clause-kept g c =
    IfOk-weaker c.store_of.result _ _ (λ store is. rw (is.0, is.1) c.in-Ok.ensures.kept) c.store_of.ensures.ok

-- where a transaction is under way

pub returns-in-Ok-clause-refused : goal.returns-in-Ok-clause-refused
returns-in-Ok-clause-refused g c =
    let it = c.in-Ok.ensures in
    IfErr-weaker c.store_of.result _ _
    (λ e is. rw is.1 (record {
      blank = λ clean blank. absurd (true≢false (sym is.2 ∙ (it.empty blank).1));
      other = λ there. record {
        refusal = λ clean. inl (is.0, is.2);
        unlisted = λ clean none. absurd (both_ways _ none (listed_newest _ ((it.found there).listed clean)));
        same = λ clean. inl (it.left clean there);
        survives = it.survives there;
      };
    }))
    c.store_of.ensures.err

pub returns-in-Err-clause-refused : goal.returns-in-Err-clause-refused
returns-in-Err-clause-refused g c =
    let it = c.in-Err.ensures in
    record {
      blank = it.blank;
      other = λ there. record {
        refusal = λ clean. inr (it.refusal clean there);
        unlisted = λ clean none. it.unlisted clean there none;
        same = λ clean. it.left clean there;
        survives = it.survives there;
      };
    }
