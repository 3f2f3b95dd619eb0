-- What the database promises of the statement, where it succeeds and where it fails. Each of its errors is reported as
-- a refusal of the store.
use Rattle.exam_tables.proofs.Words.{cases_Bool, Ghosts, Row, Error, SqliteFailure, OutOfMemory, Held, state}
use Rattle.exam_tables.proofs.Words.{refusal_of}
use Rattle.std.proofs.Common.{◌≡◌, ℕ, false, List, Result, Err, inl, inr, refl, sym, subst}
use Rattle.std.specs.Prelude.{IsTrue}
use Rattle.sqlite_resolve.specs.declared.error.CompileError.TheVariants.{NoSuchTable, NoSuchColumn}
use Rattle.sqlite.specs.declared.error.Error.TheVariants.{SqlInputError}
use Rattle.sqlite.specs.declared.error.ErrorCode.TheVariants.{TransactionState}
use Rattle.sqlite.specs.State.{ExecutesInside, KeepsCommit}
use Rattle.sqlite.proofs.InsideLemmas.{inside_keeps}
use Rattle.exam_tables.specs.Faults.{is_store_refusal}
use Rattle.exam_tables.proofs.statements.run.Goals as goal

-- inside a transaction a statement commits nothing, and outside it is not run
keeps : {S : Type 0} (g : Ghosts S) (sql : List ℕ) (params : Row) (old new : Held S) (result : Result ℕ Error)
    → ((state g old).in_transaction ≡ false → (result ≡ Err (SqliteFailure TransactionState)) × (new ≡ old))
    → (IsTrue (state g old).in_transaction → ExecutesInside 0 sql params (state g old) (state g new) result)
    → KeepsCommit (state g old) (state g new)
keeps g sql params old new result ended runs = elim (cases_Bool (state g old).in_transaction) [
  | inl going ↦ inside_keeps (state g old) (state g new) 0 false sql params result (runs going)
  | inr none ↦
      subst (λ h. KeepsCommit (state g old) (state g h)) (sym (ended none).1)
      (record { was_open = λ is. is; committed = λ is. refl })
]

told : (error : Error) → IsTrue (is_store_refusal (refusal_of error))
told (SqliteFailure OutOfMemory) = refl
told (SqlInputError NoSuchTable) = refl
told (SqlInputError NoSuchColumn) = refl
told _ = refl

pub returns-in-Ok-clause-runs : goal.returns-in-Ok-clause-runs
returns-in-Ok-clause-runs g c = record {
  ran = λ clean going. let did = c.in-Ok.ensures.runs clean going in (_, did.0, did.1.mode);
  failed = λ clean going. tt;
  kept = λ clean. keeps g.S.Store _ _ c.args.tx.now.conn.now c.execute.new.self.conn.now c.execute.result
      c.execute.ensures.ended (c.execute.ensures.runs clean);
  survives = c.execute.ensures.survives;
  told = tt;
}

pub returns-in-Err-clause-runs : goal.returns-in-Err-clause-runs
returns-in-Err-clause-runs g c = record {
  ran = λ clean going. tt;
  failed = λ clean going. (c.in-Err.error, c.refusal_of.ensures, c.in-Err.ensures.runs clean going);
  kept = λ clean. keeps g.S.Store _ _ c.args.tx.now.conn.now c.execute.new.self.conn.now c.execute.result
      c.execute.ensures.ended (c.execute.ensures.runs clean);
  survives = c.execute.ensures.survives;
  told = subst (λ e. IsTrue (is_store_refusal e)) (sym c.refusal_of.ensures) (told c.in-Err.error);
}
