-- Why a query of a text that is understood fails.
use Rattle.exam_sql.proofs.Words.{Row, Command, Select, Schema, Compiled, CompileError, Error, SqliteFailure}
use Rattle.exam_sql.proofs.Words.{OutOfMemory, timed, Database, understood, State, FailsToQuery, IsNotRun, IsPlain}
use Rattle.exam_sql.proofs.Words.{is_failure}
use Rattle.std.proofs.Common.{◌≡◌, ◌⊎◌, inl, inr, ℕ, List, Option, None, Some, Result, IsTrue, refl, sym, ap, subst}
use Rattle.std.proofs.Common.{◌∙◌}
use Rattle.sqlite_trees.specs.declared.error.StoreError.TheVariants.{OutOfMemory as NoMemory, Io, Corrupt, Full, Broken}
use Rattle.sqlite_trees.specs.declared.error.StoreError.TheVariants.{Unstorable}
use Rattle.sqlite_schema.specs.declared.command.Command.TheVariants.{Rows}
use Rattle.sqlite_schema.specs.declared.command.Returning.{Returning}
use Rattle.sqlite.specs.Effect.{RefusesToRead}
use Rattle.sqlite.specs.State as state
use Rattle.sqlite.specs.State.{FailsToShow}

-- memory ran out, or a failure
abbrev IsKnown : Error → Type 0
IsKnown e = (e ≡ SqliteFailure OutOfMemory) ⊎ IsTrue (is_failure e)

is : (e f : Error) → e ≡ f → IsTrue (is_failure f) → IsKnown e
is e f same named = inr (subst (λ x. IsTrue (is_failure x)) (sym same) named)

of_store : (old new : State) (e : Error) (TooBig : Type 0) → state.Fails old new TooBig e → IsKnown e
of_store old new e TooBig (NoMemory, same, why, back, tells) = inl same
of_store old new e TooBig (Io, same, why, back, tells) = is e _ same refl
of_store old new e TooBig (Corrupt, same, why, back, tells) = is e _ same refl
of_store old new e TooBig (Full, same, why, back, tells) = is e _ same refl
of_store old new e TooBig (Broken, same, why, back, tells) = is e _ same refl
of_store old new e TooBig (Unstorable, same, why, back, tells) = is e _ same refl

of_read : (limit : Option ℕ) (command : Command) (db : Database) (params : Row) (e : Error)
    → RefusesToRead limit command db params e → IsKnown e
of_read limit (Select q names) db params e (inl typed) = is e _ typed.0 refl
of_read limit (Select q names) db params e (inr (inl over)) = is e _ over.0 refl
of_read limit (Select q names) db params e (inr (inr long)) = is e _ long.0 refl
of_read limit (Rows values width names) db params e long = is e _ long.0 refl
of_read limit _ db params e invalid = is e _ invalid refl

-- It fails because memory runs out, or as a failure: its text is understood.
pub query_fails : (sql : List ℕ) (params : Row) (old new : State) (schema : Schema) → old.now.schema ≡ schema
    → IsPlain (understood schema sql) → (e : Error) → FailsToQuery sql params old new e → IsKnown e
unfolding FailsToQuery IsNotRun
query_fails sql params old new schema has plain = fails
  where
    -- what the database has of the text is what the schema has of it
    from_schema : {r : Result Compiled CompileError} → understood old.now.schema sql ≡ r → understood schema sql ≡ r
    from_schema it = ap (λ s. understood s sql) (sym has) ∙ it

    shown : (c : Compiled) (now : ℕ) (e : Error) (what : Option Returning) → what ≡ None
        → FailsToShow old new sql c (timed params c.formats now) e what → IsKnown e
    shown c now e None none h = of_read old.step_limit c.command h.0 (timed params c.formats now) e h.2
    shown c now e (Some what) none h = absurd cc

    fails : (e : Error) → FailsToQuery sql params old new e → IsKnown e
    fails e (inl (inl (inl unknown, same))) = absurd (subst IsPlain (from_schema unknown.1) plain)
    fails e (inl (inl (inr (c, known, inl many), same))) = is e _ many.1 refl
    fails e (inl (inl (inr (c, known, inr (inl given)), same))) = is e _ given.1 refl
    fails e (inl (inl (inr (c, known, inr (inr timeless)), same))) = is e _ timeless.1 refl
    fails e (inl (inr failed)) = of_store old new e _ failed
    fails e (inr (c, it, stops)) = shown c it.now e c.returning (subst IsPlain (from_schema it.is) plain).0 stops
