-- Why a statement fails, where what the database itself may refuse is known.
use Rattle.exam_sql.proofs.Words.{Row, Command, Schema, Compiled, CompileError, Error, timed, Does, understood, State}
use Rattle.exam_sql.proofs.Words.{mode_of, Executes, ExecutesInside, Escapes, IsNotRun, IsMisplaced, text_of, IsPlain}
use Rattle.exam_sql.proofs.Words.{command_of, statement_of, Fails, is_failure}
use Rattle.std.proofs.Common.{◌≡◌, ◌||◌, ◌≤◌, inl, inr, refl, ℕ, List, [], length, false, None, Some, Option, Ok, Err}
use Rattle.std.proofs.Common.{Result, sym, ap, subst, ◌∙◌, append-nil, IsTrue}
use Rattle.sqlite.specs.Effect.{is_query}
use Rattle.sqlite.specs.State.{ExecutesIn, EndsScope, RunsCommand, shows_rows, is_pragma}
use Rattle.sqlite.specs.State as state
use Rattle.sqlite_trees.specs.declared.error.StoreError.TheVariants.{OutOfMemory, Io, Corrupt, Full, Broken, Unstorable}

-- the text is one statement with so many parameters
abbrev pub IsWhole : List ℕ → ℕ → Result Compiled CompileError → Type 0
IsWhole text count (Ok c) = (length text ≤ c.tail) × (count ≡ length c.names)
IsWhole text count (Err fault) = ⊥

module _ (old new : State) (Refused : Type 0) where
  is : (e f : Error) → e ≡ f → IsTrue (is_failure f) → IsTrue (is_failure e)
  is e f same named = subst (λ x. IsTrue (is_failure x)) (sym same) named

  -- the disk, the memory or a row that is too big
  cause : (e : Error) (TooBig : Type 0) → state.Fails old new TooBig e → (TooBig → Refused)
      → Fails old new Refused e
  cause e TooBig (OutOfMemory, same, why, back, tells) big = inl same
  cause e TooBig (Io, same, why, back, tells) big = inr (is e _ same refl, inl (inl why))
  cause e TooBig (Corrupt, same, why, back, tells) big = inr (is e _ same refl, inl (inl why))
  cause e TooBig (Full, same, why, back, tells) big = inr (is e _ same refl, inl (inl why))
  cause e TooBig (Broken, same, why, back, tells) big = inr (is e _ same refl, inl (inr why))
  cause e TooBig (Unstorable, same, why, back, tells) big = inr (is e _ same refl, inr (big why))

-- the command ends no transaction and shows no rows
pub record IsQuiet (command : Command) : Type 1 where
  pub placed : (s : State) (e : Error) → IsMisplaced s command e → ⊥
  pub stays : (s : State) → Escapes 0 s command → ⊥
  pub rowless : (is_query command || (is_pragma command || false)) ≡ false

module _ (sql : List ℕ) (params : Row) (old new : State) (schema : Schema) (has : old.now.schema ≡ schema)
    (command : Command) (commands : command_of (understood schema sql) ≡ command) (silent : IsQuiet command)
    (plain : IsPlain (understood schema sql)) (whole : IsWhole sql (length params) (understood schema sql))
    (Refused : Type 0) where
  abbrev Why : Error → Type 0
  Why = Fails old new Refused

  abbrev Stops : Option Error → Type 0
  Stops stop = Does old.step_limit (mode_of old) params old.now (statement_of sql (understood schema sql)) None command
      (Err stop)

  module _ (named : (e : Error) → Stops (Some e) → IsTrue (is_failure e))
      (refused : (stop : Option Error) → Stops stop → Refused) where
    -- what the database has of the text is what the schema has of it
    from_schema : {r : Result Compiled CompileError} → understood old.now.schema sql ≡ r → understood schema sql ≡ r
    from_schema it = ap (λ s. understood s sql) (sym has) ∙ it

    module _ (c : Compiled) (known : understood schema sql ≡ Ok c) where
      its_plain : (c.returning ≡ None) × (c.formats ≡ [])
      its_plain = subst IsPlain known plain

      its_whole : (length sql ≤ c.tail) × (length params ≡ length c.names)
      its_whole = subst (IsWhole sql (length params)) known whole

      its_command : c.command ≡ command
      its_command = sym (ap command_of known) ∙ commands

      its_text : text_of sql c ≡ statement_of sql (understood schema sql)
      its_text = sym (ap (statement_of sql) known)

      stops : (now : ℕ) (stop : Option Error)
          → Does old.step_limit (mode_of old) (timed params c.formats now) old.now
          (text_of sql c) c.returning c.command (Err stop) → Stops stop
      stops now stop does =
          subst (λ t. Does old.step_limit (mode_of old) params old.now t None command (Err stop)) its_text
          (rw (its_plain.0, its_plain.1, its_command, append-nil params) at does)

      quiet : shows_rows false c ≡ false
      quiet = rw (its_plain.0, its_command) silent.rowless

      command_fails : (now : ℕ) (e : Error) → RunsCommand old new sql c (timed params c.formats now) (Err e) → Why e
      command_fails now e (inl (inl wrong, same)) =
          absurd (silent.placed old e (subst (λ k. IsMisplaced old k e) its_command wrong))
      command_fails now e (inl (inr (may, does), same)) = let it =
          stops now (Some e) does in inr (named e it, inr (refused (Some e) it))
      command_fails now e (inr failed) = cause old new _ e _ failed (λ big. refused None (stops now None big))

    fails_as : (e : Error) → Executes sql params old new (Err e) → Why e
    unfolding ExecutesIn IsNotRun
    fails_as e (inl (inl (inl unknown, same))) = absurd (subst IsPlain (from_schema unknown.1) plain)
    fails_as e (inl (inl (inr (c, known, inl many), same))) = absurd (many.0 (its_whole c (from_schema known)).0)
    fails_as e (inl (inl (inr (c, known, inr (inl given)), same))) =
        absurd (given.0 (its_whole c (from_schema known)).1)
    fails_as e (inl (inl (inr (c, known, inr (inr timeless)), same))) =
        absurd (timeless.0 (its_plain c (from_schema known)).1)
    fails_as e (inl (inr failed)) = cause old new _ e _ failed (λ big. absurd big)
    fails_as e (inr (c, it, ran)) =
        let known = from_schema it.is in
        command_fails c known it.now e (rw (quiet c known) at ran)

    -- It fails because memory runs out, because the disk or the connection fails, or because the database refuses it.
    pub fails_by : (e : Error) → ExecutesInside 0 sql params old new (Err e) → Why e
    unfolding EndsScope
    fails_by e (inl (ran, same)) = fails_as e ran
    fails_by e (inr ((c, it, ends), told_as, same)) =
        absurd (silent.stays old (subst (Escapes 0 old) (its_command c (from_schema it.is)) ends))
