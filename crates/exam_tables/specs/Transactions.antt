-- One transaction, whole or not at all, and what a crash leaves of it.
use Rattle.std.specs.Prelude.{◌≡◌, IsTrue, Result, OnOk, OnErr}
use Rattle.sqlite_trees.specs.Tree.{Trees}
use Rattle.sqlite.specs.Effect.{Database}
use Rattle.sqlite.specs.State.{State, HasCleanDisk, Survives}

-- the disk has returned what was written, and the connection is open
abbrev pub IsSound : State → Type 0
IsSound s = HasCleanDisk s × IsTrue s.is_open

-- A call turns the database into another in one transaction, or not at all.
pub record Commits {A E : Type 0} (old new : State) (result : Result A E)
    (Turns : Database → Database → Type 0) : Type 0 where
  -- if it succeeds, the database is turned, this is committed, and the connection is open
  pub turned : HasCleanDisk new → OnOk result (Turns old.now new.now × (new.committed ≡ new.now) × IsTrue new.is_open)
  -- otherwise the database is as it was
  pub same : IsSound new → OnErr result ((new.now ≡ old.now) × (new.committed ≡ old.committed))
  pub was_open : IsSound new → IsTrue old.is_open
  -- a crash after the answer leaves what was committed
  pub settled : HasCleanDisk new → OnOk result ((trees : Trees) → new.may_leave trees → trees ≡ new.committed.trees)
  -- a crash before it leaves what it left before, or all of the change
  pub survives : Survives old new (λ trees. (db : Database) × Turns old.now db × (trees ≡ db.trees))
