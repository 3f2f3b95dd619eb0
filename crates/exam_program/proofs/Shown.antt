-- What the files hold is what the connection sees that is opened over them.
use Rattle.std.proofs.Common.{◌≡◌, ◌∙◌, inr, sym, ap, subst}
use Rattle.std.proofs.Math.Logic.{∥∥₁_elim}
use Rattle.sqlite_disk.specs.declared.Disk as disk
use Rattle.sqlite_disk.specs.declared.Files.{Files}
use Rattle.sqlite_trees.specs.Props.{Trees-set}
use Rattle.sqlite_trees.specs.Tree.{Trees}
use Rattle.sqlite_schema.specs.declared.schema.Schema.{Schema}
use Rattle.sqlite_store.specs.declared.store.FileStore.{FileStore}
use Rattle.sqlite_catalog.specs.Listing.{IsSound}
use Rattle.sqlite.specs.Effect.{Database}
use Rattle.sqlite.specs.Files.{Finds, IsOpened, file_state}
use Rattle.sqlite.specs.Held.{Held}
use Rattle.exam_commands.specs.State.{State as Office}
use Rattle.exam_line.specs.Lines.{Job}
use Rattle.exam_line.specs.Lines as line
use Rattle.exam_tables.specs.Inside.{IsOurs}
use Rattle.exam_store.specs.Kept.{Keeps}
use Rattle.exam_program.specs.Files.{Hold, HoldOffice}
use Rattle.exam_program.specs.Opening.{HasTables}
use Rattle.exam_program.specs.Running.{IsReady}
use Rattle.exam_program.proofs.OneSchema.{one_schema}

pub has_tables : (j : Job) (db : Database) → IsOurs db → HasTables j db
has_tables line.init db ours = inr ours
has_tables line.migrate db ours = ours
has_tables line.check db ours = ours
has_tables (line.import kind file) db ours = ours
has_tables (line.apply done) db ours = ours
has_tables (line.serve port) db ours = ours
has_tables (line.print session sheet) db ours = ours

module _ {D : Type 0} (g : disk.Ghosts D) (files : Files D) (was : Held (FileStore D g)) where
  -- the connection sees the database that the files hold, which is committed
  pub sees : {IsSo : Database → Type 0} (held : Hold g IsSo files) → Finds files was → IsOpened was
      → ((file_state was).committed ≡ (file_state was).now) × ((file_state was).now ≡ held.db)
  sees held found opened =
      let seen = (file_state was).committed in
      let clean = opened.0.clean in
      let trees : seen.trees ≡ held.db.trees = ∥∥₁_elim held.seen.both (Trees-set _ _) (found.holds _) in
      let sound = subst (IsSound seen.schema) trees (opened.1 opened.0.is_open).1 in
      let schema : seen.schema ≡ held.db.schema =
      one_schema held.db.trees seen.schema held.db.schema sound held.sound in
      let same : seen ≡ held.db =
      ap (λ (t : Trees). record { schema = seen.schema; trees = t }) trees
      ∙ ap (λ (s : Schema). record { schema = s; trees = held.db.trees }) schema in
      (sym clean, clean ∙ same)

  pub shows : (office : Office) (job : Job) → HoldOffice g files office → Finds files was → IsOpened was
      → IsReady job (file_state was) × Keeps (file_state was).now office
  shows office job held found opened =
      let it = sees held found opened in
      let keeps = subst (λ (db : Database). Keeps db office) (sym it.1) held.keeps in
      ((it.0, has_tables job (file_state was).now (keeps.all, keeps.contains)), keeps)
