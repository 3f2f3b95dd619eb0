-- What reading the tables one after the other finds.
use Rattle.std.proofs.Common.{◌≡◌, List, ◌∷◌, Option, Some, None, MatchOption, inl, inr, sym, subst}
use Rattle.std.specs.BTreeMap.{BTreeMap}
use Rattle.sqlite_trees.specs.Tree.{Trees}
use Rattle.sqlite.specs.Effect.{Database}
use Rattle.exam_commands.specs.State.{State}
use Rattle.exam_commands.specs.declared.table.Table.{Table as OfficeTable}
use Rattle.exam_tables.specs.Forms.{Form}
use Rattle.exam_tables.specs.Held.{HasTable}
use Rattle.exam_sql.specs.Texts.{load_office, load_texts}
use Rattle.exam_tables.specs.Loaded.{AreUnderstood, IsUnderstood}
use Rattle.exam_tables.specs.Scanned as scanned
use Rattle.exam_check.specs.FirstBad.{HoldsNoTable, HoldsTableOf, IsFirstUnread}
use Rattle.exam_check.specs.Reading.{table_texts}

-- what loads the tables is understood, in whichever order it is said
pub in_load_order : (db : Database) → IsUnderstood db load_office → AreUnderstood db table_texts
    → AreUnderstood db load_texts
in_load_order db version
    (session, (paper, (hall, (opening, (candidate, (entry, (arrangement, (appeal, (standing, (seat, none)))))))))) = (
      version,
      (
        session,
        (
          paper,
          (hall, (candidate, (opening, (entry, (arrangement, (appeal, (seat, (standing, none)))))))),
        ),
      ),
    )

-- a table before these that was read, or that is noted since its rows are those of no entries, and so of no office
pub noted_as : {K X : Type 0} (form : Form K X) (t : OfficeTable) (ts : List OfficeTable) (all : Trees) (o : State)
    (rows : Option (BTreeMap K X)) (made : BTreeMap K X) (before after : Option OfficeTable)
    → MatchOption rows (after ≡ Some t) (λ table. (made ≡ table) × (after ≡ before))
    → scanned.IsReadAs form.cmp form (all form.tree) rows
    → (((entries : List (K × X)) → HasTable form entries all → ⊥) → HoldsNoTable all t)
    → (HasTable form made.entries all → HoldsTableOf all o t)
    → IsFirstUnread all o ts before → IsFirstUnread all o (t ∷ ts) after
noted_as form t ts all o None made before after told is none has more = inl (none is, told)
noted_as form t ts all o (Some table) made before after told is none has more =
    inr (
      has (subst (λ (m : BTreeMap _ _). HasTable form m.entries all) (sym told.0) is),
      subst (IsFirstUnread all o ts) (sym told.1) more,
    )
