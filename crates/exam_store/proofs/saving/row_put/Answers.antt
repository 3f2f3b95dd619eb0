use Rattle.std.proofs.Common.{◌≡◌, true≢false, ◌++◌, ◌∷◌, [], None, Some, ap, sym, ◌∙◌}
use Rattle.std.specs.Option.{option_copied}
use Rattle.std.specs.Prelude.{is_some}
use Rattle.exam_rules.specs.Relations.{row_at}
use Rattle.exam_tables.proofs.RowTurning.{row_turns}
use Rattle.exam_store.proofs.saving.row_put.Goals as goal
use Rattle.exam_store.proofs.saving.row_put.Goals.{in-Some+in_ok-push, in_default}

pub returns : goal.returns
returns g c old exact up has same =
    let new = c.args.after.now.entries in
    let key = c.args.key.now in
    elim c.match-get.branch [
      | in-Some+in_ok-push w ↦
          let row = w.in-Some.row in
          let put : c.match-get.put.items ≡ (c.args.key, row) ∷ [] =
          ap (λ v. v.items) w.put-is ∙ w.in_ok-push.ensures.items
          ∙ ap (λ l. l ++ (c.args.key, row) ∷ []) c.new-put.ensures.items in
          let at : row_at g.K.Ord.cmp new key ≡ Some row.now =
          sym c.get.ensures.value ∙ ap option_copied w.in-Some.is in
          rw (put, c.new.ensures.items) (row_turns g.met.K.Ord.total key row.now exact.keys old new up same at)
      | in_default w ↦
          let none : row_at g.K.Ord.cmp new key ≡ None = sym c.get.ensures.value ∙ ap option_copied w.in_default.is in
          absurd (true≢false (sym has ∙ ap is_some none))
    ]
