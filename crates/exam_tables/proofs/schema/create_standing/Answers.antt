use Rattle.exam_tables.proofs.Words.{state, HasFirst, HasRuled}
use Rattle.std.proofs.Common.{Ok, []}
use Rattle.exam_sql.specs.Tables as tables
use Rattle.exam_sql.proofs.AllTables.{standing_added}
use Rattle.exam_sql.proofs.Making.{adding_fails, adds_soundly, adds_table}
use Rattle.exam_sql.proofs.VersionFails.{sound_rules}
use Rattle.exam_tables.proofs.Creating.{leads_by, limited, no_marks}
use Rattle.exam_tables.proofs.schema.create_standing.Goals as goal

pub returns-clause-made : goal.returns-clause-made
returns-clause-made g c = λ is_open all.
    let old = state g.S.Store c.args.tx.now.conn.now in
    let new = state g.S.Store c.run.new.tx.conn.now in
    leads_by (HasFirst all) (HasRuled is_open all) old new tables.standing.create [] c.run.result
    (λ count run was.
    let held = no_marks new.now all was.1 (adds_table standing_added old new (Ok count) run all was.0) in (
      held,
      λ open_now. sound_rules new.now held.schema_is
          (adds_soundly standing_added old new count was.0.schema_is run),
    ))
    (λ was error run. limited old new error (adding_fails standing_added old new was.0.schema_is error run))
    c.run.ensures.runs
