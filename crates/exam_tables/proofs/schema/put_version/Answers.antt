use Rattle.exam_tables.proofs.Words.{state, HasRuled}
use Rattle.std.proofs.Common.{pos, Ok, [], ◌∷◌, lit<}
use Rattle.sqlite_value.specs.declared.value.Value.TheVariants.{Int}
use Rattle.exam_sql.proofs.OfOffice as office
use Rattle.exam_tables.specs.Versions.{HasNewest, version}
use Rattle.exam_tables.proofs.Creating.{leads_by, version_refused}
use Rattle.exam_tables.proofs.Steps.{passed}
use Rattle.exam_tables.proofs.schema.put_version.Goals as goal

pub returns-clause-made : goal.returns-clause-made
returns-clause-made g c = λ all.
    let old = state g.S.Store c.args.tx.now.conn.now in
    let new = state g.S.Store c.run.new.tx.conn.now in
    leads_by (HasRuled old.is_open all) (HasNewest all) old new office.put_text (Int (pos version) ∷ []) c.run.result
    (λ count run was. office.puts old new (pos version) (Ok count) run all was.0) (version_refused old new all)
    (rw (c.from.ensures, passed version (lit< tt)) at c.run.ensures.runs)
