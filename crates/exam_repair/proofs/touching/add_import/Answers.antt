-- All rows of an import are of its kind, so what they reach is what rows of this kind reach.
use Rattle.std.proofs.Common.{◌≡◌, ◌||◌, List, true, ap, subst, sym, ◌∙◌}
use Rattle.std.specs.BTreeSet.{contains}
use Rattle.std.specs.List.{list_any}
use Rattle.exam_rules.specs.Relations.{Relations, code_cmp, relations_of}
use Rattle.exam_commands.specs.Imports.{AreOfKind, ImportRows}
use Rattle.exam_commands.specs.declared.import_row.Row.{Row}
use Rattle.exam_commands.specs.Touched.{is_of_sessions, names_session}
use Rattle.exam_commands.proofs.Repairing.{on_ok}
use Rattle.exam_repair.proofs.Gathering.{candidates_reach, halls_reach, names_all, names_only, opens_named}
use Rattle.exam_repair.proofs.Gathering.{others_reach, sessions_reach}
use Rattle.exam_repair.proofs.touching.add_import.Goals as goal

pub returns-in-Sessions-clause-ok : goal.returns-in-Sessions-clause-ok
returns-in-Sessions-clause-ok c =
    let import : ImportRows = c.args.import.now in
    let r : Relations = relations_of c.args.facts.now in
    let of : AreOfKind import.kind import.rows =
    subst (AreOfKind import.kind) c.rows-rows.ensures.value c.rows-rows.ensures.kind in
    on_ok c.add_standing.result _ _ c.add_standing.ensures.ok (λ added s.
    added s
    ∙ ap (λ b. b || contains code_cmp c.args.codes.now s)
    (sym (sessions_reach r s import of (ap is_of_sessions (sym c.kind.ensures ∙ c.in-Sessions.is)))))

pub returns-in-Halls-clause-ok : goal.returns-in-Halls-clause-ok
returns-in-Halls-clause-ok c =
    let import : ImportRows = c.args.import.now in
    let r : Relations = relations_of c.args.facts.now in
    let of : AreOfKind import.kind import.rows =
    subst (AreOfKind import.kind) c.rows-rows.ensures.value c.rows-rows.ensures.kind in
    on_ok c.add_halls.result _ _ c.add_halls.ensures.ok (λ added s.
    added s
    ∙ ap (λ (rows : List Row). list_any (opens_named rows s) r.openings || contains code_cmp c.args.codes.now s)
    c.rows-rows.ensures.value
    ∙ ap (λ b. b || contains code_cmp c.args.codes.now s)
    (sym (halls_reach r s import of (sym c.kind.ensures ∙ c.in-Halls.is))))

pub returns-in-Candidates-clause-ok : goal.returns-in-Candidates-clause-ok
returns-in-Candidates-clause-ok c = λ s.
    let import : ImportRows = c.args.import.now in
    let r : Relations = relations_of c.args.facts.now in
    let of : AreOfKind import.kind import.rows =
    subst (AreOfKind import.kind) c.rows-rows.ensures.value c.rows-rows.ensures.kind in
    ap (λ b. b || contains code_cmp c.args.codes.now s)
    (sym (candidates_reach r s import of (sym c.kind.ensures ∙ c.in-Candidates.is)))

pub returns-in-Papers : goal.returns-in-Papers
returns-in-Papers c =
    let import : ImportRows = c.args.import.now in
    let r : Relations = relations_of c.args.facts.now in
    let of : AreOfKind import.kind import.rows =
    subst (AreOfKind import.kind) c.rows-rows.ensures.value c.rows-rows.ensures.kind in
    let all : names_all import.kind ≡ true =
    sym (ap names_all c.kind.ensures) ∙ names_only c.kind.result c.in-Papers.is in
    record {
      ok = on_ok c.add_rows.result _ _ c.add_rows.ensures.ok (λ added s.
          added s
          ∙ ap (λ (rows : List Row). list_any
          (λ (x : Row). names_session r x s) rows || contains code_cmp c.args.codes.now s) c.rows-rows.ensures.value
          ∙ ap (λ b. b || contains code_cmp c.args.codes.now s) (sym (others_reach r s import of all)));
      memory = c.add_rows.ensures.memory;
    }
