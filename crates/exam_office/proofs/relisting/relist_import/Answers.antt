use Rattle.std.proofs.Common.{◌≡◌, true, List, ap, sym, subst, ◌∙◌, inl, inr}
use Rattle.exam_rules.specs.Relations.{relations_of}
use Rattle.exam_commands.specs.declared.import_row.Row.{Row}
use Rattle.exam_commands.specs.Imports.{AreOfKind}
use Rattle.exam_office.proofs.KeptImports.{import_opens, is_unlisted, kept_import}
use Rattle.exam_office.proofs.relisting.relist_import.Goals as goal

pub returns-in-Sessions-clause-ok : goal.returns-in-Sessions-clause-ok
returns-in-Sessions-clause-ok c =
    let keeps : is_unlisted c.args.import.now.kind ≡ true =
    ap is_unlisted (sym c.kind.ensures)
    ∙ elim c.in-Sessions.is [
      | inl w ↦ ap is_unlisted w
      | inr rest ↦ elim rest
          [ inl w ↦ ap is_unlisted w | inr rest ↦ elim rest [ inl w ↦ ap is_unlisted w | inr w ↦ ap is_unlisted w ] ]
    ] in
    let of : AreOfKind c.args.import.now.kind c.args.import.now.rows =
    subst (λ (rows : List Row). AreOfKind c.args.import.now.kind rows) c.rows-rows.ensures.value
    c.rows-rows.ensures.kind in
    kept_import c.args.import.now c.requires.0
    (relations_of c.args.facts.now) c.requires.2 c.args.lists.now c.requires.1 of keeps

pub returns-in_ok-halls-in-Openings-clause-ok : goal.returns-in_ok-halls-in-Openings-clause-ok
returns-in_ok-halls-in-Openings-clause-ok c =
    let of : AreOfKind c.args.import.now.kind c.args.import.now.rows =
    subst (λ (rows : List Row). AreOfKind c.args.import.now.kind rows) c.rows-rows.ensures.value
    c.rows-rows.ensures.kind in
    c.in_ok-halls-in-Openings.ensures.ok c.requires.0 c.requires.1
    (import_opens c.args.import.now c.requires.0 (relations_of c.args.facts.now) c.requires.2 of
    (sym c.kind.ensures ∙ c.in-Openings.is))
