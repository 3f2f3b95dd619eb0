use Rattle.std.proofs.Common.{◌≡◌, ◌∙◌, ap, refl}
use Rattle.serde_json.specs.Data.{array, member, no_members, object}
use Rattle.serde_json.specs.View.{items_view, members_view}
use Rattle.serde_json.proofs.Views.{view-Array, view-Object}
use Rattle.exam_request.proofs.Printed.{list_written}
use Rattle.exam_request.proofs.objects.list_body.Goals as goal

pub returns-clause-ok : goal.returns-clause-ok
returns-clause-ok c all are =
    let members : members_view c.put.new.map.entries
    ≡ member c.args.name.now (array (items_view c.args.rows.items)) no_members =
    c.in_ok-put.ensures.ok ∙ rw (view-Array c.args.rows, c.new-object.ensures.empty) refl in
    list_written c.args.name.now _ all _ _ are
    (view-Object c.put.new.map ∙ ap object members) c.in_ok-to_vec.ensures.text
