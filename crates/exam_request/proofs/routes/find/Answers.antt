use Rattle.std.proofs.Common.{option_map, ap}
use Rattle.exam_request.proofs.FoundRoutes.{found_reads, is_text, missing_reads}
use Rattle.exam_request.proofs.routes.find.Goals as goal

pub returns-in_default : goal.returns-in_default
returns-in_default c =
    missing_reads c.args.target.now (is_text c.args.target.now c.type_inv.target)
    (rw c.requires at c.in_default.ensures.missing)

pub returns : goal.returns
returns c =
    let t = is_text c.args.target.now c.type_inv.target in
    let f = rw c.requires at c.in-Ok.ensures.found in
    let r = found_reads c.args.target.now c.in-Ok.found.value.now t (ap (option_map (λ r. r.value)) f) in
    rw (c.reference_at.ensures, c.part_at-number.ensures.value, c.as_bytes-bytes.ensures.value) r
