use Rattle.std.proofs.Common.{◌≡◌, length, arith}
use Rattle.exam_files.proofs.Appending.{more}
use Rattle.exam_files.proofs.shortages.shortage_text.Goals as goal

pub returns-clause-ok : goal.returns-clause-ok
returns-clause-ok c =
    let t = c.new-text.result.items in
    let long : c.args.shortage.now.candidates.len ≡ length c.args.shortage.now.candidates.items =
    omega (arith, c.args.shortage.now.candidates.ok.0) in
    let e1 = more t _ _ _ _ c.in_ok-push_heading.ensures.ok
    (rw c.as_slice.ensures.value at c.in_ok-push_halls.ensures.ok) in
    let e2 = more t _ _ _ _ e1 c.in_ok-append.ensures.ok in
    let e3 = more t _ _ _ _ e2 (rw (c.len.ensures, long) at c.in_ok-push_decimal.ensures.ok) in
    let e4 = more t _ _ _ _ e3 c.in_ok-append-2.ensures.ok in
    let e5 = more t _ _ _ _ e4 (rw c.as_slice-2.ensures.value at c.in_ok-push_candidates.ensures.ok) in
    rw c.new-text.ensures.items at e5
