use Rattle.std.proofs.Common.{◌≡◌, length, arith}
use Rattle.exam_files.proofs.Appending.{more}
use Rattle.exam_files.proofs.shortages.push_heading.Goals as goal

pub returns-clause-ok : goal.returns-clause-ok
returns-clause-ok c =
    let t = c.args.text.now.items in
    let long : c.args.shortage.now.halls.len ≡ length c.args.shortage.now.halls.items =
    omega (arith, c.args.shortage.now.halls.ok.0) in
    let e1 = more t _ _ _ _ c.in_ok-append.ensures.ok c.in_ok-write_to.ensures.ok in
    let e2 = more t _ _ _ _ e1 c.in_ok-append-2.ensures.ok in
    let e3 = more t _ _ _ _ e2 c.in_ok-push_decimal.ensures.ok in
    let e4 = more t _ _ _ _ e3 c.in_ok-append-3.ensures.ok in
    let e5 = more t _ _ _ _ e4 (rw (c.len.ensures, long) at c.in_ok-push_decimal-2.ensures.ok) in
    let e6 = more t _ _ _ _ e5 c.in_ok-append-4.ensures.ok in
    let e7 = more t _ _ _ _ e6
    (rw (c.desk_count.ensures, c.as_slice.ensures.value) at c.in_ok-push_decimal-3.ensures.ok) in
    more t _ _ _ _ e7 c.in_ok-append-5.ensures.ok
