use Rattle.exam_files.proofs.Appending.{more}
use Rattle.exam_files.proofs.registers.push_line.Goals as goal

pub returns-clause-ok : goal.returns-clause-ok
returns-clause-ok c =
    let t = c.args.text.now.items in
    let e1 = more t _ _ _ _ c.in_ok-write_to.ensures.ok c.in_ok-append.ensures.ok in
    let e2 = more t _ _ _ _ e1 (rw c.as_bytes.ensures.value at c.in_ok-push_left.ensures.ok) in
    let e3 = more t _ _ _ _ e2 c.in_ok-append-2.ensures.ok in
    let e4 = more t _ _ _ _ e3 (rw c.kind.ensures at c.in_ok-push_left-2.ensures.ok) in
    let e5 = more t _ _ _ _ e4 c.in_ok-append-3.ensures.ok in
    let e6 = more t _ _ _ _ e5 (rw c.state_word.ensures.value at c.in_ok-push_left-3.ensures.ok) in
    let e7 = more t _ _ _ _ e6 c.in_ok-append-4.ensures.ok in
    let e8 = more t _ _ _ _ e7 c.in_ok-write_to-2.ensures.ok in
    let e9 = more t _ _ _ _ e8 c.in_ok-append-5.ensures.ok in
    let e10 = more t _ _ _ _ e9 c.in_ok-write_subject.ensures.ok in
    more t _ _ _ _ e10 c.in_ok-append-6.ensures.ok
