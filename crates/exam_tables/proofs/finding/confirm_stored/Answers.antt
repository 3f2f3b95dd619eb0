use Rattle.std.proofs.Common.{◌≡◌, rules, true, false, Err, sym, ◌∙◌}
use Rattle.exam_tables.proofs.OneByOne.{read_short, row_is, same_read}
use Rattle.exam_tables.proofs.finding.confirm_stored.Goals as goal

pub returns-in_err-found-clause-bad : goal.returns-in_err-found-clause-bad
returns-in_err-found-clause-bad c = λ formed was.
    let e = c.in_err-found.field-0.0 in
    let is : c.from_residual.result ≡ Err e = search rules in
    let short = read_short
    (c.args.key.now, c.args.appeal.now) c.args.row.now e c.in_err-found.ensures.read formed was in
    rw is short

pub returns-then-is_same-clause-ok : goal.returns-then-is_same-clause-ok
returns-then-is_same-clause-ok c =
    row_is (c.args.key.now, c.args.appeal.now) c.args.row.now c.in_ok-found.found c.in_ok-found.ensures.read
    (sym c.is_same.ensures ∙ c.if-is_same.true)

pub returns-clause-bad : goal.returns-clause-bad
returns-clause-bad c = λ formed was.
    let same = same_read
    (c.args.key.now, c.args.appeal.now) c.args.row.now c.in_ok-found.found c.in_ok-found.ensures.read formed was in
    let differ : true ≡ false = sym (c.is_same.ensures ∙ same) ∙ c.if-is_same.false in
    absurd cc
