use Rattle.exam_types.proofs.ValueFacts.{none_read, read_in_range, value_found}
use Rattle.exam_types.proofs.ranged.Ranged.parse.Goals as goal

pub returns-in_err-read-clause-value : goal.returns-in_err-read-clause-value
returns-in_err-read-clause-value g c =
    let form = g.F.Form in
    let spelling = g.F.Spelling.Spelling in
    let laws = g.met.F.Form in
    let bytes = c.args.bytes.now in
    value_found form.in_range spelling.text form.least form.greatest bytes c.from_residual.result laws.is_between
    (none_read form.in_range spelling.text spelling.limit bytes c.from_residual.result laws.is_spelled
    c.in_err-read.ensures c.from_residual.ensures)

pub returns-clause-value : goal.returns-clause-value
returns-clause-value g c =
    let form = g.F.Form in
    let spelling = g.F.Spelling.Spelling in
    let laws = g.met.F.Form in
    let bytes = c.args.bytes.now in
    value_found form.in_range spelling.text form.least form.greatest bytes c.of.result laws.is_between
    (read_in_range form.in_range spelling.text spelling.limit bytes c.read.result c.in_ok-read.field-0 c.of.result
    laws.is_spelled c.read.ensures c.in_ok-read.was c.of.ensures)
