use Rattle.exam_program.proofs.Opened.{found_for, made_for, not_found_for, not_made}
use Rattle.exam_program.proofs.databases.open_office.Goals as goal

pub returns-in-Init-clause-found : goal.returns-in-Init-clause-found
returns-in-Init-clause-found g c =
    rw c.in-Init.is (made_for g.S.Store c.args.conn c.create.result c.create.ensures.empty c.create.ensures.made
    c.create.ensures.found)

pub returns-in-Init-clause-refused : goal.returns-in-Init-clause-refused
returns-in-Init-clause-refused g c =
    rw c.in-Init.is
    (not_made g.S.Store c.args.conn c.create.result c.create.ensures.made c.create.ensures.refused
    c.create.ensures.told)

pub returns-in_default-clause-found : goal.returns-in_default-clause-found
returns-in_default-clause-found g c =
    found_for g.S.Store c.args.conn c.args.line.now.job c.in_default.not-Init c.open.result c.open.ensures.found

pub returns-in_default-clause-refused : goal.returns-in_default-clause-refused
returns-in_default-clause-refused g c =
    not_found_for g.S.Store c.args.conn c.open.result c.open.ensures.refused c.open.ensures.told c.args.line.now.job
    c.in_default.not-Init
