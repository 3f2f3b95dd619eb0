use Rattle.exam_tables.proofs.Words.{state}
use Rattle.std.proofs.Common.{[]}
use Rattle.exam_sql.proofs.Constant.{only_fails}
use Rattle.exam_tables.proofs.schema.ask_nothing.Goals as goal

pub returns-in-Err-clause-failed : goal.returns-in-Err-clause-failed
returns-in-Err-clause-failed g c =
    λ clean. (
      c.in-Err.error,
      c.refusal_of.ensures,
      only_fails (state g.S.Store c.args.conn.now) (state g.S.Store c.prepare.new.self) c.in-Err.error
          (c.in-Err.ensures.err clean []),
    )
