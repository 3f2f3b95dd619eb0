use Rattle.std.proofs.Common.{None, Some, refl, sym}
use Rattle.exam_line.specs.Lines.{shown}
use Rattle.exam_program.proofs.Ran.{line_kept}
use Rattle.exam_program.proofs.databases.run_office.Goals as goal

pub returns-in-Ok : goal.returns-in-Ok
returns-in-Ok g c =
    let last = c.carry_over-done.new.store in (
      Some last.office,
      record {
        first = c.in-Ok.store;
        opened = c.in-Ok.ensures.found;
        last = last;
        ends = (refl, sym c.close.ensures);
        done = c.carry_over-done.ensures;
        seated = c.show_seated.ensures;
        kept = line_kept g.S.Store c.one_step_has_one_result.ensures g.O.Write.contents g.E.Write.contents
            (shown c.args.line.now) c.args.conn c.in-Ok.store last c.close.result c.args.out.now c.args.err.now
            c.carry_over-done.result c.carry_over-done.new.out c.carry_over-done.new.err
            (sym c.close.ensures) c.in-Ok.ensures.found c.carry_over-done.ensures;
      },
    )

pub returns-in-Err : goal.returns-in-Err
returns-in-Err g c = (None, (c.in-Err.refusal, c.in-Err.ensures.refused, refl, refl, refl))
