use Rattle.exam_tables.proofs.Words.{state, lists_marks, standing, standing_ours, table_part}
use Rattle.std.proofs.Common.{◌≡◌, true, false, sym, ◌∙◌, true≢false, rules}
use Rattle.sqlite.proofs.StateLemmas.{unchanged}
use Rattle.exam_tables.proofs.PartByPart.{by_queries}
use Rattle.exam_tables.proofs.Marked.{holds_no_marks, marks_load}
use Rattle.exam_tables.proofs.loading.load_marks.Goals as goal

pub returns-then-not-has_marks-clause-loads : goal.returns-then-not-has_marks-clause-loads
returns-then-not-has_marks-clause-loads g c = λ ready.
    let old = state g.S.Store c.args.conn.now in
    let lists : lists_marks old.now.schema ≡ false = search rules in
    record {
      rows = λ clean all was. rw c.new.ensures.empty (holds_no_marks old.now all lists was);
      bad = λ clean. tt;
      left = λ clean. unchanged old (ready clean);
      unchanged = λ clean. tt;
      understood = λ clean listed. absurd (true≢false (sym listed ∙ lists));
      survives = search rules;
      early = λ clean. clean;
      told = tt;
    }

pub returns-clause-loads : goal.returns-clause-loads
returns-clause-loads g c = λ ready.
    let lists : lists_marks (state g.S.Store c.args.conn.now).now.schema ≡ true = search rules in
    marks_load g.S.Store c.args.conn.now c.load_rows.new.conn lists c.load_rows.result
    (by_queries g.S.Store c.args.conn.now c.load_rows.new.conn standing.load standing_ours.loads c.load_rows.result
    (table_part standing.cmp standing) c.load_rows.ensures)
