use Rattle.exam_tables.proofs.Words.{lists_marks}
use Rattle.std.proofs.Common.{◌≡◌, true, false, sym, ◌∙◌}
use Rattle.std.specs.List.{list_all}
use Rattle.exam_sql.specs.Made.{first_names, is_table}
use Rattle.exam_sql.proofs.Listed.{listed_if_free, listed_with_marks, not_listed}
use Rattle.exam_tables.proofs.schema.lists_tables.Goals as goal

pub returns-then-has_marks : goal.returns-then-has_marks
returns-then-has_marks g c =
    let s = c.args.conn.now.schema in
    let tables : list_all (is_table s) first_names ≡ true =
    sym (rw c.schema-schema.ensures.value at c.are_tables.ensures) ∙ c.if-are_tables.true in
    let marks : lists_marks s ≡ true = sym c.has_marks.ensures ∙ c.if-has_marks.true in
    c.if-has_marks.true ∙ sym (listed_with_marks s tables marks)

pub returns-else-has_marks : goal.returns-else-has_marks
returns-else-has_marks g c =
    let s = c.args.conn.now.schema in
    let tables : list_all (is_table s) first_names ≡ true =
    sym (rw c.schema-schema.ensures.value at c.are_tables.ensures) ∙ c.if-are_tables.true in
    let none : lists_marks s ≡ false = sym c.has_marks.ensures ∙ c.if-has_marks.false in
    rw c.schema-schema.ensures.value at c.is_free.ensures ∙ sym (listed_if_free s tables none)

pub returns-else-are_tables : goal.returns-else-are_tables
returns-else-are_tables g c =
    let s = c.args.conn.now.schema in
    let none : list_all (is_table s) first_names ≡ false =
    sym (rw c.schema-schema.ensures.value at c.are_tables.ensures) ∙ c.if-are_tables.false in
    c.if-are_tables.false ∙ sym (not_listed s none)
