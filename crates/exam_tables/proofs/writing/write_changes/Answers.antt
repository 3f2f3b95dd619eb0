-- The pairs are grouped as the lists of `all_saved`.
use Rattle.exam_tables.proofs.writing.write_changes.Goals as goal

pub returns-clause-made : goal.returns-clause-made
returns-clause-made g c =
    rw (
      c.put.ensures,
      c.put-2.ensures,
      c.put-3.ensures,
      c.put-4.ensures,
      c.put-5.ensures,
      c.put-6.ensures,
      c.put-7.ensures,
      c.put-8.ensures,
      c.put-9.ensures,
      c.put-10.ensures,
      c.delete.ensures,
      c.delete-2.ensures,
    ) at c.write.ensures.made
