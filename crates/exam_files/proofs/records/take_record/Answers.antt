use Rattle.exam_files.proofs.Taking.{behind_map_err, step_of}
use Rattle.exam_files.proofs.records.take_record.Goals as goal

pub returns-clause-steps : goal.returns-clause-steps
returns-clause-steps g c =
    behind_map_err _ _ c.read_byte_record.result c.map_err.result c.map_err.ensures.cases c.map_err.ensures.variant
    (step_of g.R.Read.remaining c.args.reader.now c.read_byte_record.new.self c.read_byte_record.new.row
    c.read_byte_record.result c.read_byte_record.ensures.ready c.read_byte_record.ensures.reads)
