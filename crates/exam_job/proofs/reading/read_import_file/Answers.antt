use Rattle.std.proofs.Common.{sym, subst}
use Rattle.exam_job.specs.Reading.{ReadsAll}
use Rattle.exam_job.proofs.Given.{import_refused}
use Rattle.exam_job.proofs.reading.read_import_file.Goals as goal

pub returns-in_err-read_import : goal.returns-in_err-read_import
returns-in_err-read_import g c =
    import_refused c.args.kind _ _ c.as_slice.result.now c.in_err-read_import.field-0.0 _
    (subst (ReadsAll _ _) (sym c.as_slice.ensures.value) c.in_ok-bytes.ensures.ok)
    c.in_err-read_import.ensures.denoted c.from_residual-in_err-read_import.ensures.1
