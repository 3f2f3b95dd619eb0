use Rattle.std.proofs.Common.{◌∙◌, refl, inr}
use Rattle.csv.specs.Reading.{strip_bom}
use Rattle.exam_files.proofs.Counts.{all_left}
use Rattle.exam_files.proofs.records.reader_of.Goals as goal

pub returns-clause-records : goal.returns-clause-records
returns-clause-records c =
    let fr = c.from_reader.ensures in
    let b = c.flexible.ensures in
    let h = c.has_headers.ensures in
    record {
      trim = fr.trim ∙ rw (b, h) c.new.ensures.trim;
      ready = inr (inr (fr.has_headers ∙ rw (b, h) refl, fr.headers));
      config = fr.config ∙ rw (b, h) c.new.ensures.config;
      bytes = (strip_bom c.args.bytes.now, fr.source, rw fr.state (all_left _));
    }
