-- What a writer of records over memory has written.
use Rattle.std.specs.Prelude.{◌≡◌, ℕ, List, false, Some, Vec}
use Rattle.std.specs.Global.{Global}
use Rattle.csv.specs.Writing.{default_writer, fields_written, has_written, text_written, writer_setup}
use Rattle.csv.specs.declared.writer.Writer.{Writer}

-- these bytes, which are whole records
pub record Holds (writer : Writer (Vec ℕ Global)) (bytes : List ℕ) : Type 0 where
  pub setup : writer_setup writer ≡ default_writer
  pub text : text_written (λ v. Some v.items) writer ≡ Some bytes
  pub fields : fields_written writer ≡ 0
  pub wrote : has_written writer ≡ false
