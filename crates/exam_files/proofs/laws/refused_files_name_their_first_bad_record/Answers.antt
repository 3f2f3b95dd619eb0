use Rattle.exam_files.proofs.Refusing.{bad_column, conflict}
use Rattle.exam_files.proofs.laws.refused_files_name_their_first_bad_record.Goals as goal

pub returns-clause-column : goal.returns-clause-column
returns-clause-column c = λ kind bytes number column. bad_column kind bytes number column

pub returns-clause-conflict : goal.returns-clause-conflict
returns-clause-conflict c = λ kind bytes number. conflict kind bytes number
