use Rattle.exam_program.proofs.serving.serve_connection.Goals as goal

pub returns : goal.returns
returns g c = (c.serve_timed-end.result, c.serve_timed-end.ensures, c.tell_end.ensures)
