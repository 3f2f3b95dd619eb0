use Rattle.exam_program.proofs.databases.check_database.Goals as goal

pub returns : goal.returns
returns g c =
    let it = c.check-found.ensures in (
      c.check-found.result,
      record { found = it.found; told = it.told; refusal = it.refusal; left = it.left; survives = it.survives },
      c.tell_found.ensures,
    )
