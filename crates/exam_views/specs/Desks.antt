-- What is shown of a candidate where desks are left out.
use Rattle.std.specs.Prelude.{map, None}
use Rattle.exam_commands.specs.Own.{OwnRows, OwnSessionRow}

-- the session but for the desk
abbrev pub session_without_desk : OwnSessionRow → OwnSessionRow
session_without_desk own = record {
  session = own.session;
  day = own.day;
  start = own.start;
  papers = own.papers;
  sitting = own.sitting;
  clashes = own.clashes;
  arrangement = own.arrangement;
  finish = own.finish;
  hall = own.hall;
  desk = None;
}

-- the candidate's rows but for the desks
abbrev pub rows_without_desks : OwnRows → OwnRows
rows_without_desks own = record {
  number = own.number;
  name = own.name;
  code = own.code;
  sessions = map session_without_desk own.sessions;
  appeals = own.appeals;
}
