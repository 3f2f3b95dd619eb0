-- The ten tables of the office's rows by name, so that what holds of each is proved once, of any of them.
use Rattle.exam_sql.proofs.Words.{Described}
use Rattle.std.proofs.Common.{ℕ, List, [], ◌∷◌}
use Rattle.exam_sql.specs.Tables as tables

pub data Name : Type 0 where
  Session : Name
  Paper : Name
  Hall : Name
  Candidate : Name
  Opening : Name
  Entry : Name
  Arrangement : Name
  Appeal : Name
  Seat : Name
  Standing : Name

abbrev pub of : Name → Described
of Session = tables.session
of Paper = tables.paper
of Hall = tables.hall
of Candidate = tables.candidate
of Opening = tables.opening
of Entry = tables.entry
of Arrangement = tables.arrangement
of Appeal = tables.appeal
of Seat = tables.seat
of Standing = tables.standing

-- the places of its key in a stored row, where 0 is that of the rowid
abbrev pub target : Name → List ℕ
target Candidate = 0 ∷ []
target Arrangement = 0 ∷ []
target n = (of n).key

-- What is proved of each table holds of any. The check is quicker so than by cases, where it computes each case twice.
pub each : (P : Name → Type 0) → P Session → P Paper → P Hall → P Candidate → P Opening → P Entry → P Arrangement
    → P Appeal → P Seat → P Standing → (n : Name) → P n
each P a b c d e f g h i j Session = a
each P a b c d e f g h i j Paper = b
each P a b c d e f g h i j Hall = c
each P a b c d e f g h i j Candidate = d
each P a b c d e f g h i j Opening = e
each P a b c d e f g h i j Entry = f
each P a b c d e f g h i j Arrangement = g
each P a b c d e f g h i j Appeal = h
each P a b c d e f g h i j Seat = i
each P a b c d e f g h i j Standing = j
