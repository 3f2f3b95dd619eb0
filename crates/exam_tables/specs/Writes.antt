-- What changes write: the rows that are put, table by table, and the openings and the seats that are deleted.
use Rattle.std.specs.Prelude.{ℕ, List, ◌++◌, map}
use Rattle.std.specs.Borrow.{Bor}
use Rattle.sqlite_value.specs.Order.{Row}
use Rattle.exam_sql.specs.Texts.{delete_opening, delete_seat}
use Rattle.exam_tables.specs.declared.writing.Changes.{Changes}
use Rattle.exam_tables.specs.Forms.{Form, sessions, papers, halls, candidates, openings, entries, arrangements, appeals}
use Rattle.exam_tables.specs.Forms.{standing, seats, opening_key, seat_key, with_put}
use Rattle.exam_tables.specs.Inside.{Write, delete_of}

-- the writes that delete the rows with these keys by this statement, which names the key by these columns
abbrev pub with_deleted : {K V : Type 0} → Form K V → List ℕ → (K → Row) → List (Bor K) → List Write
with_deleted form delete key keys = map (λ k. delete_of delete form.tree form.places (key k.now)) keys

-- all rows that are put, parents first
abbrev pub all_put : Changes → List Write
all_put c =
    (with_put sessions c.sessions.items ++ with_put papers c.papers.items)
    ++ ((with_put halls c.halls.items ++ with_put openings c.openings.put.items)
    ++ ((with_put candidates c.candidates.items
    ++ (with_put entries c.entries.items ++ with_put arrangements c.arrangements.items))
    ++ (with_put appeals c.appeals.items ++ (with_put standing c.standing.items ++ with_put seats c.seats.put.items))))

-- then all rows that are deleted, children first
abbrev pub seats_deleted : Changes → List Write
seats_deleted c = with_deleted seats delete_seat seat_key c.seats.delete.items

abbrev pub openings_deleted : Changes → List Write
openings_deleted c = with_deleted openings delete_opening opening_key c.openings.delete.items

abbrev pub all_deleted : Changes → List Write
all_deleted c = seats_deleted c ++ openings_deleted c

abbrev pub all_saved : Changes → List Write
all_saved c = all_put c ++ all_deleted c
