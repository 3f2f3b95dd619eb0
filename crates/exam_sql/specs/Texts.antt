-- The texts that delete an opening or a seat by its key, and that read an appeal by its key; the texts that load the
-- tables.
use Rattle.std.specs.Prelude.{ℕ, List, [], ◌∷◌, ◌++◌, codes}
use Rattle.exam_sql.specs.Tables.{office, session, paper, hall, candidate, opening, entry, arrangement, appeal}
use Rattle.exam_sql.specs.Tables.{seat, standing, key_text}

abbrev pub delete_opening : List ℕ
delete_opening = codes "DELETE FROM opening" ++ key_text opening.table

abbrev pub delete_seat : List ℕ
delete_seat = codes "DELETE FROM seat" ++ key_text seat.table

abbrev pub load_office : List ℕ
load_office = office.load

abbrev pub load_seat : List ℕ
load_seat = seat.load

abbrev pub load_standing : List ℕ
load_standing = standing.load

-- the appeal of a candidate with a reference
abbrev pub find_appeal : List ℕ
find_appeal = appeal.load ++ key_text appeal.table

-- the texts that load the tables of facts
abbrev pub fact_texts : List (List ℕ)
fact_texts =
    session.load ∷ paper.load ∷ hall.load ∷ candidate.load ∷ opening.load ∷ entry.load ∷ arrangement.load ∷ appeal.load
    ∷ []

-- the texts that load the office
abbrev pub held_texts : List (List ℕ)
held_texts = fact_texts ++ load_seat ∷ []

-- the texts that load its version first, and the marks if their table exists
abbrev pub load_texts : List (List ℕ)
load_texts = load_office ∷ held_texts ++ load_standing ∷ []
