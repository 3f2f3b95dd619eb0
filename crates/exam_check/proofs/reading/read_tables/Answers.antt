-- The ten tables come in their order, each with its rows or none. From the last one on, each without rows is noted, and
-- an empty map stands for it.
use Rattle.std.proofs.Common.{◌≡◌, ◌⊎◌, None, Err, inl, inr, drop, refl, rules}
use Rattle.sqlite_trees.specs.Tree.{Trees}
use Rattle.sqlite.specs.Effect.{Database}
use Rattle.sqlite.specs.Held.{state}
use Rattle.exam_commands.specs.Good.{tables}
use Rattle.exam_commands.specs.State.{State as Office}
use Rattle.exam_commands.specs.declared.table.Table.TheVariants as office
use Rattle.exam_sql.specs.Made.{ContainsMade}
use Rattle.exam_tables.specs.Forms as forms
use Rattle.exam_tables.specs.Inside.{Contains}
use Rattle.exam_tables.specs.OurTables.{sessions_ours}
use Rattle.exam_tables.proofs.PartByPart.{loaded_as, not_loaded}
use Rattle.exam_check.specs.Reading.{tables_part}
use Rattle.exam_check.proofs.Found.{noted_as}
use Rattle.exam_check.proofs.reading.read_tables.Goals as goal

-- where the tables are those of the newest version, each can be scanned
abbrev Five : Type 0 → Type 0 → Type 0
Five P Q = P × (P × (P × (Q × P)))

ten : (db : Database) (all : Trees) → Contains db all
    → Five (ContainsMade db all) (ContainsMade db all) × Five (ContainsMade db all) (Contains db all)
ten db all was =
    let made = sessions_ours.newest db all was in
    ((made, (made, (made, (made, made)))), (made, (made, (made, (was, made)))))

-- and no rows make that fail
none_fails : ⊥ ⊎ (⊥ ⊎ (⊥ ⊎ (⊥ ⊎ ⊥))) → ⊥
none_fails none = elim none [
  | inl one ↦ one
  | inr (inl one) ↦ one
  | inr (inr (inl one)) ↦ one
  | inr (inr (inr (inl one))) ↦ one
  | inr (inr (inr (inr one))) ↦ one
]

pub returns-in_err-rows : goal.returns-in_err-rows
returns-in_err-rows g c =
    let db = (state g.S.Store c.args.conn.now).now in
    let is : c.from_residual.result ≡ Err c.in_err-rows.field-0.0 = search rules in
    rw is (not_loaded g.S.Store c.args.conn.now c.load.new.conn _ tables_part (ten db) c.in_err-rows.field-0.0
    (λ clean all was none. elim none [ inl first ↦ none_fails first | inr more ↦ none_fails more ])
    c.in_err-rows.ensures)

pub returns : goal.returns
returns g c =
    let db = (state g.S.Store c.args.conn.now).now in
    loaded_as g.S.Store c.args.conn.now c.load.new.conn _ tables_part (ten db) _ _ c.in_ok-rows.ensures
    (λ clean all was is.
    let o : Office = record {
      relations = record {
        sessions = c.noted-sessions.result.entries;
        papers = c.noted-papers.result.entries;
        halls = c.noted-halls.result.entries;
        openings = c.noted-openings.result.entries;
        candidates = c.noted-candidates.result.entries;
        entries = c.noted-entries.result.entries;
        arrangements = c.noted-arrangements.result.entries;
        appeals = c.noted-appeals.result.entries;
        standing = c.noted-standing.result.entries;
      };
      seats = c.noted-seats.result.entries;
    } in
    noted_as forms.sessions office.Sessions (drop 1 tables) all o _ _ c.noted-papers.new.unread
    c.noted-sessions.new.unread c.noted-sessions.ensures is.0.0 (λ none o. none o.relations.sessions) (λ has. has)
    (noted_as forms.papers office.Papers (drop 2 tables) all o _ _ c.noted-halls.new.unread
    c.noted-papers.new.unread c.noted-papers.ensures is.0.1.0 (λ none o. none o.relations.papers) (λ has. has)
    (noted_as forms.halls office.Halls (drop 3 tables) all o _ _ c.noted-openings.new.unread
    c.noted-halls.new.unread c.noted-halls.ensures is.0.1.1.0 (λ none o. none o.relations.halls) (λ has. has)
    (noted_as forms.openings office.Openings (drop 4 tables) all o _ _ c.noted-candidates.new.unread
    c.noted-openings.new.unread c.noted-openings.ensures is.0.1.1.1.0 (λ none o. none o.relations.openings) (λ has. has)
    (noted_as forms.candidates office.Candidates (drop 5 tables) all o _ _ c.noted-entries.new.unread
    c.noted-candidates.new.unread c.noted-candidates.ensures is.0.1.1.1.1 (λ none o. none o.relations.candidates)
    (λ has. has)
    (noted_as forms.entries office.Entries (drop 6 tables) all o _ _ c.noted-arrangements.new.unread
    c.noted-entries.new.unread c.noted-entries.ensures is.1.0 (λ none o. none o.relations.entries) (λ has. has)
    (noted_as forms.arrangements office.Arrangements (drop 7 tables) all o _ _ c.noted-appeals.new.unread
    c.noted-arrangements.new.unread c.noted-arrangements.ensures is.1.1.0 (λ none o. none o.relations.arrangements)
    (λ has. has)
    (noted_as forms.appeals office.Appeals (drop 8 tables) all o _ _ c.noted-standing.new.unread
    c.noted-appeals.new.unread c.noted-appeals.ensures is.1.1.1.0 (λ none o. none o.relations.appeals) (λ has. has)
    (noted_as forms.standing office.Standing (drop 9 tables) all o _ _ c.noted-seats.new.unread
    c.noted-standing.new.unread c.noted-standing.ensures is.1.1.1.1.0 (λ none o. none o.relations.standing) (λ has. has)
    (noted_as forms.seats office.Seats (drop 10 tables) all o _ _ None
    c.noted-seats.new.unread c.noted-seats.ensures is.1.1.1.1.1 (λ none o. none o.seats) (λ has. has)
    refl))))))))))
    tt (λ clean is.
    let (a, (b, (c, (d, e)))) = is.0 in
    let (f, (g, (h, (i, j)))) = is.1 in
    (a, (b, (c, (d, (e, (f, (g, (h, (i, (j, tt)))))))))))
