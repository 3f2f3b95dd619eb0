-- A statement that no foreign key refuses.
use Rattle.exam_tables.proofs.Words.{Bor, AllByRecursion, Trees, Database, put_edits, Form, opening_key, seat_key}
use Rattle.exam_tables.proofs.Words.{row_put, Contains, Write, delete_of, appeals_ours, standing_ours, all_saved}
use Rattle.std.proofs.Common.{pos, ℕ, Option, Ordering, List, [], ◌∷◌, ◌++◌, map}
use Rattle.exam_sql.specs.Refusals.{Refuses, RefusesRows}
use Rattle.exam_sql.specs.Texts.{delete_opening, delete_seat}
use Rattle.exam_sql.proofs.EachRow.{deletes_opening, deletes_seat}
use Rattle.exam_sql.proofs.References.{AllRefer}
use Rattle.exam_tables.specs.declared.writing.Changes.{Changes}
use Rattle.exam_tables.specs.Forms.{IsOurTable, openings, seats, with_put}
use Rattle.exam_tables.specs.OurTables.{sessions_ours, papers_ours, halls_ours, openings_ours, candidates_ours}
use Rattle.exam_tables.specs.OurTables.{entries_ours, arrangements_ours, seats_ours}
use Rattle.exam_tables.specs.Writes.{openings_deleted, seats_deleted, all_put, all_deleted}

-- where after the write each row has what it refers to, no foreign key refuses it
abbrev pub Narrows : Write → Type 0
Narrows w = (limit : Option ℕ) (at : Database) (all : Trees) → Contains at all → AllRefer (w.change all)
    → Refuses limit at w.sql w.params → RefusesRows limit at w.sql w.params

every : {Y : Type 0} (f : Y → Write) → ((y : Y) → Narrows (f y)) → (ys : List Y) → AllByRecursion Narrows (map f ys)
every f each [] = tt
every f each (y ∷ ys) = (each y, every f each ys)

together : (xs ys : List Write) → AllByRecursion Narrows xs → AllByRecursion Narrows ys
    → AllByRecursion Narrows (xs ++ ys)
together [] ys one two = two
together (x ∷ xs) ys one two = (one.0, together xs ys one.1 two)

puts_narrow : {K X : Type 0} {cmp : K → K → Ordering} {form : Form K X} → IsOurTable cmp form
    → (rows : List (Bor K × Bor X)) → AllByRecursion Narrows (with_put form rows)
puts_narrow {form = form} ours rows =
    every (λ r. row_put form r.0.now r.1.now) (λ y. (put_edits (ours.puts y.0.now y.1.now)).narrows) rows

openings_delete_narrow : (c : Changes) → AllByRecursion Narrows (openings_deleted c)
openings_delete_narrow c =
    every (λ k. delete_of delete_opening openings.tree openings.places (opening_key k.now))
    (λ y. (deletes_opening y.now.0 y.now.1).narrows) c.openings.delete.items

seats_delete_narrow : (c : Changes) → AllByRecursion Narrows (seats_deleted c)
seats_delete_narrow c =
    every (λ k. delete_of delete_seat seats.tree seats.places (seat_key k.now))
    (λ y. (deletes_seat y.now.0 (pos y.now.1)).narrows) c.seats.delete.items

pub all_narrow : (c : Changes) → AllByRecursion Narrows (all_saved c)
all_narrow c = together (all_put c) (all_deleted c)
    (together _ _ (together _ _ (puts_narrow sessions_ours c.sessions.items) (puts_narrow papers_ours c.papers.items))
    (together _ _ (together _ _ (puts_narrow halls_ours c.halls.items)
    (puts_narrow openings_ours c.openings.put.items))
    (together _ _ (together _ _ (puts_narrow candidates_ours c.candidates.items)
    (together _ _ (puts_narrow entries_ours c.entries.items) (puts_narrow arrangements_ours c.arrangements.items)))
    (together _ _ (puts_narrow appeals_ours c.appeals.items)
    (together _ _ (puts_narrow standing_ours c.standing.items) (puts_narrow seats_ours c.seats.put.items))))))
    (together _ _ (seats_delete_narrow c) (openings_delete_narrow c))
