-- What the writes of a save make of each tree.
use Rattle.exam_tables.proofs.Words.{Bor, cases_Bool, Null, Row, Trees, Write, delete_of, Form, standing, opening_key}
use Rattle.exam_tables.proofs.Words.{seat_key, all_saved}
use Rattle.std.proofs.Common.{◌≡◌, ℕ, ◌==◌, if◌then◌else◌, List, [], ◌∷◌, ◌++◌, inl, inr, map, refl, sym, ap, ◌∙◌}
use Rattle.std.proofs.lemmas.Bool.{eqb-true}
use Rattle.sqlite_trees.specs.Tree.{with_tree}
use Rattle.exam_sql.specs.Changes.{put_all, delete_all, with_puts, with_deletes}
use Rattle.exam_sql.proofs.Changes.{with_puts_is, with_deletes_is}
use Rattle.exam_sql.specs.Texts.{delete_opening, delete_seat}
use Rattle.exam_tables.specs.declared.writing.Changes.{Changes}
use Rattle.exam_tables.specs.Inside.{put_of, written}
use Rattle.exam_tables.specs.Forms.{sessions, papers, halls, candidates, openings, entries, arrangements, appeals}
use Rattle.exam_tables.specs.Forms.{seats, with_put}
use Rattle.exam_tables.specs.Writes.{with_deleted, all_put, all_deleted}
use Rattle.exam_tables.proofs.Steps.{written_append}

-- the rows that are put, and the keys that are deleted, as rows read by columns
abbrev pub rows_put : {K V : Type 0} → Form K V → List (Bor K × Bor V) → List Row
rows_put form rows = map (λ r. Null ∷ form.row r.0.now r.1.now) rows

abbrev pub keys_deleted : {K : Type 0} → (K → Row) → List (Bor K) → List Row
keys_deleted key keys = map (λ k. Null ∷ key k.now) keys

-- what the writes make of a tree depends only on the rows of that tree
record EditsEach (writes : List Write) (edit : ℕ → List Row → List Row) : Type 0 where
  each : (all : Trees) (u : ℕ) → written writes all u ≡ edit u (all u)

abbrev pub only_at : ℕ → (List Row → List Row) → ℕ → List Row → List Row
only_at tree edit u rows = if u == tree then edit rows else rows

in_turn : {first next : List Write} {a b : ℕ → List Row → List Row} → EditsEach first a → EditsEach next b
    → EditsEach (first ++ next) (λ u rows. b u (a u rows))
in_turn {first} {next} {a} {b} one two =
    record {
      each = λ all u. ap (λ (t : Trees). t u) (written_append first next all) ∙ two.each (written first all) u
          ∙ ap (b u) (one.each all u);
    }

settles : (edit : List Row → List Row) (tree u : ℕ) (all : Trees)
    → with_tree all tree (edit (all tree)) u ≡ only_at tree edit u (all u)
settles edit tree u all = elim (cases_Bool (u == tree)) [
  | inl is ↦ rw is (ap (λ t. edit (all t)) (sym (eqb-true u tree is)))
  | inr other ↦ rw other refl
]

puts_are : {X : Type 0} (sql : List ℕ) (tree : ℕ) (key : List ℕ) (row : X → Row) (xs : List X) (all : Trees)
    → written (map (λ x. put_of sql tree key (row x)) xs) all ≡ with_puts tree key (map (λ x. Null ∷ row x) xs) all
puts_are sql tree key row [] all = refl
puts_are sql tree key row (x ∷ xs) all = puts_are sql tree key row xs _

deletes_are : {X : Type 0} (sql : List ℕ) (tree : ℕ) (key : List ℕ) (row : X → Row) (xs : List X) (all : Trees)
    → written (map (λ x. delete_of sql tree key (row x)) xs) all
    ≡ with_deletes tree key (map (λ x. Null ∷ row x) xs) all
deletes_are sql tree key row [] all = refl
deletes_are sql tree key row (x ∷ xs) all = deletes_are sql tree key row xs _

-- the rows are put into the tree of their table
abbrev pub put_into : {K V : Type 0} → Form K V → List (Bor K × Bor V) → ℕ → List Row → List Row
put_into form rows = only_at form.tree (put_all form.places (rows_put form rows))

put : {K V : Type 0} (form : Form K V) (rows : List (Bor K × Bor V))
    → EditsEach (with_put form rows) (put_into form rows)
put form rows = record {
  each = λ all u. ap (λ (t : Trees). t u)
      (puts_are form.put form.tree form.places (λ r. form.row r.0.now r.1.now) rows all)
      ∙ with_puts_is form.tree form.places (rows_put form rows) all u
      ∙ settles (put_all form.places (rows_put form rows)) form.tree u all;
}

-- and deleted from it
abbrev pub delete_from : {K V : Type 0} → Form K V → (K → Row) → List (Bor K) → ℕ → List Row → List Row
delete_from form key keys = only_at form.tree (delete_all form.places (keys_deleted key keys))

deleted : {K V : Type 0} (form : Form K V) (sql : List ℕ) (key : K → Row) (keys : List (Bor K))
    → EditsEach (with_deleted form sql key keys) (delete_from form key keys)
deleted form sql key keys =
    record {
      each = λ all u. ap (λ (t : Trees). t u) (deletes_are sql form.tree form.places (λ k. key k.now) keys all)
          ∙ with_deletes_is form.tree form.places (keys_deleted key keys) all u
          ∙ settles (delete_all form.places (keys_deleted key keys)) form.tree u all;
    }

module _ (c : Changes) where
  abbrev puts : ℕ → List Row → List Row
  puts u rows =
      put_into seats c.seats.put.items u
      (put_into standing c.standing.items u
      (put_into appeals c.appeals.items u
      (put_into arrangements c.arrangements.items u (put_into entries c.entries.items u
      (put_into candidates c.candidates.items u
      (put_into openings c.openings.put.items u
      (put_into halls c.halls.items u
      (put_into papers c.papers.items u (put_into sessions c.sessions.items u rows)))))))))

  abbrev deletes : ℕ → List Row → List Row
  deletes u rows = delete_from openings opening_key c.openings.delete.items u
      (delete_from seats seat_key c.seats.delete.items u rows)

  all_puts : EditsEach (all_put c) puts
  all_puts =
      in_turn (in_turn (put sessions c.sessions.items) (put papers c.papers.items))
      (in_turn (in_turn (put halls c.halls.items) (put openings c.openings.put.items))
      (in_turn (in_turn (put candidates c.candidates.items)
      (in_turn (put entries c.entries.items) (put arrangements c.arrangements.items)))
      (in_turn (put appeals c.appeals.items)
      (in_turn (put standing c.standing.items) (put seats c.seats.put.items)))))

  all_deletes : EditsEach (all_deleted c) deletes
  all_deletes = in_turn (deleted seats delete_seat seat_key c.seats.delete.items)
      (deleted openings delete_opening opening_key c.openings.delete.items)

  -- each tree after the puts, and after the deletes too
  pub put_whole : (all : Trees) (u : ℕ) → written (all_put c) all u ≡ puts u (all u)
  put_whole = all_puts.each

  pub whole : (all : Trees) (u : ℕ) → written (all_saved c) all u ≡ deletes u (puts u (all u))
  whole = (in_turn all_puts all_deletes).each
