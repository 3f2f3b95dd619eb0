-- No foreign key refuses a save that turns the tables of one good office into those of another.
use Rattle.std.proofs.Common.{Option, ◌≡◌, ◌||◌, ◌==◌, inl, ℕ, List, [], ◌∷◌, ◌++◌, map, if◌then◌else◌, true, Bor}
use Rattle.std.proofs.Common.{Ordering, refl, sym, ap, subst, ◌∙◌}
use Rattle.std.specs.List.{AllByRecursion}
use Rattle.std.specs.Map.Iter.{deref_pair}
use Rattle.std.proofs.lemmas.List.Sorted.{IsPermutation-sym}
use Rattle.sqlite_value.specs.declared.value.Value.TheVariants.{Null}
use Rattle.sqlite_value.specs.Order.{Row}
use Rattle.sqlite_trees.specs.Tree.{Trees, with_tree}
use Rattle.sqlite_rules.specs.Lists.{Has}
use Rattle.sqlite_rules.proofs.ListLemmas.{all_has, has_left, has_right}
use Rattle.sqlite_rules.proofs.ProbeLemmas.{has_mapped, mapped_has}
use Rattle.sqlite.specs.Effect.{Database}
use Rattle.exam_sql.specs.Changes.{put_all, delete_all}
use Rattle.exam_sql.specs.Content.{put, delete}
use Rattle.exam_sql.proofs.Queries.{has_permuted}
use Rattle.exam_sql.proofs.References.{AllRefer, links}
use Rattle.exam_sql.proofs.KeptReferences.{Way, at_rest, putting, all_there, deleting, arrived, now, is_sound, made}
use Rattle.exam_sql.proofs.KeptReferences.{Along, Goes, goes_both, puts_part, deletes_part, known_at_start}
use Rattle.exam_sql.proofs.KeptReferences.{all_refer_at, left_was}
use Rattle.exam_rules.specs.Orders.{KeysRise}
use Rattle.exam_rules.specs.Relations.{seat_cmp}
use Rattle.exam_rules.specs.Tables as table
use Rattle.exam_commands.specs.Good.{IsGood}
use Rattle.exam_commands.specs.State.{State}
use Rattle.exam_tables.specs.declared.writing.Changes.{Changes}
use Rattle.exam_tables.specs.Held.{HoldsRows}
use Rattle.exam_tables.specs.Inside.{Write, put_of, delete_of, written, RefusesOne, RefusesOneRow}
use Rattle.exam_store.specs.Kept.{HoldsOffice, Keeps}
use Rattle.exam_tables.specs.Forms.{Form, sessions, papers, halls, candidates, openings, entries, arrangements, appeals}
use Rattle.exam_tables.specs.Forms.{standing, seats, opening_key, seat_key, with_put}
use Rattle.exam_tables.specs.Writes.{with_deleted, openings_deleted, seats_deleted, all_put, all_saved}
use Rattle.exam_store.specs.Saves.{TurnsTables}
use Rattle.exam_tables.specs.Differences.{Turns}
use Rattle.exam_sql.specs.Texts.{delete_opening, delete_seat}
use Rattle.exam_tables.proofs.EachTree.{rows_put, keys_deleted, put_whole, whole}
use Rattle.exam_tables.proofs.Narrowing.{Narrows, all_narrow}
use Rattle.exam_store.proofs.Referring.{all_refer}
use Rattle.exam_store.proofs.Rekeeping.{holds_after}

abbrev keys : ℕ → List ℕ
keys tree = if (tree == openings.tree) ||
    ((tree == entries.tree) || ((tree == appeals.tree) || ((tree == seats.tree) || (tree == standing.tree)))) then 1
    ∷ 2 ∷ [] else 1 ∷ []

fit : AllByRecursion (λ l. keys l.parent ≡ l.key) links
fit = (refl, (refl, (refl, (refl, (refl, (refl, (refl, (refl, (refl, (refl, (refl, tt)))))))))))

abbrev change : Write → Trees → Trees
change w = w.change

-- the table's rows are put, or deleted
abbrev after_put : (ℕ → Way) → ℕ → ℕ → Way
after_put ways tree = now (now ways tree putting) tree all_there

abbrev after_delete : (ℕ → Way) → ℕ → ℕ → Way
after_delete ways tree = now (now ways tree deleting) tree arrived

-- the rows that are put are among those of the new table
comes : {K V : Type 0} {cmp : K → K → Ordering} {old new : List (K × V)} {deletes : List K} (row : K → V → Row)
    (puts : List (Bor K × Bor V)) (rows : List Row)
    → Turns cmp old new (map deref_pair puts) deletes → HoldsRows row new rows → (r : Row)
    → Has (map (λ (y : Bor K × Bor V). Null ∷ row y.0.now y.1.now) puts) r → Has rows r
comes {K} {V} {cmp} {old} {new} row puts rows turns holds r h =
    let y = has_mapped (λ (y : Bor K × Bor V). Null ∷ row y.0.now y.1.now) puts r h in
    let there : Has new (deref_pair y.0) =
    has_permuted _ _ _ turns.made (has_left _ _ _ (mapped_has deref_pair puts y.0 y.1)) in
    let stored = has_permuted _ _ _ (IsPermutation-sym _ _ holds)
    (mapped_has (λ (e : K × V). Null ∷ row e.0 e.1) new (deref_pair y.0) there) in
    subst (Has rows) (sym y.2) stored

module _ (before after : State) (c : Changes) (all : Trees) (turns : TurnsTables before after c)
    (held : HoldsOffice all before) (good_before : IsGood before) (good_after : IsGood after)
    (rises_before : KeysRise seat_cmp before.seats) (rises_after : KeysRise seat_cmp after.seats) where
  abbrev mid : Trees
  mid = written (all_put c) all

  abbrev end : Trees
  end = written (all_saved c) all

  will : HoldsOffice end after
  will = holds_after before after c all turns held

  referred : AllRefer all
  referred = all_refer all before good_before rises_before held

  will_refer : AllRefer end
  will_refer = all_refer end after good_after rises_after will

  abbrev Passes : (ℕ → Way) → List Write → (ℕ → Way) → Type 0
  Passes = Goes change keys all mid end fit referred will_refer

  puts : {K V : Type 0} (form : Form K V) {cmp : K → K → Ordering} {old new : List (K × V)} {deletes : List K}
      (rows : List (Bor K × Bor V)) (ways : ℕ → Way) → keys form.tree ≡ form.places
      → ways form.tree ≡ at_rest → is_sound (now ways form.tree putting) ≡ true
      → mid form.tree ≡ put_all form.places (rows_put form rows) (all form.tree)
      → ((r : Row) → Has (end form.tree) r → Has (mid form.tree) r) → Turns cmp old new (map deref_pair rows) deletes
      → HoldsRows form.row new (end form.tree) → Passes ways (with_put form rows) (after_put ways form.tree)
  puts {K} {V} form rows ways is rests sound puts_are stay turned holds =
      let row = λ (y : Bor K × Bor V). form.row y.0.now y.1.now in
      puts_part change keys all mid end fit referred will_refer form.tree
      (λ y. put_of form.put form.tree form.places (row y)) (λ y. Null ∷ row y) ways rests sound
      (λ y a. ap (λ k. with_tree a form.tree (put k (Null ∷ row y) (a form.tree))) (sym is)) rows
      (puts_are ∙ ap (λ k. put_all k (rows_put form rows) (all form.tree)) (sym is)) stay
      (comes form.row rows (end form.tree) turned holds)

  -- of a table that loses no row
  only_puts : {K V : Type 0} (form : Form K V) {cmp : K → K → Ordering} {old new : List (K × V)}
      (rows : List (Bor K × Bor V)) (ways : ℕ → Way) → keys form.tree ≡ form.places
      → ways form.tree ≡ at_rest → is_sound (now ways form.tree putting) ≡ true
      → mid form.tree ≡ put_all form.places (rows_put form rows) (all form.tree)
      → end form.tree ≡ put_all form.places (rows_put form rows) (all form.tree)
      → Turns cmp old new (map deref_pair rows) [] → HoldsRows form.row new (end form.tree)
      → Passes ways (with_put form rows) (after_put ways form.tree)
  only_puts form rows ways is rests sound puts_are ends turned holds =
      puts form rows ways is rests sound puts_are (λ r h. subst (λ l. Has l r) (ends ∙ sym puts_are) h) turned holds

  deletes : {K V : Type 0} (form : Form K V) (sql : List ℕ) (key : K → Row) (gone : List (Bor K)) (ways : ℕ → Way)
      → keys form.tree ≡ form.places → ways form.tree ≡ all_there
      → is_sound (now ways form.tree deleting) ≡ true
      → end form.tree ≡ delete_all form.places (keys_deleted key gone) (mid form.tree)
      → Passes ways (with_deleted form sql key gone) (after_delete ways form.tree)
  deletes {K} {V} form sql key gone ways is rests sound ends =
      let row = λ (k : Bor K). key k.now in
      deletes_part change keys all mid end fit referred will_refer form.tree
      (λ k. delete_of sql form.tree form.places (row k)) (λ k. Null ∷ row k) ways rests sound
      (λ k a. ap (λ l. with_tree a form.tree (delete l (Null ∷ row k) (a form.tree))) (sym is)) gone
      (ends ∙ ap (λ k. delete_all k (keys_deleted key gone) (mid form.tree)) (sym is))

  -- ---- the stages

  abbrev w0 : ℕ → Way
  w0 tree = at_rest

  abbrev w1 : ℕ → Way
  w1 = after_put w0 sessions.tree

  abbrev w2 : ℕ → Way
  w2 = after_put w1 papers.tree

  abbrev w3 : ℕ → Way
  w3 = after_put w2 halls.tree

  abbrev w4 : ℕ → Way
  w4 = after_put w3 openings.tree

  abbrev w5 : ℕ → Way
  w5 = after_put w4 candidates.tree

  abbrev w6 : ℕ → Way
  w6 = after_put w5 entries.tree

  abbrev w7 : ℕ → Way
  w7 = after_put w6 arrangements.tree

  abbrev w8 : ℕ → Way
  w8 = after_put w7 appeals.tree

  abbrev w9 : ℕ → Way
  w9 = after_put w8 standing.tree

  abbrev w10 : ℕ → Way
  w10 = after_put w9 seats.tree

  abbrev w11 : ℕ → Way
  w11 = after_delete w10 seats.tree

  abbrev w12 : ℕ → Way
  w12 = after_delete w11 openings.tree

  openings_end : end openings.tree
      ≡ delete_all openings.places (keys_deleted opening_key c.openings.delete.items) (mid openings.tree)
  openings_end = whole c all openings.tree
      ∙ ap (delete_all openings.places (keys_deleted opening_key c.openings.delete.items))
      (sym (put_whole c all openings.tree))

  seats_end : end seats.tree ≡ delete_all seats.places (keys_deleted seat_key c.seats.delete.items) (mid seats.tree)
  seats_end = whole c all seats.tree
      ∙ ap (delete_all seats.places (keys_deleted seat_key c.seats.delete.items)) (sym (put_whole c all seats.tree))

  sessions_put : Passes w0 (with_put sessions c.sessions.items) w1
  sessions_put = only_puts sessions c.sessions.items w0 refl refl refl (put_whole c all sessions.tree)
      (whole c all sessions.tree) turns.sessions (will.facts table.Sessions)

  papers_put : Passes w1 (with_put papers c.papers.items) w2
  papers_put = only_puts papers c.papers.items w1 refl refl refl (put_whole c all papers.tree)
      (whole c all papers.tree) turns.papers (will.facts table.Papers)

  halls_put : Passes w2 (with_put halls c.halls.items) w3
  halls_put = only_puts halls c.halls.items w2 refl refl refl (put_whole c all halls.tree)
      (whole c all halls.tree) turns.halls (will.facts table.Halls)

  openings_put : Passes w3 (with_put openings c.openings.put.items) w4
  openings_put = puts openings c.openings.put.items w3 refl refl refl (put_whole c all openings.tree)
      (λ r h. left_was openings.places (keys_deleted opening_key c.openings.delete.items) (mid openings.tree) r
      (subst (λ l. Has l r) openings_end h)) turns.openings (will.facts table.Openings)

  candidates_put : Passes w4 (with_put candidates c.candidates.items) w5
  candidates_put = only_puts candidates c.candidates.items w4 refl refl refl (put_whole c all candidates.tree)
      (whole c all candidates.tree) turns.candidates (will.facts table.Candidates)

  entries_put : Passes w5 (with_put entries c.entries.items) w6
  entries_put = only_puts entries c.entries.items w5 refl refl refl (put_whole c all entries.tree)
      (whole c all entries.tree) turns.entries (will.facts table.Entries)

  arrangements_put : Passes w6 (with_put arrangements c.arrangements.items) w7
  arrangements_put = only_puts arrangements c.arrangements.items w6 refl refl refl (put_whole c all arrangements.tree)
      (whole c all arrangements.tree) turns.arrangements (will.facts table.Arrangements)

  appeals_put : Passes w7 (with_put appeals c.appeals.items) w8
  appeals_put = only_puts appeals c.appeals.items w7 refl refl refl (put_whole c all appeals.tree)
      (whole c all appeals.tree) turns.appeals (will.facts table.Appeals)

  standing_put : Passes w8 (with_put standing c.standing.items) w9
  standing_put = only_puts standing c.standing.items w8 refl refl refl (put_whole c all standing.tree)
      (whole c all standing.tree) turns.standing (will.facts table.Standing)

  seats_put : Passes w9 (with_put seats c.seats.put.items) w10
  seats_put = puts seats c.seats.put.items w9 refl refl refl (put_whole c all seats.tree)
      (λ r h. left_was seats.places (keys_deleted seat_key c.seats.delete.items) (mid seats.tree) r
      (subst (λ l. Has l r) seats_end h)) turns.seats will.seats

  gone_seats : Passes w10 (seats_deleted c) w11
  gone_seats = deletes seats delete_seat seat_key c.seats.delete.items w10 refl refl refl seats_end

  gone_openings : Passes w11 (openings_deleted c) w12
  gone_openings = deletes openings delete_opening opening_key c.openings.delete.items w11 refl refl refl openings_end

  abbrev both : (first next last : ℕ → Way) (xs ys : List Write) → Passes first xs next → Passes next ys last
      → Passes first (xs ++ ys) last
  both = goes_both change keys all mid end fit referred will_refer

  all_puts : Passes w0 (all_put c) w10
  all_puts = both w0 w2 w10 _ _ (both w0 w1 w2 _ _ sessions_put papers_put)
      (both w2 w4 w10 _ _ (both w2 w3 w4 _ _ halls_put openings_put)
      (both w4 w7 w10 _ _ (both w4 w5 w7 _ _ candidates_put (both w5 w6 w7 _ _ entries_put arrangements_put))
      (both w7 w8 w10 _ _ appeals_put (both w8 w9 w10 _ _ standing_put seats_put))))

  -- After each write each row has what it refers to.
  pub refers_all : Along change (all_saved c) all
  refers_all = (both w0 w10 w12 _ _ all_puts (both w10 w11 w12 _ _ gone_seats gone_openings) all
      (known_at_start change keys all mid end)).0

written_made : (writes : List Write) (all : Trees) → written writes all ≡ made change writes all
written_made [] all = refl
written_made (w ∷ writes) all = written_made writes (w.change all)

-- Where the database keeps the old office, it refuses a write of the save by no foreign key.
pub no_key : (before after : State) (c : Changes) (limit : Option ℕ) (db : Database) → TurnsTables before after c
    → IsGood before → IsGood after → KeysRise seat_cmp before.seats → KeysRise seat_cmp after.seats → Keeps db before
    → RefusesOne (all_saved c) limit db → RefusesOneRow (all_saved c) limit db
no_key before after c limit db turns good_before good_after rises_before rises_after keeps
    (done, next, rest, are, at, run, becomes, refused) =
    let along = subst (λ l. Along change l keeps.all) are
    (refers_all before after c keeps.all turns keeps.held good_before good_after rises_before rises_after) in
    let referred : AllRefer (next.change (written done keeps.all)) =
    subst (λ a. AllRefer (next.change a)) (sym (written_made done keeps.all))
    (all_refer_at change done next rest keeps.all along) in
    let among : Has (all_saved c) next =
    subst (λ l. Has l next) (sym are) (has_right done (next ∷ rest) next (inl refl)) in
    let narrow = all_has Narrows (all_saved c) next (all_narrow c) among in (
      done,
      next,
      rest,
      are,
      at,
      run,
      becomes,
      narrow limit at (written done keeps.all) (becomes keeps.all keeps.contains) referred refused,
    )
