-- After an import each of its rows is stored, and put again they change nothing.
use Rattle.std.proofs.Common.{Bool, List, None, Option, Some, [], ap, eq-eqb, false, is_some, not, refl, subst, sym}
use Rattle.std.proofs.Common.{true, ◌&&◌, ◌∙◌, ◌∷◌, ◌≡◌}
use Rattle.std.specs.Cmp.{nat_cmp_total}
use Rattle.std.specs.Cmp.Lexicographic.{nat_list_cmp_total}
use Rattle.std.specs.List.{AllByRecursion}
use Rattle.std.specs.Ordering.{is_eq, nat_cmp}
use Rattle.std.specs.Option.{option_map}
use Rattle.std.proofs.lemmas.Bool.{and_from, and_parts, not-false, not-true, or_parts}
use Rattle.exam_rules.specs.declared.rows.Entry.{Entry}
use Rattle.exam_rules.proofs.Naming.{same_code_itself}
use Rattle.exam_rules.specs.Orders.{AreInOrder}
use Rattle.exam_rules.specs.Tables as table
use Rattle.exam_rules.specs.Relations.{Relations, code_cmp, entry_cmp, opening_cmp, row_at}
use Rattle.exam_commands.proofs.KeyedRows.{openings_total, put_stays}
use Rattle.exam_rules.specs.Tables.{rows_of}
use Rattle.exam_commands.specs.declared.import_row.Row.{Row}
use Rattle.exam_commands.specs.declared.import_row.Row.TheVariants as row
use Rattle.exam_commands.specs.Changes.{rows_with, target, with_row, with_rows, with_table}
use Rattle.exam_commands.specs.Imports.{conflicts, has_key, is_consistent, key_of, same_row}
use Rattle.exam_commands.specs.Replies.{is_stored}
use Rattle.exam_commands.specs.SameRows.{same_arrangement, same_candidate, same_hall, same_opening, same_paper}
use Rattle.exam_commands.specs.SameRows.{same_session}
use Rattle.exam_commands.specs.contracts.import_row.KeyOrd.TheImpl as keys
use Rattle.exam_commands.proofs.ImportKeys.{cmp_same}
use Rattle.exam_commands.proofs.ImportRowsEqual.{row_exact}
use Rattle.exam_commands.proofs.Entering.{IsHeld, held_again, held_still, held_then, table_as_is, table_in_order}
use Rattle.exam_commands.proofs.Entering.{table_itself}

-- the row is there as it is, an entry live or withdrawn
abbrev pub IsStored : Relations → Row → Type 0
IsStored r x = IsHeld (target x).0 (rows_of r (target x).0) (target x).1 (target x).2

pub rows_in_order : (r : Relations) (rows : List Row) → AreInOrder r → AreInOrder (with_rows r rows)
rows_in_order r [] up = up
rows_in_order r (x ∷ rows) up = rows_in_order (with_row r x) rows (λ t. table_in_order r x t (up t))

-- ---- a row that is found the same is stored

found_same : {X : Type 0} (agree : X → X → Bool) (x : X) → ((y : X) → agree x y ≡ true → x ≡ y) → (o : Option X)
    → option_map (agree x) o ≡ Some true → o ≡ Some x
found_same agree x exact None e = absurd (let differ : None ≡ Some true = e in cc)
found_same agree x exact (Some y) e = let same : agree x y ≡ true = cc in ap Some (sym (exact y same))

pub stored_same : (r : Relations) (x : Row) → is_stored r x ≡ Some true → IsStored r x
stored_same r (row.OfSession s x) e =
    found_same same_session x
    (λ y same. let one : row.OfSession s x ≡ row.OfSession s y =
    row_exact (row.OfSession s x) (row.OfSession s y) (and_from _ _ (same_code_itself s) same) in cc)
    (row_at code_cmp r.sessions s) e
stored_same r (row.OfPaper p x) e =
    found_same same_paper x
    (λ y same. let one : row.OfPaper p x ≡ row.OfPaper p y =
    row_exact (row.OfPaper p x) (row.OfPaper p y) (and_from _ _ (same_code_itself p) same) in cc)
    (row_at code_cmp r.papers p) e
stored_same r (row.OfHall h x) e =
    found_same same_hall x
    (λ y same. let one : row.OfHall h x ≡ row.OfHall h y =
    row_exact (row.OfHall h x) (row.OfHall h y) (and_from _ _ (same_code_itself h) same) in cc)
    (row_at code_cmp r.halls h) e
stored_same r (row.OfOpening s h x) e =
    found_same same_opening x
    (λ y same. let one : row.OfOpening s h x ≡ row.OfOpening s h y =
    row_exact (row.OfOpening s h x) (row.OfOpening s h y)
    (and_from _ _ (same_code_itself s) (and_from _ _ (same_code_itself h) same)) in cc)
    (row_at opening_cmp r.openings (s, h)) e
stored_same r (row.OfCandidate c x) e =
    found_same same_candidate x
    (λ y same. let one : row.OfCandidate c x ≡ row.OfCandidate c y =
    row_exact (row.OfCandidate c x) (row.OfCandidate c y) (and_from _ _ (eq-eqb c c refl) same) in cc)
    (row_at nat_cmp r.candidates c) e
stored_same r (row.OfEntry c p) e = inner (row_at entry_cmp r.entries (c, p)) e
  where
    inner : (o : Option Entry) → option_map (λ _. true) o ≡ Some true → is_some o ≡ true
    inner None e = absurd (let differ : None ≡ Some true = e in cc)
    inner (Some x) e = refl
stored_same r (row.OfArrangement c x) e =
    found_same same_arrangement x
    (λ y same. let one : row.OfArrangement c x ≡ row.OfArrangement c y =
    row_exact (row.OfArrangement c x) (row.OfArrangement c y) (and_from _ _ (eq-eqb c c refl) same) in cc)
    (row_at nat_cmp r.arrangements c) e

-- ---- a stored row put again

pub row_again : (r : Relations) (x : Row) → AreInOrder r → IsStored r x → with_row r x ≡ r
row_again r x up at =
    let to = target x in
    ap (with_table r to.0) (held_again to.0 (rows_of r to.0) to.1 to.2 (up to.0) at) ∙ table_as_is r to.0

pub rows_again : (r : Relations) (rows : List Row) → AreInOrder r → AllByRecursion (IsStored r) rows
    → with_rows r rows ≡ r
rows_again r [] up every = refl
rows_again r (x ∷ rows) up every = ap (λ t. with_rows t rows) (row_again r x up every.0) ∙ rows_again r rows up every.1

-- ---- each row of an import is stored

row_stored : (r : Relations) (x : Row) → IsStored (with_row r x) x
row_stored r x =
    let to = target x in
    subst (λ rows. IsHeld to.0 rows to.1 to.2) (sym (table_itself r to.0 (rows_with to.0 (rows_of r to.0) to.1 to.2)))
    (held_then to.0 (rows_of r to.0) to.1 to.2)

-- a row that does not contradict it leaves it so
row_keeps : (r : Relations) (y x : Row) → (is_eq (keys.ghosts.cmp (key_of y) (key_of x)) ≡ true → y ≡ x) → IsStored r x
    → IsStored (with_row r y) x
row_keeps r (row.OfEntry c p) (row.OfEntry d q) agrees at =
    held_still table.Entries r.entries (c, p) (d, q) (record { live = true }) (record { live = true }) (λ e. refl) at
row_keeps r (row.OfSession s v) (row.OfSession t x) agrees at =
    put_stays code_cmp nat_list_cmp_total r.sessions s t v x
    (λ e. let same : row.OfSession s v ≡ row.OfSession t x = agrees e in cc) at
row_keeps r (row.OfPaper s v) (row.OfPaper t x) agrees at =
    put_stays code_cmp nat_list_cmp_total r.papers s t v x
    (λ e. let same : row.OfPaper s v ≡ row.OfPaper t x = agrees e in cc) at
row_keeps r (row.OfHall s v) (row.OfHall t x) agrees at =
    put_stays code_cmp nat_list_cmp_total r.halls s t v x
    (λ e. let same : row.OfHall s v ≡ row.OfHall t x = agrees e in cc) at
row_keeps r (row.OfOpening s h v) (row.OfOpening t k x) agrees at =
    put_stays opening_cmp openings_total r.openings (s, h) (t, k) v x
    (λ e. let same : row.OfOpening s h v ≡ row.OfOpening t k x = agrees e in cc) at
row_keeps r (row.OfCandidate s v) (row.OfCandidate t x) agrees at =
    put_stays nat_cmp nat_cmp_total r.candidates s t v x
    (λ e. let same : row.OfCandidate s v ≡ row.OfCandidate t x = agrees e in cc) at
row_keeps r (row.OfArrangement s v) (row.OfArrangement t x) agrees at =
    put_stays nat_cmp nat_cmp_total r.arrangements s t v x
    (λ e. let same : row.OfArrangement s v ≡ row.OfArrangement t x = agrees e in cc) at
row_keeps r y x agrees at = at

rows_keep : (r : Relations) (x : Row) (rows : List Row) → conflicts x rows ≡ false → IsStored r x
    → IsStored (with_rows r rows) x
rows_keep r x [] none at = at
rows_keep r x (y ∷ rows) none at =
    let both = or_parts _ _ none in
    rows_keep (with_row r y) x rows both.1
    (row_keeps r y x (λ e. agreed (has_key (key_of x) y) both.0 (sym (cmp_same (key_of y) (key_of x)) ∙ e)) at)
  where
    agreed : (b : Bool) → (b && not (same_row y x)) ≡ false → b ≡ true → y ≡ x
    agreed true agrees e = row_exact y x (not-false (same_row y x) agrees)
    agreed false agrees e = cc

pub rows_stored : (r : Relations) (rows : List Row) → is_consistent rows ≡ true
    → AllByRecursion (IsStored (with_rows r rows)) rows
rows_stored r [] agree = tt
rows_stored r (x ∷ rows) agree =
    let both = and_parts (not (conflicts x rows)) (is_consistent rows) agree in
    (rows_keep (with_row r x) x rows (not-true _ both.0) (row_stored r x), rows_stored (with_row r x) rows both.1)
