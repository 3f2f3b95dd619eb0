-- The appeal with a key: what its text means, and what it shows.
use Rattle.exam_sql.proofs.Words.{list_all, IsPermutation, IsPermutation-map, IsPermutation-sym, IsPermutation-trans}
use Rattle.exam_sql.proofs.Words.{Null, Row, Trees, filter-map, map-map, IsPermutation-filter, eval_all}
use Rattle.exam_sql.proofs.Words.{holds, overlay, Select, everything, Error, SqliteFailure, OutOfMemory, understood}
use Rattle.exam_sql.proofs.Words.{reads_listing, State, FailsToQuery, Shown, IsPlain, command_of, ContainsIn, bare}
use Rattle.exam_sql.proofs.Words.{places, same_key, one_table, is_failure, store_schema}
use Rattle.std.proofs.Common.{◌≡◌, ◌⊎◌, IsTrue, List, [], ◌∷◌, map, filter, false, Bool, refl, sym, ap, subst, ◌∙◌}
use Rattle.sqlite.proofs.Callers.{reads_as}
use Rattle.exam_sql.specs.Tables as tables
use Rattle.exam_sql.specs.Texts.{find_appeal}
use Rattle.exam_sql.proofs.Queries.{map_same, picks}
use Rattle.exam_sql.proofs.QueryFails.{query_fails}
use Rattle.exam_sql.proofs.Quiet.{IsQuery}
use Rattle.exam_sql.proofs.Statements.{held_at}
use Rattle.exam_sql.proofs.Loads.{column_terms}
use Rattle.exam_sql.proofs.Terms.{key_terms}
use Rattle.exam_sql.proofs.EachTable.{key_means, keyed}
use Rattle.exam_sql.proofs.Names.{Appeal}

query_is : command_of (understood store_schema find_appeal)
    ≡ Select (record {
      lets = [];
      body =
          one_table 13 (key_terms tables.appeal.table) (column_terms tables.appeal.table) [];
    })
    (tables.names tables.appeal.table)
unfolding understood everything store_schema
query_is = refl

query_plain : IsPlain (understood store_schema find_appeal)
unfolding understood everything store_schema
query_plain = (refl, refl)

query_unlisted : reads_listing store_schema find_appeal ≡ false
unfolding understood everything store_schema
query_unlisted = refl

pub find_is_query : IsQuery find_appeal
unfolding everything
find_is_query schema base = refl

-- the row, read by columns, has that key
abbrev pub has_key : Row → Row → Bool
has_key key row = same_key tables.appeal.key row (Null ∷ key)

-- it shows the rows that have the key
pub shows_key : (key : Row) (old new : State) (rows : List Row) (all : Trees) → ContainsIn store_schema old.now all
    → Shown find_appeal key old new rows
    → IsPermutation (filter (has_key key) (all 13)) (map (λ row. Null ∷ row) rows)
shows_key key old new rows all was shown =
    let read = reads_as find_appeal key old new store_schema was.schema_is _ query_is query_plain query_unlisted rows
    shown in
    let held = held_at store_schema 8 tables.appeal.table (1 ∷ 2 ∷ [])
    (1 ∷ 2 ∷ []) (keyed Appeal) old.now.trees all was.rows in
    let show = λ (r : Row). eval_all (column_terms tables.appeal.table) (key ∷ r ∷ []) in
    let test = λ (r : Row). list_all (holds (key ∷ r ∷ [])) (key_terms tables.appeal.table) in
    let columns = bare (places tables.appeal.table) in
    let passed = filter test (old.now.trees 13) in
    let answer : IsPermutation (map show passed) rows =
    picks 13 (key_terms tables.appeal.table) (column_terms tables.appeal.table) []
    (overlay old.now.trees []) key rows (read.answer Null) in
    let bared : map (λ (row : Row). Null ∷ row) (map show passed) ≡ map columns passed =
    map-map (λ (row : Row). Null ∷ row) show passed ∙ map_same (λ r. Null ∷ show r) columns (λ r. refl) passed in
    let tested : passed ≡ filter (λ (r : Row). has_key key (columns r)) (old.now.trees 13) =
    ap (λ (p : Row → Bool). filter p (old.now.trees 13)) (λ i r. key_means Appeal key r i) in
    let chosen : map (λ (row : Row). Null ∷ row) (map show passed)
    ≡ filter (has_key key) (map columns (old.now.trees 13)) =
    bared ∙ ap (map columns) tested ∙ sym (filter-map (has_key key) columns (old.now.trees 13)) in
    let found = subst (λ l. IsPermutation l (map (λ (row : Row). Null ∷ row) rows)) chosen
    (IsPermutation-map (λ (row : Row). Null ∷ row) _ _ answer) in
    IsPermutation-trans _ _ _ (IsPermutation-sym _ _ (IsPermutation-filter (has_key key) _ _ held.same)) found

-- where it fails, the text was understood
pub find_fails : (key : Row) (old new : State) → old.now.schema ≡ store_schema → (e : Error)
    → FailsToQuery find_appeal key old new e → (e ≡ SqliteFailure OutOfMemory) ⊎ IsTrue (is_failure e)
find_fails key old new has e h = query_fails find_appeal key old new store_schema has query_plain e h
