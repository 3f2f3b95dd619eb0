-- A table of the office has one key, and no foreign key acts on its rows.
use Rattle.exam_sql.proofs.Words.{list_all, list_any, Row, Trees, rowid, Unique, Enforced, passes, bare, places}
use Rattle.exam_sql.proofs.Words.{same_key, same_rowid, IsKeyed, Described, store_schema}
use Rattle.std.proofs.Common.{◌≡◌, ◌&&◌, ◌||◌, ◌==◌, bytes_eq, ℕ, Bool, true, false, not, List, [], ◌∷◌, Some, None}
use Rattle.std.proofs.Common.{slice_get, length, flat_map, refl}
use Rattle.std.specs.List.{filter_map}
use Rattle.sqlite_schema.specs.Rules.{differ, parent_key}
use Rattle.sqlite_rules.specs.Action.{Work, works, work_by, deed_for, pairs}
use Rattle.sqlite_rules.specs.Keys.{conflicts}
use Rattle.exam_sql.specs.Keyed.{IsAlone}
use Rattle.exam_sql.proofs.Keys.{alone_by_index, alone_by_rowid}

pub or_false : (b : Bool) → (b || false) ≡ b
or_false true = refl
or_false false = refl

pub or_twice : (b : Bool) → (b || false) ≡ (b || b)
or_twice true = refl
or_twice false = refl

abbrev acts : ℕ → List Row → List Row → Bool → List Work
acts tree olds news deletes =
    flat_map (λ child. filter_map
    (λ ref. work_by 0 tree (pairs olds news) child ref (deed_for Enforced deletes ref)
    (parent_key store_schema.tables ref)) child.references) store_schema.tables

never : (tree : ℕ) (olds news : List Row) (deletes : Bool) → acts tree olds news deletes ≡ []
unfolding store_schema
never tree olds news true = refl
never tree olds news false = refl

-- no foreign key of the schema acts
still : (tree : ℕ) (olds news : List Row) → works store_schema Enforced 0 tree olds news ≡ []
still tree olds news = never tree olds news (length news == 0)

module _ (d : Described) (place : slice_get store_schema.tables d.at ≡ Some d.table)
    (uncounted : d.table.is_counted ≡ false) (unstamped : d.table.stamps.terms ≡ [])
    (apart : list_all (λ t. not (t.tree == d.table.tree) || bytes_eq (places t) (places d.table)) store_schema.tables
    ≡ true)
    (barred : (a b : Row)
    → conflicts None store_schema.indexes d.table b a
    ≡ (same_rowid a b || same_key d.key (bare (places d.table) a) (bare (places d.table) b))) where
  abbrev pub Aims : List ℕ → Type 0
  Aims target = (a b : Row)
      → conflicts (Some target) store_schema.indexes d.table b a
      ≡ same_key d.key (bare (places d.table) a) (bare (places d.table) b)

  keyed_by : (target : List ℕ) → Aims target → IsAlone store_schema d.table d.key
      → IsKeyed store_schema d.at d.table d.key target
  keyed_by target aimed alone = record {
    place = place;
    uncounted = uncounted;
    unstamped = unstamped;
    apart = apart;
    barred = barred;
    aimed = aimed;
    alone = alone;
    still = still d.table.tree;
  }

  -- a unique index has each key once
  pub by_index : Aims d.key
      → ((db : Trees) (s : Row) → passes Unique store_schema db d.table s ≡ true
      → list_any (λ r. same_key d.key (bare (places d.table) r) (bare (places d.table) s)
      && differ (rowid r) (rowid s)) (db d.table.tree) ≡ false)
      → IsKeyed store_schema d.at d.table d.key d.key
  by_index aimed once = keyed_by d.key aimed (alone_by_index store_schema d.table d.key once)

  -- the rowids are the keys
  pub by_rowid : Aims (0 ∷ [])
      → ((a b : Row) → same_key d.key (bare (places d.table) a) (bare (places d.table) b) ≡ same_rowid a b)
      → IsKeyed store_schema d.at d.table d.key (0 ∷ [])
  by_rowid aimed is = keyed_by (0 ∷ []) aimed (alone_by_rowid store_schema d.table d.key is)
