-- The text that makes a table adds it, empty, to the tables that are there, and nothing forbids it.
use Rattle.exam_sql.proofs.Words.{list_all, Text, Trees, with_tree, CreateTable, Index, Schema, Table, table_reals}
use Rattle.exam_sql.proofs.Words.{Error, created, next_tree, table_defined_by, lacks_sequence, IsDatabase, understood}
use Rattle.exam_sql.proofs.Words.{State, Executes, ExecutesInside, IsPlain, command_of, statement_of, ContainsIn, Fails}
use Rattle.exam_sql.proofs.Words.{Described, made}
use Rattle.std.proofs.Common.{◌≡◌, ◌+◌, ◌*◌, ◌^◌, ◌<◌, ◌==◌, ℕ, true, false, not, List, [], length, codes, IsUtf8}
use Rattle.std.proofs.Common.{nat_lt, Ok, Err, Result, OnOk, subst}
use Rattle.sqlite_catalog.specs.Change.{is_used, is_reserved, automatics}
use Rattle.sqlite_catalog.specs.Listing.{is_fit, is_formed}
use Rattle.sqlite_schema.specs.Rules.{index_reals}
use Rattle.exam_sql.proofs.CreateFails.{IsFree, fails_create}
use Rattle.exam_sql.proofs.Creates.{create_by, sound_by}
use Rattle.exam_sql.proofs.StatementFails.{IsWhole}

-- the text is one statement that makes a table
abbrev pub IsCreate : Schema → List ℕ → Type 0
IsCreate before text =
    (command_of (understood before text) ≡ CreateTable) × (statement_of text (understood before text) ≡ text)
    × IsPlain (understood before text) × IsWhole text 0 (understood before text)

-- as it is defined, a table has no tree yet
abbrev pub unplaced : Described → Table
unplaced d = record d.table { tree = 0 }

-- the text of a table adds it to the tables of a schema
pub record AddsTable (before after : Schema) (d : Described) : Type 0 where
  pub create : IsCreate before d.create
  pub defined : table_defined_by d.create ≡ Ok (unplaced d)
  pub after_is : created before (unplaced d) ≡ after
  pub uncounted : lacks_sequence (created before (unplaced d)) ≡ false
  pub fresh : list_all (λ t. not (t.tree == next_tree before)) before.tables ≡ true
  pub tree_is : next_tree before ≡ d.table.tree
  pub free : IsFree before (unplaced d) d.create

-- and so to those that are made before it
abbrev pub Adds : Described → Type 0
Adds d = AddsTable (made d.at) (made (d.at + 1)) d

pub adds_by : (d : Described) → IsCreate (made d.at) d.create → table_defined_by d.create ≡ Ok (unplaced d)
    → created (made d.at) (unplaced d) ≡ made (d.at + 1) → lacks_sequence (created (made d.at) (unplaced d)) ≡ false
    → list_all (λ t. not (t.tree == next_tree (made d.at))) (made d.at).tables ≡ true
    → next_tree (made d.at) ≡ d.table.tree → is_used (made d.at) d.table.name ≡ false
    → list_all (λ (i : Index). not (is_used (made d.at) i.name)) (automatics (unplaced d) 0 0 d.table.uniques) ≡ true
    → IsUtf8 d.create → IsUtf8 d.table.name → is_reserved d.table.name ≡ false
    → next_tree (made d.at) + length d.table.uniques < 65536
    → table_reals (unplaced d) < 2 ^ 64
    → list_all (λ key. nat_lt (index_reals (table_reals (unplaced d)) key) (2 ^ 64)) d.table.uniques ≡ true
    → is_formed (unplaced d) ≡ true
    → is_fit (Text (codes "table")) (Text d.table.name) (Text d.table.name) (Text d.create) ≡ true
    → 2 * length d.table.name + length d.create + 200 < 10 ^ 9 → Adds d
adds_by d create defined after_is uncounted fresh tree_is name keys utf8 name_utf8 own few narrow narrow_keys formed
    fit short = record {
      create = create;
      defined = defined;
      after_is = after_is;
      uncounted = uncounted;
      fresh = fresh;
      tree_is = tree_is;
      free = record {
        name = name;
        keys = keys;
        utf8 = utf8;
        name_utf8 = name_utf8;
        own = own;
        few = few;
        narrow = narrow;
        narrow_keys = narrow_keys;
        formed = formed;
        fit = fit;
        short = short;
      };
    }

module _ {before after : Schema} {d : Described} (adds : AddsTable before after d) where
  -- the new table is empty, and the others hold what they held
  pub adds_table : (old new : State) (r : Result ℕ Error) → Executes d.create [] old new r
      → OnOk r ((all : Trees) → ContainsIn before old.now all
      → ContainsIn after new.now (with_tree all d.table.tree []))
  adds_table old new r h =
      subst (λ s. OnOk r ((all : Trees) → ContainsIn before old.now all
      → ContainsIn s new.now (with_tree all d.table.tree []))) adds.after_is
      (subst (λ t. OnOk r ((all : Trees) → ContainsIn before old.now all
      → ContainsIn (created before (unplaced d)) new.now (with_tree all t []))) adds.tree_is
      (create_by before (unplaced d) d.create adds.create.0 adds.create.2 adds.create.1 adds.defined adds.uncounted
      adds.fresh old new r h))

  -- the database is sound after it
  pub adds_soundly : (old new : State) (count : ℕ) → old.now.schema ≡ before → Executes d.create [] old new (Ok count)
      → IsDatabase new.now
  adds_soundly old new count has h =
      sound_by before (unplaced d) d.create adds.create.0 adds.create.2 adds.create.1 adds.defined adds.uncounted
      adds.fresh old new count has h

  -- no database that has the tables before it refuses it, whatever their rows
  pub adding_fails : (old new : State) → old.now.schema ≡ before → (e : Error)
      → ExecutesInside 0 d.create [] old new (Err e) → Fails old new ⊥ e
  adding_fails old new has e h =
      fails_create before (unplaced d) d.create adds.create.0 adds.create.2 adds.create.3 adds.create.1 adds.defined
      adds.uncounted adds.free old new has e h
