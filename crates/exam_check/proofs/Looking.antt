-- Calls that only read.
use Rattle.std.proofs.Common.{◌≡◌, ◌⊎◌, false, inl, inr, Result, Ok, Err, IfErr, IsTrue}
use Rattle.std.proofs.Common.{refl, sym, ap, subst, ◌∙◌}
use Rattle.std.proofs.lemmas.Bool.{both_ways}
use Rattle.std.proofs.lemmas.Result.{IfErr-weaker}
use Rattle.sqlite_trees.specs.declared.store.Store.{Ghosts}
use Rattle.sqlite_trees.specs.Tree.{Trees}
use Rattle.sqlite.specs.Effect.{Database}
use Rattle.sqlite.specs.Held.{Held, state}
use Rattle.sqlite.specs.State.{HasCleanDisk}
use Rattle.exam_types.specs.declared.refusal.Refusal.{Refusal}
use Rattle.exam_types.specs.declared.refusal.Refusal.TheVariants.{NoMemory, Store, BadStore, OldSchema}
use Rattle.exam_sql.specs.Made.{lists_marks}
use Rattle.exam_sql.specs.Texts.{load_office}
use Rattle.exam_tables.specs.Faults.{is_store_refusal}
use Rattle.exam_tables.specs.Loaded.{FailsThenFrom, IsLoadRefusal}
use Rattle.exam_tables.specs.OurTables.{office_loads}
use Rattle.exam_tables.specs.Parts.{Loading, LoadingBy, Part, version_part}
use Rattle.exam_tables.specs.Versions.{HasVersion, IsOlder, version}
use Rattle.exam_tables.specs.declared.version.Version.{Version}
use Rattle.exam_tables.proofs.Leaving.{reads_only}
use Rattle.exam_tables.proofs.PartByPart.{by_queries}
use Rattle.exam_store.specs.Found.{IsNoOlder}
use Rattle.exam_store.proofs.Marking.{listed_of, made_of, one_version, opens_as}
use Rattle.exam_check.specs.FirstBad.{HasGoodVersion}
use Rattle.exam_check.specs.Reading.{Looks}
use Rattle.exam_check.specs.Refused.{FailsToCheck}

-- what any call that reads may answer
one_of : (e : Refusal) → IsTrue (is_store_refusal e) → (e ≡ BadStore) ⊎ ((e ≡ NoMemory) ⊎ (e ≡ Store))
one_of NoMemory told = inr (inl refl)
one_of Store told = inr (inr refl)
one_of BadStore told = inl refl
one_of _ told = absurd cc

module _ {S : Type 0} (g : Ghosts S) (old new : Held S) where
  abbrev FailsAs : {A : Type 0} → Part A → Refusal → Type 0
  FailsAs part = IsLoadRefusal (FailsThenFrom part.Holds g old new)
      ((all : Trees) → part.Holds (state g old).now all → part.HasNone (state g old).now all)

  -- a refusal to load what the tables of the newest version hold
  pub looks_fails : {A B : Type 0} (e : Refusal) (part : Part A)
      → ((all : Trees) → HasGoodVersion (state g old).now all
      → part.Holds (state g old).now all × (part.HasNone (state g old).now all → ⊥))
      → Loading g old new (Err e) part → Looks {A = B} g old new (Err e)
  looks_fails e part holds it = record {
    early = it.early;
    survives = it.survives;
    left = it.left;
    bad = λ clean is. (it.unchanged clean is, λ all good. never all good is (it.bad clean));
    refused = λ clean. refused (one_of e it.told) (it.bad clean);
    told = opens_as e it.told;
  }
    where
      never : (all : Trees) → HasGoodVersion (state g old).now all → e ≡ BadStore → FailsAs part e → ⊥
      never all good is (inl lacks) = let same : NoMemory ≡ BadStore = sym lacks ∙ is in absurd cc
      never all good is (inr (inl (mid, still, text, loads, (told, sound)))) =
          sound (all, subst (λ (db : Database). part.Holds db all) (sym still.now) (holds all good).0) is
      never all good is (inr (inr (bad, none))) = (holds all good).1 (none all (holds all good).0)

      refused : (e ≡ BadStore) ⊎ ((e ≡ NoMemory) ⊎ (e ≡ Store)) → FailsAs part e
          → (e ≡ BadStore) ⊎ FailsToCheck g old new e
      refused (inl bad) why = inl bad
      refused (inr (inl lacks)) why = inr (inl lacks)
      refused (inr (inr store)) (inl lacks) = inr (inl lacks)
      refused (inr (inr store)) (inr (inl (mid, still, text, loads, (told, sound)))) =
          inr (inr (inl (
            (
              mid,
              still,
              text,
              loads,
              (told, λ there bad. let same : Store ≡ BadStore = sym store ∙ bad in absurd cc),
            ),
            store,
          )))
      refused (inr (inr store)) (inr (inr (bad, none))) = inl bad

  -- what is made of what was loaded, which may want memory
  pub looks_on : {A B : Type 0} (x : A) (part : Part A) (result : Result B Refusal)
      → Loading g old new (Ok x) part → IfErr result (λ e. e ≡ NoMemory) → Looks g old new result
  looks_on x part result read lacks = record {
    early = read.early;
    survives = read.survives;
    left = λ clean. reads_only (state g old) (state g new) result (read.left clean);
    bad = λ clean. IfErr-weaker result _ _
        (λ e lack bad. absurd (let same : NoMemory ≡ BadStore = sym lack ∙ bad in cc)) lacks;
    refused = λ clean. IfErr-weaker result _ _ (λ e lack. inr (inl lack)) lacks;
    told = IfErr-weaker result _ _ (λ e lack. rw lack refl) lacks;
  }

  -- where no version could be read, the tables have the row of none, and so of no older one
  pub unread_newest : (e : Refusal) → LoadingBy load_office g old new (Err e) version_part → HasCleanDisk (state g new)
      → e ≡ BadStore → IsNoOlder (state g old).now
  unread_newest e read clean bad v known all was has = elim (read.bad clean) [
    | inl lacks ↦ let same : NoMemory ≡ BadStore = sym lacks ∙ bad in absurd cc
    | inr (inl fails) ↦ absurd (fails.1 (all, was) bad)
    | inr (inr none) ↦ absurd (none.1 all was v known has)
  ]

  -- the version that could not be read
  pub version_looks : {A : Type 0} (e : Refusal) → LoadingBy load_office g old new (Err e) version_part
      → Looks {A = A} g old new (Err e)
  version_looks e read = looks_fails e version_part
      (λ all good. (made_of version (state g old).now all good.0, λ none. none version (inr refl) good.1))
      (by_queries g old new load_office office_loads (Err e) version_part read)

  module _ (v : Version) (read : LoadingBy load_office g old new (Ok v) version_part) where
    -- if it is the newest, the row is that of no older one
    pub read_newest : HasCleanDisk (state g new) → v.number ≡ version → IsNoOlder (state g old).now
    read_newest clean is w known all was has =
        one_version w version all has (subst (λ n. HasVersion n all) is (read.rows clean all was))

    -- the office of an older version
    pub looks_old : {A : Type 0} → IsOlder v.number → Looks {A = A} g old new (Err OldSchema)
    looks_old older = record {
      early = read.early;
      survives = read.survives;
      left = λ clean. inl (read.left clean);
      bad = λ clean bad. let same : OldSchema ≡ BadStore = bad in absurd cc;
      refused = λ clean. inr (inr (inr (refl, λ all was. (v.number, older, read.rows clean all was))));
      told = refl;
    }

    -- no table has the name of the marks, as one has since version 2
    pub looks_unmarked : {A : Type 0} → lists_marks (state g new).now.schema ≡ false
        → Looks {A = A} g old new (Err BadStore)
    looks_unmarked none = record {
      early = read.early;
      survives = read.survives;
      left = λ clean. inl (read.left clean);
      bad = λ clean bad. (
        read.left clean,
        λ all good. both_ways _ none
            (ap (λ (db : Database). lists_marks db.schema) (read.left clean).0.now_is
            ∙ listed_of version (state g old).now all good.0),
      );
      refused = λ clean. inl refl;
      told = refl;
    }
