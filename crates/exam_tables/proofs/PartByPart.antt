-- Calls that only read, one after the other, and what is made of what they load.
use Rattle.exam_tables.proofs.Words.{IfErr-weaker, Ghosts, Trees, Database, Held, state, HasCleanDisk, unchanged_then}
use Rattle.exam_tables.proofs.Words.{Refusal, NoMemory, BadStore}
use Rattle.std.proofs.Common.{◌≡◌, ◌⊎◌, ℕ, List, inl, inr, Result, Ok, Err, IfOk, IfErr, IsTrue, refl, sym, subst}
use Rattle.std.specs.List.{Contains}
use Rattle.exam_sql.specs.Texts.{load_texts}
use Rattle.exam_tables.specs.Loaded.{FailsThenFrom}
use Rattle.exam_tables.specs.Parts.{Loading, LoadingBy, Part, then_part}
use Rattle.exam_tables.proofs.Leaving.{both_survive, left_then, still_itself, still_then}
use Rattle.exam_tables.proofs.Refusing.{part_failed}

module _ {S : Type 0} (g : Ghosts S) (old new : Held S) where
  -- a query of one of the texts is all that may fail
  pub by_queries : {A : Type 0} (text : List ℕ) → Contains load_texts text
      → (result : Result A Refusal) (part : Part A) → LoadingBy text g old new result part
      → Loading g old new result part
  by_queries text known result part it = record {
    rows = it.rows;
    bad = λ clean. IfErr-weaker result _ _
        (λ e. part_failed e (λ fails. (old, still_itself (state g old), text, known, fails)) (λ none. none))
        (it.bad clean);
    left = it.left;
    unchanged = it.unchanged;
    understood = it.understood;
    survives = it.survives;
    early = it.early;
    told = it.told;
  }

  -- from one part to another, where each database that may hold the other may hold the one
  module _ {A B : Type 0} (one : Part A) (other : Part B)
      (holds : (all : Trees) → other.Holds (state g old).now all → one.Holds (state g old).now all) where
    -- where the one is not loaded, the other is not
    pub not_loaded : (e : Refusal)
        → (HasCleanDisk (state g new) → (all : Trees) → other.Holds (state g old).now all
        → one.HasNone (state g old).now all → other.HasNone (state g old).now all)
        → Loading g old new (Err e) one → Loading g old new (Err e) other
    not_loaded e none it = record {
      rows = λ clean. tt;
      bad = λ clean. part_failed e fails (λ lacks all was. none clean all was (lacks all (holds all was)))
          (it.bad clean);
      left = it.left;
      unchanged = it.unchanged;
      understood = λ clean. tt;
      survives = it.survives;
      early = it.early;
      told = it.told;
    }
      where
        fails : FailsThenFrom one.Holds g old new e → FailsThenFrom other.Holds g old new e
        fails (mid, still, text, known, (told, never)) = (
          mid,
          still,
          text,
          known,
          (
            told,
            λ there.
                never (
                  there.0,
                  subst (λ (db : Database). one.Holds db there.0) (sym still.now)
                      (holds there.0 (subst (λ (db : Database). other.Holds db there.0) still.now there.1)),
                ),
          ),
        )

    -- the other is made of the one, or is not
    pub loaded_as : (x : A) (result : Result B Refusal) → Loading g old new (Ok x) one
        → (HasCleanDisk (state g new)
        → IfOk result (λ y. (all : Trees) → other.Holds (state g old).now all → one.Has x (state g old).now all
        → other.Has y (state g old).now all))
        → IfErr result (λ e. (e ≡ NoMemory) ⊎ ((e ≡ BadStore)
        × (HasCleanDisk (state g new) → (all : Trees) → other.Holds (state g old).now all
        → one.Has x (state g old).now all → other.HasNone (state g old).now all)))
        → (HasCleanDisk (state g new)
        → IfOk result (λ y. one.Understands x (state g old).now → other.Understands y (state g old).now))
        → Loading g old new result other
    loaded_as x (Ok y) it rows why knows = record {
      rows = λ clean all was. rows clean all was (it.rows clean all (holds all was));
      bad = λ clean. tt;
      left = it.left;
      unchanged = λ clean. tt;
      understood = λ clean. knows clean (it.understood clean);
      survives = it.survives;
      early = it.early;
      told = tt;
    }
    loaded_as x (Err e) it rows why knows = record {
      rows = λ clean. tt;
      bad = λ clean. elim why [
        | inl lacks ↦ inl lacks
        | inr none ↦ inr
            (inr (none.0, λ all was. none.1 clean all was (it.rows clean all (holds all was))))
      ];
      left = λ clean. inl (it.left clean);
      unchanged = λ clean bad. it.left clean;
      understood = λ clean. tt;
      survives = it.survives;
      early = it.early;
      told = elim why [ inl lacks ↦ rw lacks refl | inr none ↦ rw none.0 refl ];
    }

-- a call that succeeded leaves the connection open
pub opened : {S A : Type 0} (g : Ghosts S) (old mid new : Held S) (one : Part A) (x : A) → Loading g old mid (Ok x) one
    → (HasCleanDisk (state g new) → HasCleanDisk (state g mid))
    → HasCleanDisk (state g new) → IsTrue (state g mid).is_open
opened g old mid new one x first early clean = (first.left (early clean)).0.is_open

module _ {S A B : Type 0} (g : Ghosts S) (old mid new : Held S) (one : Part A) (more : Part B) (x : A)
    (first : Loading g old mid (Ok x) one) where
  -- the next are not loaded
  pub next_fails : (e : Refusal) → Loading g mid new (Err e) more → Loading g old new (Err e) (then_part one more)
  next_fails e next = record {
    rows = λ clean. tt;
    bad = λ clean.
        let same = first.left (next.early clean) in
        part_failed e (λ fails. (
          fails.0,
          still_then (state g old) (state g mid) (state g fails.0) same first.survives fails.1,
          fails.2,
          fails.3,
          (fails.4.0, λ there. fails.4.1 (there.0, there.1.1)),
        ))
        (λ none all was. inr
        (subst (λ (db : Database). more.HasNone db all) same.0.now_is
        (none all (subst (λ (db : Database). more.Holds db all) (sym same.0.now_is) was.1)))) (next.bad clean);
    left = λ clean. left_then (state g old) (state g mid) (state g new) (first.left (next.early clean))
        (next.left clean);
    unchanged = λ clean bad. unchanged_then (state g old) (state g mid) (state g new) (first.left (next.early clean))
        (next.unchanged clean bad);
    understood = λ clean. tt;
    survives = both_survive (state g old) (state g mid) (state g new) first.survives next.survives;
    early = λ clean. first.early (next.early clean);
    told = next.told;
  }

  -- all are loaded
  pub all_load : (y : B) → Loading g mid new (Ok y) more → Loading g old new (Ok (x, y)) (then_part one more)
  all_load y next = record {
    rows = λ clean all was.
        let same = first.left (next.early clean) in (
          first.rows (next.early clean) all was.0,
          subst (λ (db : Database). more.Has y db all) same.0.now_is
              (next.rows clean all (subst (λ (db : Database). more.Holds db all) (sym same.0.now_is) was.1)),
        );
    bad = λ clean. tt;
    left = λ clean. unchanged_then (state g old) (state g mid) (state g new) (first.left (next.early clean))
        (next.left clean);
    unchanged = λ clean. tt;
    understood = λ clean. (
      first.understood (next.early clean),
      subst (more.Understands y) (first.left (next.early clean)).0.now_is (next.understood clean),
    );
    survives = both_survive (state g old) (state g mid) (state g new) first.survives next.survives;
    early = λ clean. first.early (next.early clean);
    told = tt;
  }
