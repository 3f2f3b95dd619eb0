-- A database that is refused before it is asked anything.
use Rattle.exam_tables.proofs.Words.{both_ways, Trees, Database, State, FailsToQuery, IsNotRun, Refusal, BadStore}
use Rattle.exam_tables.proofs.Words.{refusal_of, IsLeft}
use Rattle.std.proofs.Common.{◌≡◌, ℕ, List, Bool, true, false, Result, Ok, Err, OnOk, IfErr, inl, inr, ap, sym, ◌∙◌}
use Rattle.exam_sql.specs.Made.{ContainsMade, lists_tables}
use Rattle.exam_sql.proofs.Listed.{tables_listed}
use Rattle.exam_tables.specs.Loaded.{FailsToLoad}
use Rattle.exam_tables.specs.Unasked.{FailsToAsk}
use Rattle.exam_tables.proofs.Leaving.{no_disk}

pub asks_not_bad : (old new : State) (e : Refusal) → FailsToAsk old new e → e ≡ BadStore → ⊥
asks_not_bad old new e (error, is, (why, told, has, back, tells)) bad =
    no_disk why (sym (is ∙ ap refusal_of told) ∙ bad)

-- so no query could be run either
pub asks_as_load : (text : List ℕ) (old new : State) (e : Refusal) → FailsToAsk old new e → FailsToLoad text old new e
unfolding FailsToQuery IsNotRun
asks_as_load text old new e (error, is, fails) =
    ((error, is, inl (inr fails)), λ there bad. asks_not_bad old new e (error, is, fails) bad)

pub asks_left : (old new : State) (e : Refusal) → FailsToAsk old new e → IsLeft old new
asks_left old new e (error, is, (why, told, has, back, tells)) = inr back

-- the tables of every version are listed
pub unlisted_none : (db : Database) (all : Trees) → lists_tables db.schema ≡ false → ContainsMade db all → ⊥
unlisted_none db all without was = let both : true ≡ false = sym (tables_listed db all was) ∙ without in absurd cc

-- whatever is answered once the tables are listed
pub ok_listed : {A : Type 0} {listed : Bool} (result : Result A Refusal) → listed ≡ true → OnOk result (listed ≡ true)
ok_listed (Ok value) is = is
ok_listed (Err e) is = tt

pub never_unlisted : {A : Type 0} {listed : Bool} (P : Refusal → Type 0) (result : Result A Refusal) → listed ≡ true
    → listed ≡ false → IfErr result P
never_unlisted P result is none = absurd (both_ways _ none is)
