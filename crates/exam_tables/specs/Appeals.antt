-- The appeals of a session from a key on, and one as the database shows it by its key.
use Rattle.std.specs.Prelude.{◌≡◌, ◌&&◌, ℕ, Bool, nat_eq, List, [], ◌∷◌, filter}
use Rattle.std.specs.BTreeMap.Range.{entries_between}
use Rattle.std.specs.declared.ops.Bound.{Bound}
use Rattle.std.specs.declared.ops.Bound.TheVariants.{Unbounded}
use Rattle.std.specs.List.{Contains as IsAmong}
use Rattle.sqlite_value.specs.declared.value.Value.TheVariants.{Text}
use Rattle.sqlite_value.specs.Order.{Row}
use Rattle.sqlite_trees.specs.Tree.{Trees}
use Rattle.sqlite.specs.declared.error.Error.{Error}
use Rattle.sqlite.specs.Effect.{Database}
use Rattle.sqlite.specs.State.{State, FailsToQuery, IsUnchanged, Shown}
use Rattle.exam_sql.specs.Texts.{find_appeal}
use Rattle.exam_types.specs.declared.refusal.Refusal.{Refusal}
use Rattle.exam_types.specs.declared.refusal.Refusal.TheVariants.{BadStore, Store}
use Rattle.exam_rules.specs.contracts.rows.AppealPartialEq.TheImpl as appeal_eq
use Rattle.exam_rules.specs.declared.rows.Appeal.{Appeal}
use Rattle.exam_rules.specs.Orders.{KeysRise}
use Rattle.exam_rules.specs.Relations.{Code, appeal_cmp, same_code}
use Rattle.exam_tables.specs.Faults.{refusal_of}
use Rattle.exam_tables.specs.Forms as forms
use Rattle.exam_tables.specs.Held.{HasRows}
use Rattle.exam_tables.specs.Inside.{Contains}
use Rattle.exam_tables.specs.Rows.{appeal_row}
use Rattle.exam_tables.specs.Stored.{whole}

-- an appeal with its key
abbrev pub KeyedAppeal : Type 0
KeyedAppeal = (ℕ × Code) × Appeal

-- the appeals of a session
abbrev pub appeals_in : List KeyedAppeal → Code → List KeyedAppeal
appeals_in appeals s = filter (λ (a : KeyedAppeal). same_code a.1.session s) appeals

-- the database has exactly these appeals, whose keys rise, in its table
pub record HasAppealRows (db : Database) (appeals : List KeyedAppeal) : Type 0 where
  pub all : Trees
  pub contains : Contains db all
  pub rises : KeysRise appeal_cmp appeals
  pub same : HasRows forms.appeals appeals all

-- the appeals of the session whose keys are from this bound on
abbrev pub appeals_from : List KeyedAppeal → Code → Bound (ℕ × Code) → List KeyedAppeal
appeals_from appeals s from = appeals_in (entries_between appeal_cmp from Unbounded appeals) s

-- whether they have the same key, and are the same
abbrev pub same_appeal : KeyedAppeal → KeyedAppeal → Bool
same_appeal a b = (nat_eq a.0.0 b.0.0 && same_code a.0.1 b.0.1) && appeal_eq.ghosts.eq a.1 b.1

-- the columns of the key of an appeal, by which it is found
abbrev pub appeal_key : ℕ × Code → Row
appeal_key key = whole key.0 ∷ Text key.1 ∷ []

-- the query for the key of the appeal shows its row, and no other
abbrev pub ShowsAppeal : KeyedAppeal → State → State → Type 0
ShowsAppeal it old new = Shown find_appeal (appeal_key it.0) old new (appeal_row it.0 it.1 ∷ [])

-- Why an appeal is not confirmed: the refusal is `Store` only as the failed query was reported. It is `BadStore` only
-- if the appeal is none of those that the database has, and then nothing has changed.
pub record FailsToConfirm (it : KeyedAppeal) (old new : State) (e : Refusal) : Type 0 where
  pub told : e ≡ Store → (error : Error) × (e ≡ refusal_of error)
      × FailsToQuery find_appeal (appeal_key it.0) old new error
  pub same : e ≡ BadStore → IsUnchanged old new
  pub none : e ≡ BadStore → (appeals : List KeyedAppeal) → HasAppealRows old.now appeals → IsAmong appeals it → ⊥
