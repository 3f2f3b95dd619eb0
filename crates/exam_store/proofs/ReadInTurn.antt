-- What reading appeals one by one leaves, and why it is refused.
use Rattle.std.proofs.Common.{◌≡◌, ◌⊎◌, ℕ, suc, Option, Some, Result, Ok, Err, List, [], ◌∷◌, map, inl, inr, refl, sym}
use Rattle.std.proofs.Common.{ap, subst, ◌∙◌, arith}
use Rattle.std.specs.Prelude.{IsTrue, IfOk, IfErr}
use Rattle.std.specs.BTreeMap.Range.{entries_between, range_contains}
use Rattle.std.specs.declared.ops.Bound.{Bound}
use Rattle.std.specs.declared.ops.Bound.TheVariants.{Excluded, Unbounded}
use Rattle.std.specs.List.{Contains as IsAmong}
use Rattle.sqlite_trees.specs.declared.store.Store.{Ghosts}
use Rattle.sqlite_rules.specs.Lists.{Has}
use Rattle.sqlite_rules.proofs.ListLemmas.{has_filtered}
use Rattle.sqlite.specs.Effect.{Database}
use Rattle.sqlite.specs.Held.{Held, state}
use Rattle.sqlite.specs.State.{State as Shown, HasCleanDisk, Survives}
use Rattle.exam_types.specs.declared.refusal.Refusal.{Refusal}
use Rattle.exam_types.specs.declared.refusal.Refusal.TheVariants as refusal
use Rattle.exam_rules.specs.Orders.{KeysRise}
use Rattle.exam_rules.specs.Relations.{Code, appeal_cmp, same_code}
use Rattle.exam_rules.specs.Tables as table
use Rattle.exam_commands.specs.State.{State as Office}
use Rattle.exam_views.specs.declared.view.AppealRow.{AppealRow}
use Rattle.exam_views.specs.Sources.{Gives, is_source_refusal}
use Rattle.exam_views.specs.Views.{appeal_row, appeals_of}
use Rattle.exam_tables.specs.Appeals.{FailsToConfirm, KeyedAppeal, appeals_from, appeals_in}
use Rattle.exam_tables.specs.Faults.{is_store_refusal}
use Rattle.exam_tables.specs.Loaded.{IsLeft, OnlyReads}
use Rattle.exam_store.specs.Kept.{Keeps}
use Rattle.exam_store.specs.InTurn.{FailsToRead, bound_after, rows_from}
use Rattle.exam_store.specs.OnlyRead.{read_itself}
use Rattle.exam_store.specs.Stores.{OfficeIn}

-- ---- what is left

pub clean_before : (old new : Shown) → Survives old new (λ _. ⊥) → HasCleanDisk new → HasCleanDisk old
clean_before old new survives clean = let grows = survives.clean in omega (arith, grows, clean)

-- ---- why nothing is read

pub among : (appeals : List KeyedAppeal) (s : Code) (from : Bound (ℕ × Code)) (it : KeyedAppeal)
    (rest : List KeyedAppeal) → appeals_from appeals s from ≡ it ∷ rest → IsAmong appeals it
among appeals s from it rest is =
    let first : Has (appeals_from appeals s from) it = subst (λ (l : List KeyedAppeal). Has l it) (sym is) (inl refl) in
    let later = (has_filtered (λ (a : KeyedAppeal). same_code a.1.session s)
    (entries_between appeal_cmp from Unbounded appeals) it first).0 in
    contained appeals it
    (has_filtered (λ (a : KeyedAppeal). range_contains appeal_cmp from Unbounded a.0) appeals it later).0
  where
    contained : (xs : List KeyedAppeal) (x : KeyedAppeal) → Has xs x → IsAmong xs x
    contained [] x has = absurd has
    contained (y ∷ ys) x (inl here) = (0, omega arith, sym here)
    contained (y ∷ ys) x (inr has) = let at = contained ys x has in (suc at.0, omega (arith, at.1), at.2)

pub fails_to_read : {S : Type 0} (g : Ghosts S) (office : Office) (old new : Held S) (it : KeyedAppeal)
    → KeysRise appeal_cmp office.relations.appeals → IsAmong office.relations.appeals it
    → (e : Refusal) → IsTrue (is_store_refusal e)
    → (HasCleanDisk (state g new) → FailsToConfirm it (state g old) (state g new) e)
    → IsTrue (is_source_refusal e)
    × FailsToRead g (record { office = office; database = old }) (record { office = office; database = new }) e
fails_to_read g office old new it rises has refusal.NoMemory told fails = (refl, tt)
fails_to_read {S} g office old new it rises has refusal.Store told fails =
    let here : OfficeIn S = record { office = office; database = old } in
    (refl, λ clean. let why = (fails clean).told refl in (here, read_itself g here, it.0, why.0, why.1, why.2))
fails_to_read g office old new it rises has refusal.BadStore told fails = (
  refl,
  λ clean keeps. let why = fails clean in let was =
      subst (λ (db : Database). Keeps db office) ((why.same refl).0.now_is) keeps in
      why.none refl office.relations.appeals
      (record { all = was.all; contains = was.contains; rises = rises; same = (was.held.facts table.Appeals) }) has,
)
fails_to_read g office old new it rises has other told fails = absurd cc

-- ---- what is given

pub gives_first : (office : Office) (s : Code) (from : Bound (ℕ × Code)) (it : KeyedAppeal) (row : AppealRow)
    → row ≡ appeal_row it
    → appeals_from office.relations.appeals s from ≡ it ∷ appeals_from office.relations.appeals s (Excluded it.0)
    → rows_from office s from ≡ row ∷ rows_from office s (Excluded (row.number, row.reference))
gives_first office s from it row is first =
    ap (map appeal_row) first
    ∙ subst (λ (r : AppealRow). appeal_row it ∷ rows_from office s (Excluded it.0) ≡ r
    ∷ rows_from office s (Excluded (r.number, r.reference))) (sym is) refl

pub gives_ok : (office : Office) (s : Code) (from : Bound (ℕ × Code)) (it : KeyedAppeal)
    → appeals_from office.relations.appeals s from ≡ it ∷ appeals_from office.relations.appeals s (Excluded it.0)
    → (result : Result (Option AppealRow) Refusal) → IfOk result (λ row. row ≡ Some (appeal_row it))
    → IfOk result (λ row. Gives row (rows_from office s from) (rows_from office s (bound_after from row)))
gives_ok office s from it first (Err e) is = tt
gives_ok office s from it first (Ok row) is =
    subst (λ (r : Option AppealRow). Gives r (rows_from office s from) (rows_from office s (bound_after from r)))
    (sym is) (gives_first office s from it (appeal_row it) refl first)

pub refused_all : {A S : Type 0} (g : Ghosts S) (office : Office) (old new : Held S) (it : KeyedAppeal)
    → KeysRise appeal_cmp office.relations.appeals → IsAmong office.relations.appeals it
    → (result : Result A Refusal) → IfErr result (λ e. IsTrue (is_store_refusal e))
    → (HasCleanDisk (state g new) → IfErr result (FailsToConfirm it (state g old) (state g new)))
    → IfErr result (λ e. IsTrue (is_source_refusal e)
    × FailsToRead g (record { office = office; database = old }) (record { office = office; database = new }) e)
refused_all g office old new it rises has (Ok value) told fails = tt
refused_all g office old new it rises has (Err e) told fails = fails_to_read g office old new it rises has e told fails

pub left_any : {A E S : Type 0} (g : Ghosts S) (old new : Held S) (result : Result A E)
    → OnlyReads (state g old) (state g new) result → (new ≡ old) ⊎ IsLeft (state g old) (state g new)
left_any g old new (Ok value) same = inr (inl same)
left_any g old new (Err e) left = inr left

-- ---- from the start

all_from : (appeals : List KeyedAppeal) → entries_between appeal_cmp Unbounded Unbounded appeals ≡ appeals
all_from [] = refl
all_from (a ∷ appeals) = ap (λ l. a ∷ l) (all_from appeals)

pub rows_whole : (office : Office) (s : Code) → rows_from office s Unbounded ≡ appeals_of office.relations s
rows_whole office s = ap (λ (l : List KeyedAppeal). map appeal_row (appeals_in l s)) (all_from office.relations.appeals)
